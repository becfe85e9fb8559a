use Rattle.std.proofs.Common.{◌∙◌, List}
use Rattle.std.proofs.lemmas.Result.{err_from_is_err_and}
use Rattle.extent_seal.proofs.HeardLemmas.{heard_then}
use Rattle.stamp_types.specs.declared.committed.UncommittedBlock.{UncommittedBlock}
use Rattle.stamp_types.specs.declared.piece.Piece.{Piece}
use Rattle.stream_manager.specs.Streams.{laid}
use Rattle.partition_stream.proofs.DataLemmas.{twice_on}
use Rattle.partition_stream.proofs.HeardLemmas.{compaction_later}
use Rattle.partition_stream.proofs.MoveLemmas.{grows_twice}
use Rattle.partition_stream.proofs.RewritingLemmas.{all_after, all_stay, uncommitted_again}
use Rattle.partition_stream.proofs.rewriting.put_uncommitted_again.Goals as goal

pub loop-block-preserved : goal.loop-block-preserved
loop-block-preserved g c = record {
  stored = all_stay (λ (b : UncommittedBlock). b.content) (laid c.loop-block.blobs) (laid c.put_uncommitted_block_again.new.blobs) c.put_uncommitted_block_again.ensures.follows.1.kept c.args.blocks.now c.loop-block.invariant.stored;
  moved = uncommitted_again (laid c.args.blobs.now) (laid c.loop-block.blobs) (laid c.put_uncommitted_block_again.new.blobs) c.loop-block.invariant.follows.1.kept c.put_uncommitted_block_again.ensures.follows.1.kept
      c.args.blocks.now c.loop-block.moved.items c.push.new.self.items c.loop-block.block-index c.block-item.result c.in_ok-at.at
      c.loop-block-test.true c.block-item.is c.requires c.loop-block.invariant.moved c.in_ok-at.ensures.moved c.in_ok-push.ensures.items;
  after = all_after (λ (b : UncommittedBlock). b.content) c.args.blobs.now c.loop-block.blobs c.loop-block.moved.items c.push.new.self.items c.in_ok-at.at
      c.loop-block.invariant.follows c.loop-block.invariant.after c.in_ok-at.ensures.after c.in_ok-push.ensures.items;
  follows = twice_on (laid c.args.blobs.now) (laid c.loop-block.blobs) (laid c.put_uncommitted_block_again.new.blobs) c.loop-block.invariant.follows c.put_uncommitted_block_again.ensures.follows;
  limit = c.put_uncommitted_block_again.ensures.limit ∙ c.loop-block.invariant.limit;
  counted = grows_twice (g.W.Wire.faults c.args.wire.now) (g.W.Wire.faults c.loop-block.wire) (g.W.Wire.faults c.put_uncommitted_block_again.new.wire) c.loop-block.invariant.counted c.in_ok-at.ensures.counted;
  heard = heard_then (g.W.Wire.calls c.args.wire.now) (g.W.Wire.calls c.loop-block.wire) (g.W.Wire.calls c.put_uncommitted_block_again.new.wire)
      (g.W.Wire.faults c.args.wire.now) (g.W.Wire.faults c.loop-block.wire) (g.W.Wire.faults c.put_uncommitted_block_again.new.wire) c.loop-block.invariant.heard c.in_ok-at.ensures.heard;
}

pub returns-in_err-at-clause-follows : goal.returns-in_err-at-clause-follows
returns-in_err-at-clause-follows g c = twice_on (laid c.args.blobs.now) (laid c.loop-block.blobs) (laid c.put_uncommitted_block_again.new.blobs) c.loop-block.invariant.follows c.put_uncommitted_block_again.ensures.follows

pub returns-in_err-push-clause-follows : goal.returns-in_err-push-clause-follows
returns-in_err-push-clause-follows g c = twice_on (laid c.args.blobs.now) (laid c.loop-block.blobs) (laid c.put_uncommitted_block_again.new.blobs) c.loop-block.invariant.follows c.put_uncommitted_block_again.ensures.follows

pub returns-in_err-at-clause-heard : goal.returns-in_err-at-clause-heard
returns-in_err-at-clause-heard g c =
    let p = err_from_is_err_and c.from_residual-in_err-at.result c.from_residual-in_err-at.ensures.1 in
    rw (p.1, p.2) (compaction_later c.in_err-at.field-0.0 (g.W.Wire.calls c.args.wire.now) (g.W.Wire.calls c.loop-block.wire) (g.W.Wire.calls c.put_uncommitted_block_again.new.wire)
    (g.W.Wire.faults c.args.wire.now) (g.W.Wire.faults c.loop-block.wire) (g.W.Wire.faults c.put_uncommitted_block_again.new.wire) c.loop-block.invariant.heard c.in_err-at.ensures.heard)

pub returns-in_err-push-clause-heard : goal.returns-in_err-push-clause-heard
returns-in_err-push-clause-heard g c =
    let p = err_from_is_err_and c.from_residual-in_err-push.result c.from_residual-in_err-push.ensures.1 in
    rw (p.1, p.2) (heard_then (g.W.Wire.calls c.args.wire.now) (g.W.Wire.calls c.loop-block.wire) (g.W.Wire.calls c.put_uncommitted_block_again.new.wire)
    (g.W.Wire.faults c.args.wire.now) (g.W.Wire.faults c.loop-block.wire) (g.W.Wire.faults c.put_uncommitted_block_again.new.wire) c.loop-block.invariant.heard c.in_ok-at.ensures.heard)
