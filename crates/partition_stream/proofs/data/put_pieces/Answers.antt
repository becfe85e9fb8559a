use Rattle.std.proofs.Common.{◌∙◌, arith, inr, rules}
use Rattle.extent_seal.proofs.HeardLemmas.{heard_then}
use Rattle.stream_manager.specs.Streams.{laid}
use Rattle.partition_stream.proofs.DataLemmas.{pieces_after, placed_more, twice_on}
use Rattle.partition_stream.proofs.data.put_pieces.Goals as goal

pub loop-piece-preserved : goal.loop-piece-preserved
loop-piece-preserved g c = record {
  placed = placed_more (laid c.loop-piece.blobs) (laid c.put_piece.new.blobs) c.args.pieces.now c.loop-piece.placed.items c.push.new.self.items
      c.loop-piece.piece-index c.piece-item.result c.in_ok-at.at c.loop-piece-test.true c.piece-item.is
      c.put_piece.ensures.kept c.loop-piece.invariant.placed c.in_ok-at.ensures.placed c.in_ok-push.ensures.items;
  after = pieces_after c.args.blobs.now c.loop-piece.blobs c.loop-piece.placed.items c.push.new.self.items c.in_ok-at.at
      c.loop-piece.invariant.follows c.loop-piece.invariant.after c.in_ok-at.ensures.after c.in_ok-push.ensures.items;
  kept = λ p b here. c.put_piece.ensures.kept p b (c.loop-piece.invariant.kept p b here);
  follows = twice_on (laid c.args.blobs.now) (laid c.loop-piece.blobs) (laid c.put_piece.new.blobs) c.loop-piece.invariant.follows c.put_piece.ensures.follows;
  limit = c.put_piece.ensures.limit ∙ c.loop-piece.invariant.limit;
  called = (
    let now = c.in_ok-at.ensures.called in
        let before = c.loop-piece.invariant.called in
        (omega (arith, now, before), omega (arith, now, before), omega (arith, now, before)),
    let now = c.in_ok-at.ensures.called in
        let before = c.loop-piece.invariant.called in
        (omega (arith, now, before), omega (arith, now, before), omega (arith, now, before)),
  );
  counted = (
    let now = c.in_ok-at.ensures.counted in
        let before = c.loop-piece.invariant.counted in
        (omega (arith, now, before), omega (arith, now, before), omega (arith, now, before)),
    let now = c.in_ok-at.ensures.counted in
        let before = c.loop-piece.invariant.counted in
        (omega (arith, now, before), omega (arith, now, before), omega (arith, now, before)),
  );
  heard = heard_then (g.W.Wire.calls c.args.wire.now) (g.W.Wire.calls c.loop-piece.wire) (g.W.Wire.calls c.put_piece.new.wire)
      (g.W.Wire.faults c.args.wire.now) (g.W.Wire.faults c.loop-piece.wire) (g.W.Wire.faults c.put_piece.new.wire)
      c.loop-piece.invariant.heard (c.put_piece.ensures.heard (λ e. absurd (search rules)));
  spent = inr c.in_ok-at.ensures.ends;
}

pub returns-in_err-at-clause-follows : goal.returns-in_err-at-clause-follows
returns-in_err-at-clause-follows g c = twice_on (laid c.args.blobs.now) (laid c.loop-piece.blobs) (laid c.put_piece.new.blobs) c.loop-piece.invariant.follows c.put_piece.ensures.follows

pub returns-in_err-push-clause-follows : goal.returns-in_err-push-clause-follows
returns-in_err-push-clause-follows g c = twice_on (laid c.args.blobs.now) (laid c.loop-piece.blobs) (laid c.put_piece.new.blobs) c.loop-piece.invariant.follows c.put_piece.ensures.follows

pub returns-in_err-push-clause-heard : goal.returns-in_err-push-clause-heard
returns-in_err-push-clause-heard g c = λ _.
    heard_then (g.W.Wire.calls c.args.wire.now) (g.W.Wire.calls c.loop-piece.wire) (g.W.Wire.calls c.put_piece.new.wire)
    (g.W.Wire.faults c.args.wire.now) (g.W.Wire.faults c.loop-piece.wire) (g.W.Wire.faults c.put_piece.new.wire)
    c.loop-piece.invariant.heard (c.put_piece.ensures.heard (λ e. absurd (search rules)))
