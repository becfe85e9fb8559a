use Rattle.std.proofs.lemmas.Result.{err_from_is_err_and}
use Rattle.extent_seal.proofs.HeardLemmas.{heard_then}
use Rattle.stream_manager.specs.Streams.{laid}
use Rattle.partition_stream.proofs.HeardLemmas.{compaction_later}
use Rattle.partition_stream.proofs.MoveLemmas.{grows_twice, read_more}
use Rattle.partition_stream.proofs.moving.read_pieces.Goals as goal

pub loop-piece-preserved : goal.loop-piece-preserved
loop-piece-preserved g c = record {
  read = read_more (laid c.args.blobs.now) c.args.pieces.now c.loop-piece.piece-index c.piece-item.result c.in_ok-bytes.bytes c.loop-piece.read.items c.push.new.self.items
      c.loop-piece-test.true c.piece-item.is c.loop-piece.invariant.read c.in_ok-bytes.ensures.read c.in_ok-push.ensures.items;
  counted = grows_twice (g.W.Wire.faults c.args.wire.now) (g.W.Wire.faults c.loop-piece.wire) (g.W.Wire.faults c.read_piece.new.wire) c.loop-piece.invariant.counted c.in_ok-bytes.ensures.counted;
  heard = heard_then (g.W.Wire.calls c.args.wire.now) (g.W.Wire.calls c.loop-piece.wire) (g.W.Wire.calls c.read_piece.new.wire)
      (g.W.Wire.faults c.args.wire.now) (g.W.Wire.faults c.loop-piece.wire) (g.W.Wire.faults c.read_piece.new.wire) c.loop-piece.invariant.heard c.in_ok-bytes.ensures.heard;
}

pub returns-in_err-bytes-clause-heard : goal.returns-in_err-bytes-clause-heard
returns-in_err-bytes-clause-heard g c =
    let p = err_from_is_err_and c.from_residual-in_err-bytes.result c.from_residual-in_err-bytes.ensures.1 in
    rw (p.1, p.2) (compaction_later c.in_err-bytes.field-0.0 (g.W.Wire.calls c.args.wire.now) (g.W.Wire.calls c.loop-piece.wire) (g.W.Wire.calls c.read_piece.new.wire)
    (g.W.Wire.faults c.args.wire.now) (g.W.Wire.faults c.loop-piece.wire) (g.W.Wire.faults c.read_piece.new.wire) c.loop-piece.invariant.heard c.in_err-bytes.ensures.heard)

pub returns-in_err-push-clause-heard : goal.returns-in_err-push-clause-heard
returns-in_err-push-clause-heard g c =
    let p = err_from_is_err_and c.from_residual-in_err-push.result c.from_residual-in_err-push.ensures.1 in
    rw (p.1, p.2) (heard_then (g.W.Wire.calls c.args.wire.now) (g.W.Wire.calls c.loop-piece.wire) (g.W.Wire.calls c.read_piece.new.wire)
    (g.W.Wire.faults c.args.wire.now) (g.W.Wire.faults c.loop-piece.wire) (g.W.Wire.faults c.read_piece.new.wire) c.loop-piece.invariant.heard c.in_ok-bytes.ensures.heard)
