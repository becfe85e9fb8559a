use Rattle.std.proofs.Common.{◌≡◌, map, take}
use Rattle.extent_seal.specs.Counting.{Grows}
use Rattle.extent_seal.specs.Heard.{AsksAreHeard}
use Rattle.stream_manager.specs.Streams.{laid}
use Rattle.partition_stream.specs.Compactions.{read_piece}
use Rattle.partition_stream.proofs.moving.read_pieces.Given as goal

abbrev pub invariant-loop-piece : goal.invariant-loop-piece
invariant-loop-piece g l = record {
  read : l.read.items ≡ map (read_piece (laid l.blobs)) (take l.piece-index l.pieces);
  counted : Grows (g.W.Wire.faults l.initial.wire) (g.W.Wire.faults l.wire);
  heard : AsksAreHeard (g.W.Wire.calls l.initial.wire) (g.W.Wire.calls l.wire) (g.W.Wire.faults l.initial.wire) (g.W.Wire.faults l.wire);
}
