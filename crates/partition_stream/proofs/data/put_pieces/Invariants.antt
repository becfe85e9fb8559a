use Rattle.std.proofs.Common.{take, ◌≡◌, ◌*◌, ◌⊎◌, length}
use Rattle.extent_seal.specs.Counting.{Grows}
use Rattle.extent_seal.specs.Heard.{AsksAreHeard}
use Rattle.stream_manager.specs.Counting.{CallsAtMost}
use Rattle.stream_manager.specs.Places.{GoesOn, KeepsPlaces}
use Rattle.stream_manager.specs.Streams.{laid}
use Rattle.partition_stream.specs.Contents.{ArePlaced, EndsWithBlock}
use Rattle.partition_stream.specs.Sweeping.{AreFrom}
use Rattle.partition_stream.proofs.data.put_pieces.Given as goal

abbrev pub invariant-loop-piece : goal.invariant-loop-piece
invariant-loop-piece g l = record {
  placed : ArePlaced (laid l.blobs) (take l.piece-index l.pieces) l.placed.items;
  after : AreFrom (length l.initial.blobs.sealed) l.placed.items;
  kept : KeepsPlaces (laid l.initial.blobs) (laid l.blobs);
  follows : GoesOn (laid l.initial.blobs) (laid l.blobs);
  limit : l.blobs.limit ≡ l.initial.blobs.limit;
  called : CallsAtMost (2 * l.piece-index) 0 (length l.initial.blobs.sealed) (length l.blobs.sealed) (g.W.Wire.calls l.initial.wire) (g.W.Wire.calls l.wire);
  counted : Grows (g.W.Wire.faults l.initial.wire) (g.W.Wire.faults l.wire);
  heard : AsksAreHeard (g.W.Wire.calls l.initial.wire) (g.W.Wire.calls l.wire) (g.W.Wire.faults l.initial.wire) (g.W.Wire.faults l.wire);
  spent : ((l.blobs ≡ l.initial.blobs) × (l.wire ≡ l.initial.wire)) ⊎ EndsWithBlock (laid l.blobs);
}
