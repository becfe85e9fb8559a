use Rattle.std.proofs.Common.{◌≡◌, All, length, take}
use Rattle.extent_seal.specs.Counting.{Grows}
use Rattle.extent_seal.specs.Heard.{AsksAreHeard}
use Rattle.stream_manager.specs.Places.{GoesOn}
use Rattle.stream_manager.specs.Streams.{laid}
use Rattle.partition_stream.specs.Compactions.{AreMovedBlocks}
use Rattle.partition_stream.specs.Contents.{AreStored}
use Rattle.partition_stream.specs.Sweeping.{AreFrom}
use Rattle.partition_stream.proofs.rewriting.put_blocks_again.Given as goal

abbrev pub invariant-loop-block : goal.invariant-loop-block
invariant-loop-block g l = record {
  stored : All (λ b. AreStored (laid l.blobs) b.content) l.blocks;
  moved : AreMovedBlocks (laid l.initial.blobs) (take l.block-index l.blocks) (laid l.blobs) l.moved.items;
  after : All (λ b. AreFrom (length l.initial.blobs.sealed) b.content) l.moved.items;
  follows : GoesOn (laid l.initial.blobs) (laid l.blobs);
  limit : l.blobs.limit ≡ l.initial.blobs.limit;
  counted : Grows (g.W.Wire.faults l.initial.wire) (g.W.Wire.faults l.wire);
  heard : AsksAreHeard (g.W.Wire.calls l.initial.wire) (g.W.Wire.calls l.wire) (g.W.Wire.faults l.initial.wire) (g.W.Wire.faults l.wire);
}
