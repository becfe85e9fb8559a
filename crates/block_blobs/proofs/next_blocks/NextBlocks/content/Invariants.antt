use Rattle.std.proofs.Common.{◌≡◌, length}
use Rattle.block_blobs.specs.NextBlocks.{AreBlocks, from_next}
use Rattle.block_blobs.proofs.next_blocks.NextBlocks.content.Given as goal

-- the next block and the later blocks are among the blocks, which stay
abbrev pub invariant-loop-self : goal.invariant-loop-self
invariant-loop-self l = record {
  same : l.self-inside.blocks.now ≡ l.fn.self;
  among : AreBlocks l.self-inside.blocks.now (from_next l.self-inside.next l.self-inside.later);
}

abbrev pub decreases-loop-self : goal.decreases-loop-self
decreases-loop-self l = length (from_next l.self-inside.next l.self-inside.later)
