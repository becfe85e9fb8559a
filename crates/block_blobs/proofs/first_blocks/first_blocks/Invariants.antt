use Rattle.std.proofs.Common.{◌≡◌, ◌≤◌, map, length, drop}
use Rattle.std.specs.Map.Iter.{deref_pair}
use Rattle.std.specs.FinMap as finite
use Rattle.block_blobs.specs.FirstBlocks.{first_contents}
use Rattle.block_blobs.proofs.first_blocks.first_blocks.Given as goal

-- the last blocks are in the tree
abbrev pub invariant-loop-left : goal.invariant-loop-left
invariant-loop-left l = record {
  within : l.left ≤ length l.blocks;
  held : map deref_pair l.first.entries ≡ finite.entries (first_contents (drop l.left l.blocks));
}

abbrev pub decreases-loop-left : goal.decreases-loop-left
decreases-loop-left l = l.left
