use Rattle.std.proofs.Common.{◌≡◌, length}
use Rattle.block_blobs.specs.BlockLists.{want_each}
use Rattle.block_blobs.proofs.whole_lists.wants_each.Given as goal

-- the wanted blocks and the blocks that are left give the answer
abbrev pub invariant-loop-left : goal.invariant-loop-left
invariant-loop-left l = want_each l.left l.later ≡ want_each l.wanted l.fn.blocks

abbrev pub decreases-loop-left : goal.decreases-loop-left
decreases-loop-left l = length l.left
