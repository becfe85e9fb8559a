use Rattle.std.proofs.Common.{◌≡◌, ◌++◌, length}
use Rattle.block_blobs.specs.BlockLists as lists
use Rattle.block_blobs.proofs.wanted_lists.entries_from.Given as goal

-- the wanted blocks that are left and the sources that are left give the rest of the answer
abbrev pub invariant-loop-left : goal.invariant-loop-left
invariant-loop-left l = l.entries.items ++ lists.entries_from l.next.rest.items l.left ≡ lists.entries_from l.fn.wanted l.fn.sources

abbrev pub decreases-loop-left : goal.decreases-loop-left
decreases-loop-left l = length l.left
