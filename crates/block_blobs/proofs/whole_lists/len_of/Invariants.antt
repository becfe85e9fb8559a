use Rattle.std.proofs.Common.{◌≡◌, ◌+◌, length}
use Rattle.block_blobs.specs.BlockLists.{entries_len}
use Rattle.block_blobs.proofs.whole_lists.len_of.Given as goal

-- what is left is what the blocks before leave
abbrev pub invariant-loop-id : goal.invariant-loop-id
invariant-loop-id l = l.left + entries_len l.fn.blocks ≡ 268435456 + entries_len l.later

abbrev pub decreases-loop-id : goal.decreases-loop-id
decreases-loop-id l = length l.later
