use Rattle.std.proofs.Common.{◌≡◌, vec_len}
use Rattle.block_blobs.specs.BlockLists.{named_blocks}
use Rattle.block_blobs.proofs.commits.named.Given as goal

-- the entries that are left complete the blocks
abbrev pub invariant-loop-entry : goal.invariant-loop-entry
invariant-loop-entry l = named_blocks l.left.items l.blocks.items ≡ named_blocks l.fn.entries.items l.fn.blocks.items

abbrev pub decreases-loop-entry : goal.decreases-loop-entry
decreases-loop-entry l = vec_len l.left
