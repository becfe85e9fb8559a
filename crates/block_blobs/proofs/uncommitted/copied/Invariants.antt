use Rattle.std.proofs.Common.{◌≡◌, ◌++◌, length, map}
use Rattle.block_blobs.specs.StoredRows.{listed_block, listed_blocks}
use Rattle.block_blobs.proofs.uncommitted.copied.Given as goal

-- the blocks that are left complete the copies
abbrev pub invariant-loop-id : goal.invariant-loop-id
invariant-loop-id l = l.copies.items ++ map listed_block l.later ≡ listed_blocks l.blocks

abbrev pub decreases-loop-id : goal.decreases-loop-id
decreases-loop-id l = length l.later
