use Rattle.std.proofs.Common.{◌≡◌, map, vec_len}
use Rattle.std.specs.FinMap.{from_entries}
use Rattle.stamp_types.specs.World.{same_pieces, uncommitted_entry}
use Rattle.block_blobs.proofs.StoredBlocks.{stored_with}
use Rattle.block_blobs.proofs.uncommitted.tree_of.Given as goal

-- the blocks that are left complete the map
abbrev pub invariant-loop-block : goal.invariant-loop-block
invariant-loop-block l = stored_with l.left.items l.tree ≡ from_entries (map (uncommitted_entry same_pieces) l.fn.blocks.items)

abbrev pub decreases-loop-block : goal.decreases-loop-block
decreases-loop-block l = vec_len l.left
