-- What resolving a list of wanted blocks gives ("Put Block List" of the Blob service REST reference, 2012-02-12).
use Rattle.std.specs.Prelude.{if◌then◌else◌, List, length}
use Rattle.stamp_values.specs.declared.block.Wanted.{Wanted}
use Rattle.stamp_types.specs.declared.piece.Piece.{Piece}
use Rattle.stamp_types.specs.Changes.{blocks_len}
use Rattle.stamp_types.specs.World.{Blob}
use Rattle.block_blobs.specs.BlockLists.{found_blocks, found_sources, wants_all}
use Rattle.block_blobs.specs.FoundBlocks.{all_uncommitted, these_blocks}
use Rattle.block_blobs.specs.declared.found_blocks.FoundBlocks.{FoundBlocks}
use Rattle.block_blobs.specs.declared.resolved.Resolved.{Resolved}

-- what is found for a list of wanted blocks: all uncommitted blocks, if the list wants these in the order of their ids, and else the blocks
abbrev pub found_for : Blob (List Piece) → List Wanted → FoundBlocks
found_for b ws =
    if wants_all b ws then all_uncommitted (length ws) (blocks_len (found_blocks b ws))
    else these_blocks (found_blocks b ws)

-- where the wanted blocks are found, in their order, and what is found for the list
abbrev pub resolved : Blob (List Piece) → List Wanted → Resolved
resolved b ws = record { sources = found_sources b ws; blocks = found_for b ws }
