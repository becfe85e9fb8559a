-- What is found for the entries of a block list ("Put Block List" of the Blob service REST reference, 2012-02-12).
use Rattle.std.specs.Prelude.{◌≡◌, ◌≤◌, ℕ, List, [], length}
use Rattle.stamp_values.specs.declared.block.Taken.{Taken}
use Rattle.stamp_types.specs.declared.committed.Block.{Block}
use Rattle.stamp_types.specs.declared.piece.Piece.{Piece}
use Rattle.stamp_types.specs.Changes.{blocks_len}
use Rattle.stamp_types.specs.World.{Blob}
use Rattle.block_blobs.specs.BlockLists.{all_entries, listed_len, unnamed_blocks}
use Rattle.block_blobs.specs.declared.found_blocks.FoundBlocks.{FoundBlocks}
use Rattle.block_blobs.specs.declared.found_blocks.ListContent.{ListContent}
use Rattle.block_blobs.specs.declared.found_blocks.ListContent.TheVariants as content

-- these blocks were found
abbrev pub these_blocks : List (Block (List Piece)) → FoundBlocks
these_blocks blocks = record { content = content.Blocks blocks; len = blocks_len blocks }

-- no blocks were found
abbrev pub nothing_found : FoundBlocks
nothing_found = these_blocks []

-- all uncommitted blocks were found, which are so many and have so many bytes together
abbrev pub all_uncommitted : ℕ → ℕ → FoundBlocks
all_uncommitted count len = record { content = content.AllUncommitted count; len = len }

-- this is the content of a list of these entries in the blob: all uncommitted blocks, if the entries take these in the order of their ids
-- and there is room for them; or the blocks of the entries, without their ids
abbrev pub IsContentOf : Blob (List Piece) → List Taken → ListContent → Type 0
IsContentOf b ts (content.AllUncommitted room) = (ts ≡ all_entries b) × (length ts ≤ room)
IsContentOf b ts (content.Blocks blocks) = blocks ≡ unnamed_blocks b ts

-- the blocks that were found are those of a list of these entries in the blob
abbrev pub AreBlocksOf : Blob (List Piece) → List Taken → FoundBlocks → Type 0
AreBlocksOf b ts found = IsContentOf b ts found.content × (found.len ≡ listed_len b ts)
