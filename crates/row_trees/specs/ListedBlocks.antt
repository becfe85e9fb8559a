-- The blocks that the entries of a block list take, by their sizes (Blob service REST reference, 2012-02-12, "Put Block List").
use Rattle.std.specs.Prelude.{⊤, ℕ, List, length, Option, sum_by}
use Rattle.stamp_values.specs.declared.block.Taken.{Taken}
use Rattle.stamp_types.specs.declared.act.Act.{Act}
use Rattle.stamp_types.specs.declared.act.Act.TheVariants as act
use Rattle.stamp_types.specs.declared.piece.Piece.{Piece}
use Rattle.stamp_types.specs.World.{Blob, Part, blob_in, taken_blocks}
use Rattle.block_blobs.specs.BlockLists.{first_absent, list_fault}
use Rattle.block_blobs.specs.FoundBlocks.{AreBlocksOf}
use Rattle.block_blobs.specs.declared.block_fault.BlockFault.{BlockFault}
use Rattle.block_blobs.specs.declared.found_blocks.FoundBlocks.{FoundBlocks}

-- how many bytes the blocks of the entries have together, each block as often as it is listed
abbrev pub listed_size : Blob ℕ → List Taken → ℕ
listed_size b entries = sum_by (λ block. block.content) (taken_blocks b entries)

-- the fault of a list whose entries say where their blocks are
abbrev pub entries_fault : Blob ℕ → List Taken → Option BlockFault
entries_fault b entries = list_fault (first_absent b entries) (length entries) (listed_size b entries)

-- if the change commits a list, the blocks that were found are those of its entries in the blob of the container that it commits
abbrev pub AreFoundFor : Part (List Piece) → Act → FoundBlocks → Type 0
AreFoundFor p (act.PutBlockList a) found = AreBlocksOf (blob_in p a.blob) a.entries found
AreFoundFor p other found = ⊤
