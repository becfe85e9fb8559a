-- The row of a blob in a checkpoint (Calder et al., SOSP 2011, section 5.3, checkpoints).
use Rattle.std.specs.Prelude.{ℕ, Bool, ◌||◌, nat_lt, is_some, List, map}
use Rattle.std.specs.FinMap as finite
use Rattle.std.specs.FinMap.{FinMap}
use Rattle.stamp_values.specs.Order.{name_cmp}
use Rattle.stamp_types.specs.declared.act.StoredBlob.{StoredBlob}
use Rattle.stamp_types.specs.declared.committed.UncommittedBlock.{UncommittedBlock}
use Rattle.stamp_types.specs.declared.piece.Piece.{Piece}
use Rattle.stamp_types.specs.World.{Blob, same_pieces, uncommitted_entry}
use Rattle.block_blobs.specs.UncommittedBlocks.{block_count}

-- an uncommitted block with its id
abbrev pub listed_block : List ℕ × List Piece → UncommittedBlock
listed_block e = record { id = e.0; content = e.1 }

-- the uncommitted blocks in the order of their ids
abbrev pub listed_blocks : FinMap name_cmp (List Piece) → List UncommittedBlock
listed_blocks m = map listed_block (finite.entries m)

-- the row that says this blob, under this name
abbrev pub row_of : List ℕ → Blob (List Piece) → StoredBlob
row_of name b = record { blob = name; committed = b.committed; uncommitted = listed_blocks b.uncommitted }

-- the blob that a row says
abbrev pub blob_of_row : StoredBlob → Blob (List Piece)
blob_of_row r = record {
  committed = r.committed;
  uncommitted = finite.from_entries (map (uncommitted_entry same_pieces) r.uncommitted);
}

-- something is left of the blob: its committed part, or an uncommitted block
abbrev pub is_left : {C : Type 0} → Blob C → Bool
is_left b = is_some b.committed || nat_lt 0 (block_count b.uncommitted)
