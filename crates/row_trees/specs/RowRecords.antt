-- The rows of a container in a checkpoint (Calder et al., SOSP 2011, section 5.3, checkpoints).
use Rattle.std.specs.Prelude.{List, ◌∷◌, map, fold, ℕ}
use Rattle.std.specs.FinMap.{entries}
use Rattle.stamp_types.specs.declared.act.Act.{Act}
use Rattle.stamp_types.specs.declared.act.Act.TheVariants as act
use Rattle.stamp_types.specs.declared.act.ContainerRow.{ContainerRow}
use Rattle.stamp_types.specs.declared.piece.Piece.{Piece}
use Rattle.stamp_types.specs.World.{Blob, Part, changed, same_pieces}
use Rattle.block_blobs.specs.StoredRows.{row_of}

-- the row that says the container without its blobs
abbrev pub container_row_of : {C : Type 0} → Part C → ContainerRow
container_row_of p = record { count = p.count; standing = p.standing }

-- the row that says one of its blobs
abbrev pub blob_row_of : List ℕ × Blob (List Piece) → Act
blob_row_of e = act.StoredBlob (row_of e.0 e.1)

-- the rows that say the whole container: its own row, and then the row of each blob in the order of the names
abbrev pub rows_of : Part (List Piece) → List Act
rows_of p = act.ContainerRow (container_row_of p) ∷ map blob_row_of (entries p.blobs)

-- the container as these acts leave it, one after the other
abbrev pub after_acts : List Act → Part (List Piece) → Part (List Piece)
after_acts acts p = fold (λ q a. changed same_pieces a q) p acts
