-- A row that is swapped in under a name that has a row.
use Rattle.std.proofs.Common.{◌≡◌, ◌∙◌, ℕ, true, false, List, length, nat_lt, Option, Some, None, IsSome, ap, subst, sym, unwrap_or}
use Rattle.std.specs.Prelude.{is_some}
use Rattle.std.specs.FinMap as finite
use Rattle.stamp_values.specs.Order.{name_cmp}
use Rattle.stamp_values.specs.declared.key.Key.{Key}
use Rattle.stamp_types.specs.World.{Blob, Part, World, blob_in, changed, no_blob, no_part, part_at, same_pieces}
use Rattle.stamp_types.specs.declared.act.Act.TheVariants as act
use Rattle.stamp_types.specs.declared.act.StoredBlob.{StoredBlob}
use Rattle.stamp_types.specs.declared.piece.Piece.{Piece}
use Rattle.block_blobs.specs.StoredRows.{blob_of_row, is_left}
use Rattle.block_blobs.proofs.EntryLemmas.{no_entries}
use Rattle.row_trees.specs.RowSwaps.{with_row}
use Rattle.row_trees.proofs.Parts.{same_committed}

-- the row of a blob puts its blob under its name, and changes nothing else
pub stored_blob_is : (a : StoredBlob) (p : Part (List Piece)) → changed same_pieces (act.StoredBlob a) p ≡ with_row p a.blob (blob_of_row a)
stored_blob_is a p =
    ap (λ c. with_row p a.blob (record { committed = c; uncommitted = (blob_of_row a).uncommitted })) (same_committed a.committed)

-- a blob of which something is left has a row
pub left_is_there : (p : Part (List Piece)) (name : List ℕ) → is_left (blob_in p name) ≡ true → IsSome (finite.get p.blobs name)
left_is_there p name left = by (finite.get p.blobs name) left
  where
    none_left : is_left (no_blob {C = List Piece}) ≡ false
    none_left = ap (λ (es : List (List ℕ × List Piece)). nat_lt 0 (length es)) no_entries

    by : (o : Option (Blob (List Piece))) → is_left (unwrap_or o no_blob) ≡ true → IsSome o
    by None h = let wrong : false ≡ true = sym none_left ∙ h in cc
    by (Some b) h = cc

-- a container that the world does not have has no row
pub no_row_there : (w : World (List Piece)) (key : Key) (name : List ℕ) → finite.get w key ≡ None → IsSome (finite.get (part_at w key).blobs name) → ⊥
no_row_there w key name none some =
    let nothing : finite.get (part_at w key).blobs name ≡ None =
    ap (λ (o : Option (Part (List Piece))). finite.get (unwrap_or o no_part).blobs name) none ∙ finite.get-empty name_cmp name in
    let wrong : false ≡ true = subst (λ (o : Option (Blob (List Piece))). is_some o ≡ true) nothing some in
    cc
