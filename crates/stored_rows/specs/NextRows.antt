-- The row that comes after a cursor, in the order of the keys and names (SOSP 2011, section 5.3: checkpoints).
use Rattle.std.specs.Prelude.{◌≡◌, ◌≤◌, ⊤, ℕ, Bool, true, false, List, Option, Some, None, IsSome}
use Rattle.std.specs.FinMap as finite
use Rattle.std.specs.Global.{Vec}
use Rattle.std.specs.Ordering.{is_gt}
use Rattle.std.specs.declared.cmp.Ordering.{Ordering}
use Rattle.stamp_values.specs.Trees.{is_below, is_name_from}
use Rattle.stamp_values.specs.declared.key.Key.{Key}
use Rattle.stamp_types.specs.Changes.{KeyedAct}
use Rattle.stamp_types.specs.World.{Blob, World, part_at}
use Rattle.stamp_types.specs.declared.piece.Piece.{Piece}
use Rattle.row_trees.specs.RowRecords.{blob_row_of}
use Rattle.stored_rows.specs.Swept.{is_past, is_upto}
use Rattle.stored_rows.specs.declared.cursor.Cursor.{Cursor}
use Rattle.stored_rows.specs.declared.cursor.Cursor.TheVariants as cursor
use Rattle.stored_rows.specs.declared.next_row.NextRow.{NextRow}
use Rattle.stored_rows.specs.declared.next_row.NextRow.TheVariants as next

-- ---- the first entry of a map that a cursor has not passed

-- of the keys of the map that were not passed, the key of the entry is the first one
pub record IsFirstEntry {K X : Type 0} {R : K → K → Ordering} (past : K → Bool) (m : finite.FinMap R X) (e : K × X) : Type 0 where
  pub there : finite.get m e.0 ≡ Some e.1
  pub after : past e.0 ≡ false
  pub first : (k : K) → past k ≡ false → is_gt (R e.0 k) ≡ true → finite.get m k ≡ None

-- the first entry of the map that was not passed, or no entry if each key of the map was passed
abbrev pub IsFirstAfter : {K X : Type 0} {R : K → K → Ordering} → (K → Bool) → finite.FinMap R X → Option (K × X) → Type 0
IsFirstAfter {K} past m None = (k : K) → past k ≡ false → finite.get m k ≡ None
IsFirstAfter past m (Some e) = IsFirstEntry past m e

-- ---- what comes next

-- the cursor is in no container
abbrev pub IsOutside : Cursor → Type 0
IsOutside (cursor.In at last) = ⊥
IsOutside other = ⊤

-- no container is both after the cursor and before the key
abbrev pub NoneBetween : Cursor → World (List Piece) → Key → Type 0
NoneBetween c w key = (k : Key) → is_past c k ≡ false → is_below key k ≡ true → finite.get w k ≡ None

-- the container is the first one after a cursor that is in no container
pub record IsNextContainer (c : Cursor) (w : World (List Piece)) (key : Key) : Type 0 where
  pub seen : 1 ≤ (part_at w key).count
  pub after : is_past c key ≡ false
  pub first : NoneBetween c w key

-- the first container after a cursor that is in no container has seen no change
pub record IsNextUnseen (c : Cursor) (w : World (List Piece)) : Type 0 where
  pub key : Key
  pub there : IsSome (finite.get w key)
  pub unseen : (part_at w key).count ≡ 0
  pub after : is_past c key ≡ false
  pub first : NoneBetween c w key

-- this is the row of the first blob after a cursor in its container
pub record IsNextBlob (c : Cursor) (w : World (List Piece)) (n : Key × (Vec ℕ × KeyedAct)) : Type 0 where
  pub last : Option (Vec ℕ)
  pub at : c ≡ cursor.In n.0 last
  pub blob : Blob (List Piece)
  pub there : finite.get (part_at w n.0).blobs n.1.0.items ≡ Some blob
  pub row : n.1.1 ≡ record { key = n.0; act = blob_row_of (n.1.0.items, blob) }
  pub after : is_upto last n.1.0.items ≡ false
  pub first : (name : List ℕ) → is_upto last name ≡ false → is_name_from n.1.0.items name ≡ false → finite.get (part_at w n.0).blobs name ≡ None

-- what comes after a cursor
abbrev pub IsNextOfSweep : Cursor → World (List Piece) → NextRow → Type 0
IsNextOfSweep c w (next.Container key) = IsOutside c × IsNextContainer c w key
IsNextOfSweep c w next.Unseen = IsNextUnseen c w
IsNextOfSweep c w (next.Blob key name row) = IsNextBlob c w (key, (name, row))
IsNextOfSweep c w (next.NoBlob key) = (last : Option (Vec ℕ)) × ((c ≡ cursor.In key last) × ((name : List ℕ) → is_upto last name ≡ false → finite.get (part_at w key).blobs name ≡ None))
IsNextOfSweep c w next.NoContainer = IsOutside c × ((key : Key) → is_past c key ≡ false → finite.get w key ≡ None)
