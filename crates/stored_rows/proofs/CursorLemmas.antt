-- A cursor that moves past a row that was written, or past names that no row has.
use Rattle.std.proofs.Common.{◌≡◌, ◌∙◌, ◌⊎◌, inl, inr, ◌||◌, Bool, true, false, Option, Some, None, List, ℕ, refl}
use Rattle.std.specs.FinMap as finite
use Rattle.stamp_values.specs.declared.key.Key.{Key}
use Rattle.stamp_types.specs.World.{Part, no_part}
use Rattle.stamp_types.specs.declared.piece.Piece.{Piece}
use Rattle.partition_stream.specs.Meanings.{held_of}
use Rattle.partition_stream.specs.Streams.{ThreeStreams, logged}
use Rattle.stored_rows.specs.Swept.{AllNews, IsBegun, IsKnown, IsNewRow, Names, is_past, is_past_blob, is_touched, is_touched_blob, knows_blob, knows_row}
use Rattle.stored_rows.specs.declared.cursor.Cursor.{Cursor}
use Rattle.row_trees.specs.Halfway.{News}
use Rattle.stored_rows.proofs.KnownLemmas.{either_true, none_some, nothing_in}

or_right : (a b : Bool) → b ≡ true → (a || b) ≡ true
or_right true b h = refl
or_right false b h = h

pub or_left : (a b : Bool) → a ≡ true → (a || b) ≡ true
or_left true b h = refl
or_left false b h = cc

-- the row of a container that never was need not be written
pub none_begun : (o : Option News) (p : Part (List Piece)) → p ≡ no_part → IsBegun o p
none_begun None p none = none
none_begun (Some news) p none = tt

-- a name that no blob has need not be written
pub none_new : (o : Option News) (p : Part (List Piece)) (name : List ℕ) → IsBegun o p → finite.get p.blobs name ≡ None → IsNewRow o p name
none_new None p name begun none = begun
none_new (Some news) p name begun none = λ h. none_some (finite.get p.blobs name) none h

-- no blob of a container that never was need be written
pub nothing_new : (o : Option News) (p : Part (List Piece)) (name : List ℕ) → p ≡ no_part → IsNewRow o p name
nothing_new o p name none = none_new o p name (none_begun o p none) (nothing_in p name none)

module _ (c d : Cursor) (names : Names) (news : AllNews) (inside : Key → Bool) (s : ThreeStreams) (known : IsKnown c names news inside s)
    (rows : (key : Key) → inside key ≡ true → is_past d key ≡ true → (is_past c key ≡ true) ⊎ IsBegun (news key) (held_of (logged s) key))
    (blobs : (key : Key) (name : List ℕ) → inside key ≡ true → is_past_blob d key name ≡ true → (is_past_blob c key name ≡ true) ⊎ IsNewRow (news key) (held_of (logged s) key) name) where
  row_known : (key : Key) → inside key ≡ true → knows_row d names key ≡ true → IsBegun (news key) (held_of (logged s) key)
  row_known key here knows = elim (either_true (is_past d key) (is_touched names key) knows) [
    | inl past ↦ elim (rows key here past) [
      | inl before ↦ known.rows key here (or_left (is_past c key) (is_touched names key) before)
      | inr begun ↦ begun
    ]
    | inr touched ↦ known.rows key here (or_right (is_past c key) (is_touched names key) touched)
  ]

  blob_known : (key : Key) (name : List ℕ) → inside key ≡ true → knows_blob d names key name ≡ true → IsNewRow (news key) (held_of (logged s) key) name
  blob_known key name here knows = elim (either_true (is_past_blob d key name) (is_touched_blob names key name) knows) [
    | inl past ↦ elim (blobs key name here past) [
      | inl before ↦ known.blobs key name here (or_left (is_past_blob c key name) (is_touched_blob names key name) before)
      | inr new ↦ new
    ]
    | inr touched ↦ known.blobs key name here (or_right (is_past_blob c key name) (is_touched_blob names key name) touched)
  ]

  -- The rows that a sweep knows after its cursor has moved were written, if all that the cursor passed was written or is not there
  pub known_past : IsKnown d names news inside s
  known_past = record { rows = row_known; blobs = blob_known }
