-- Rows that are good changes.
use Rattle.std.proofs.Common.{◌≡◌, ◌≤◌, ◌&&◌, ◌∙◌, ap, sym, cond, Bool, true, false, List, [], ◌∷◌, ℕ, length, refl, nat_le, nat_lt, Some, None}
use Rattle.std.specs.Cmp.{eq_by_cmp_equiv}
use Rattle.std.specs.FinMap.{entries, find, get-empty, get-entries}
use Rattle.std.proofs.lemmas.Bool.{and_parts, le-leb}
use Rattle.stamp_values.specs.Names.{is_account, is_blob, is_container, is_within}
use Rattle.stamp_values.specs.Order.{name_cmp, names_total}
use Rattle.stamp_values.specs.Texts.{char_count, is_clean}
use Rattle.stamp_values.specs.declared.key.Key.{Key}
use Rattle.stamp_types.specs.Changes.{is_change, is_stored_blob}
use Rattle.stamp_types.specs.World.{Blob, Part, no_blob}
use Rattle.stamp_types.specs.declared.act.Act.TheVariants as act
use Rattle.stamp_types.specs.declared.act.StoredBlob.{StoredBlob}
use Rattle.stamp_types.specs.declared.piece.Piece.{Piece}
use Rattle.block_blobs.specs.StoredRows.{is_left}
use Rattle.row_trees.specs.RowRecords.{container_row_of}
use Rattle.checkpoint_rows.specs.Writing.{HasGoodNames}

both : (a b : Bool) → a ≡ true → b ≡ true → (a && b) ≡ true
both true b p q = q
both false b p q = cc

-- the name of a blob has no control character
pub clean_name : (name : List ℕ) → is_blob name ≡ true → is_clean name ≡ true
clean_name name good = (and_parts (is_within 1 1024 (char_count name)) (is_clean name) good).1

good_key : (key : Key) → HasGoodNames key → (is_account key.account && is_container key.container) ≡ true
good_key key named = both (is_account key.account) (is_container key.container) named.account named.container

-- the row of a container that has seen a change
pub container_good : (key : Key) (p : Part (List Piece)) → HasGoodNames key → 1 ≤ p.count
    → is_change (record { key = key; act = act.ContainerRow (container_row_of p) }) ≡ true
container_good key p named counted = both (is_account key.account && is_container key.container) (nat_le 1 p.count) (good_key key named) (le-leb 1 p.count counted)

-- the row of a blob
pub blob_good : (key : Key) (row : StoredBlob) → HasGoodNames key → is_stored_blob row ≡ true → is_change (record { key = key; act = act.StoredBlob row }) ≡ true
blob_good key row named good = both (is_account key.account && is_container key.container) (is_stored_blob row) (good_key key named) good

-- nothing is left of a blob that never was
pub nothing_left : (b : Blob (List Piece)) → b ≡ no_blob → is_left b ≡ true → ⊥
nothing_left b none left =
    let some : nat_lt 0 (length (entries (no_blob {C = List Piece}).uncommitted)) ≡ true = sym (ap is_left none) ∙ left in
    let nothing : nat_lt 0 (length (entries (no_blob {C = List Piece}).uncommitted)) ≡ false = ap (λ (es : List (List ℕ × List Piece)). nat_lt 0 (length es)) (none_in (entries (no_blob {C = List Piece}).uncommitted) (λ q. sym (get-entries (no_blob {C = List Piece}).uncommitted q) ∙ get-empty name_cmp q)) in
    let wrong : true ≡ false = sym some ∙ nothing in cc
  where
    none_in : (es : List (List ℕ × List Piece)) → ((q : List ℕ) → find name_cmp q es ≡ None) → es ≡ []
    none_in [] none = refl
    none_in (e ∷ es) none =
        let found : Some e.1 ≡ None = sym (ap (λ b. cond b (Some e.1) (find name_cmp e.0 es)) ((eq_by_cmp_equiv names_total).refl e.0)) ∙ none e.0 in cc
