-- Metadata of a head: how long they are, and which of their bytes are visible.
use Rattle.std.proofs.Common.{◌≡◌, ℕ, ◌+◌, ◌≤◌, Bool, true, false, not, ◌&&◌, cond, List, [], ◌∷◌, filter, fold, map, sum_by, refl, sym, ◌∙◌, arith}
use Rattle.std.proofs.lemmas.Bool.{and_from, and_parts, not-false, or_parts}
use Rattle.std.proofs.lemmas.List.{length-drop}
use Rattle.std.proofs.lemmas.List.Sums.{sum_by-cons, sum_by-insert}
use Rattle.std.specs.List.{list_all, position_or_len}
use Rattle.stamp_values.specs.Fields.{field_len, fields_len}
use Rattle.stamp_values.specs.MetadataLists.{is_metadata, meta_len, metadata_len}
use Rattle.stamp_values.specs.Names.{is_metadata_name}
use Rattle.stamp_values.specs.Texts.{is_visible}
use Rattle.stamp_values.specs.declared.signing.Field.{Field}
use Rattle.request_form.specs.HeadFields.{is_meta}
use Rattle.request_form.specs.HeadMetadata.{are_bad_to_keep, in_name_order, is_before, meta_fields, meta_of, metas_of, placed, unprefixed}
use Rattle.request_form.proofs.TextLemmas.{metadata_name_visible}

-- the length of a header if the header is one of metadata, and else 0
abbrev pub meta_counted : Field → ℕ
meta_counted f = cond (is_meta f.name) (field_len f) 0

metas_len : (fs : List Field) → metadata_len (map meta_of fs) ≡ fields_len fs
metas_len [] = refl
metas_len (f ∷ fs) = rw (sum_by-cons meta_len (meta_of f) (map meta_of fs), sum_by-cons field_len f fs, metas_len fs) refl

-- fields have the same length in any order
placed_len : (fs done : List Field) → fields_len (fold placed done fs) ≡ fields_len done + fields_len fs
placed_len [] done = omega arith
placed_len (f ∷ fs) done =
    omega (arith, placed_len fs (placed done f), sum_by-insert field_len done (position_or_len (is_before f.name) done) f, sum_by-cons field_len f fs)

unprefixed_len : (fields : List Field) → fields_len (meta_fields fields) ≤ sum_by meta_counted fields
unfolding meta_fields
unprefixed_len [] = omega arith
unprefixed_len (f ∷ fs) = rw (sum_by-cons meta_counted f fs) (by_meta (is_meta f.name) (unprefixed_len fs))
  where
    by_meta : (b : Bool) → fields_len (map unprefixed (filter (λ f. is_meta f.name) fs)) ≤ sum_by meta_counted fs
        → fields_len (map unprefixed (cond b (f ∷ filter (λ f. is_meta f.name) fs) (filter (λ f. is_meta f.name) fs))) ≤ cond b (field_len f) 0 + sum_by meta_counted fs
    by_meta true rest =
        omega (arith, rest, length-drop 10 f.name, sum_by-cons field_len (unprefixed f) (map unprefixed (filter (λ f. is_meta f.name) fs)))
    by_meta false rest = omega (arith, rest)

-- the metadata are not longer than their headers
pub metas_count : (fields : List Field) → metadata_len (metas_of fields) ≤ sum_by meta_counted fields
unfolding metas_of
metas_count fields = omega (arith, metas_len (in_name_order (meta_fields fields)), placed_len (meta_fields fields) [], unprefixed_len fields)

-- name and value are visible
abbrev is_shown : Field → Bool
is_shown f = is_visible f.name && is_visible f.value

-- good names are visible
all_shown : (fs : List Field) → list_all (λ m. is_metadata_name m.name) (map meta_of fs) ≡ true → list_all (λ m. is_visible m.value) (map meta_of fs) ≡ true → list_all is_shown fs ≡ true
all_shown [] names values = refl
all_shown (f ∷ fs) names values =
    let name = and_parts (is_metadata_name f.name) (list_all (λ m. is_metadata_name m.name) (map meta_of fs)) names in
    let value = and_parts (is_visible f.value) (list_all (λ m. is_visible m.value) (map meta_of fs)) values in
    and_from (is_shown f) (list_all is_shown fs) (and_from (is_visible f.name) (is_visible f.value) (metadata_name_visible f.name name.0) value.0) (all_shown fs name.1 value.1)

-- fields of which one is not visible are not metadata that are kept
pub hidden_bad : (fs : List Field) → list_all (λ f. is_visible f.name && is_visible f.value) fs ≡ false → are_bad_to_keep (map meta_of fs) ≡ true
hidden_bad fs hidden = by_case (are_bad_to_keep (map meta_of fs)) refl
  where
    by_case : (b : Bool) → are_bad_to_keep (map meta_of fs) ≡ b → b ≡ true
    by_case true e = refl
    by_case false e =
        let good = or_parts (not (is_metadata (map meta_of fs))) (not (list_all (λ m. is_visible m.value) (map meta_of fs))) e in
        let names = and_parts _ _ (and_parts _ _ (not-false (is_metadata (map meta_of fs)) good.0)).0 in
        let values = not-false (list_all (λ m. is_visible m.value) (map meta_of fs)) good.1 in
        sym hidden ∙ all_shown fs names.0 values

values_visible : (fs : List Field) → list_all (λ f. is_visible f.name && is_visible f.value) fs ≡ true → list_all (λ m. is_visible m.value) (map meta_of fs) ≡ true
values_visible [] all = refl
values_visible (f ∷ fs) all =
    let both = and_parts (is_shown f) (list_all is_shown fs) all in
    and_from (is_visible f.value) (list_all (λ m. is_visible m.value) (map meta_of fs)) (and_parts (is_visible f.name) (is_visible f.value) both.0).1 (values_visible fs both.1)

-- metadata whose names and values are visible are good to keep
pub shown_good : (fs : List Field) → list_all (λ f. is_visible f.name && is_visible f.value) fs ≡ true → is_metadata (map meta_of fs) ≡ true → are_bad_to_keep (map meta_of fs) ≡ false
shown_good fs shown good = rw (good, values_visible fs shown) refl
