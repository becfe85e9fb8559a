-- The entries of a map into which headers are inserted from the last to the first.
use Rattle.std.proofs.Common.{◌≡◌, ℕ, true, false, cond, List, [], ◌∷◌, ◌++◌, map, filter, refl, sym, ap, ◌∙◌}
use Rattle.std.proofs.lemmas.List.{nil_from_length}
use Rattle.std.specs.BTreeMap.{insert_entry}
use Rattle.std.specs.Cmp.Lexicographic.{slice_cmp}
use Rattle.std.specs.FinMap.{entries, from_entries, put, entries-insert, empty, len-empty, len-entries}
use Rattle.std.specs.FinMap.Entries.{by_order}
use Rattle.std.specs.Map.Iter.{deref_pair}
use Rattle.std.specs.Ordering.{nat_cmp, match_ordering}
use Rattle.std.specs.declared.cmp.Ordering.TheVariants.{Less, Equal, Greater}
use denote.Ref.{Bor}
use Rattle.stamp_values.specs.Order.{name_cmp, names_total}
use Rattle.stamp_values.specs.declared.signing.Field.{Field}
use Rattle.shared_key.specs.Strings.{Pair, field_pair, is_ms}

-- the pairs put over entries, the last one first
abbrev pub put_all : List Pair → List Pair → List Pair
put_all [] es = es
put_all (p ∷ ps) es = put name_cmp p.0 p.1 (put_all ps es)

-- the entries of a map of references, read
pub read_insert : (es : List (Bor (List ℕ) × Bor (List ℕ))) (k v : Bor (List ℕ)) → map deref_pair (insert_entry (λ x y. slice_cmp nat_cmp x.now y.now) es k v) ≡ put name_cmp k.now v.now (map deref_pair es)
read_insert [] k v = refl
read_insert (e ∷ es) k v =
    elim (slice_cmp nat_cmp k.now e.0.now) as (λ r. map deref_pair (match_ordering r ((k, v) ∷ e ∷ es) ((e.0, v) ∷ es) (e ∷ insert_entry (λ x y. slice_cmp nat_cmp x.now y.now) es k v)) ≡ by_order r ((k.now, v.now) ∷ deref_pair e ∷ map deref_pair es) ((e.0.now, v.now) ∷ map deref_pair es) (deref_pair e ∷ put name_cmp k.now v.now (map deref_pair es))) [
      | Less ↦ refl
      | Equal ↦ refl
      | Greater ↦ ap (λ r. deref_pair e ∷ r) (read_insert es k v)
    ]

-- if a header of the service is at the end, it is put first
pub put_all_more : (hs : List Field) (h : Field) (es : List Pair) → is_ms h ≡ true → put_all (map field_pair (filter is_ms (hs ++ h ∷ []))) es ≡ put_all (map field_pair (filter is_ms hs)) (put name_cmp h.name h.value es)
put_all_more [] h es ms = ap (λ b. put_all (map field_pair (cond b (h ∷ []) [])) es) ms
put_all_more (x ∷ xs) h es ms =
    elim (is_ms x) as (λ b. put_all (map field_pair (cond b (x ∷ filter is_ms (xs ++ h ∷ [])) (filter is_ms (xs ++ h ∷ [])))) es ≡ put_all (map field_pair (cond b (x ∷ filter is_ms xs) (filter is_ms xs))) (put name_cmp h.name h.value es)) [
      | true ↦ ap (λ r. put name_cmp x.name x.value r) (put_all_more xs h es ms)
      | false ↦ put_all_more xs h es ms
    ]

-- if another header is at the end, it is left out
pub put_all_other : (hs : List Field) (h : Field) (es : List Pair) → is_ms h ≡ false → put_all (map field_pair (filter is_ms (hs ++ h ∷ []))) es ≡ put_all (map field_pair (filter is_ms hs)) es
put_all_other [] h es other = ap (λ b. put_all (map field_pair (cond b (h ∷ []) [])) es) other
put_all_other (x ∷ xs) h es other =
    elim (is_ms x) as (λ b. put_all (map field_pair (cond b (x ∷ filter is_ms (xs ++ h ∷ [])) (filter is_ms (xs ++ h ∷ [])))) es ≡ put_all (map field_pair (cond b (x ∷ filter is_ms xs) (filter is_ms xs))) es) [
      | true ↦ ap (λ r. put name_cmp x.name x.value r) (put_all_other xs h es other)
      | false ↦ put_all_other xs h es other
    ]

no_entries : entries (empty {X = List ℕ} {R = name_cmp}) ≡ []
no_entries = nil_from_length _ (sym (len-entries _) ∙ len-empty name_cmp (List ℕ))

-- put over no entries, the pairs are the entries of their map
pub put_all-nothing : (ps : List Pair) → put_all ps [] ≡ entries (from_entries {R = name_cmp} ps)
put_all-nothing [] = sym no_entries
put_all-nothing (p ∷ ps) =
    ap (put name_cmp p.0 p.1) (put_all-nothing ps) ∙ sym (entries-insert names_total (from_entries ps) p.0 p.1)

-- a header of the service is taken from the end, and inserted as an entry
pub put_all_step : (hs left : List Field) (h : Field) (es later : List (Bor (List ℕ) × Bor (List ℕ))) (k v : Bor (List ℕ)) (whole : List Pair) → hs ≡ left ++ h ∷ [] → is_ms h ≡ true → k.now ≡ h.name → v.now ≡ h.value → later ≡ insert_entry (λ x y. slice_cmp nat_cmp x.now y.now) es k v → put_all (map field_pair (filter is_ms hs)) (map deref_pair es) ≡ whole → put_all (map field_pair (filter is_ms left)) (map deref_pair later) ≡ whole
put_all_step hs left h es later k v whole last ms name value inserted so_far =
    let more = put_all_more left h (map deref_pair es) ms in
    let read : map deref_pair later ≡ put name_cmp h.name h.value (map deref_pair es) = rw (inserted, read_insert es k v, name, value) refl in
    rw read (sym more ∙ ap (λ (l : List Field). put_all (map field_pair (filter is_ms l)) (map deref_pair es)) (sym last) ∙ so_far)
