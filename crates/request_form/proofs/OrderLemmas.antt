-- Fields that are put into their places one after the other are in the order of their names.
use Rattle.std.proofs.Common.{◌≡◌, ℕ, zero, suc, ◌+◌, ◌<◌, ◌++◌, Bool, true, false, true≢false, not, cond, List, [], ◌∷◌, filter, fold, insert, length, get_or, refl, sym, subst, ap, ◌∙◌, arith}
use Rattle.std.proofs.lemmas.Bool.{and_parts, not-true}
use Rattle.std.proofs.lemmas.List.{append_assoc, append-nil}
use Rattle.std.proofs.lemmas.List.Sorted.{IsPermutation-refl, IsPermutation-trans, IsPermutation-sym, IsPermutation-middle, IsPermutation-insert, IsPermutation-append_right, ranks_by}
use Rattle.std.specs.List.{AllByRecursion, position_or_len}
use Rattle.std.specs.List.Sorted.{IsPermutation, IsSortedBy, IsStableBy, ties}
use Rattle.std.specs.Cmp.{IsStrictWeakOrder}
use Rattle.std.specs.Cmp.Lexicographic.{nat_list_cmp_total}
use Rattle.stamp_values.specs.declared.signing.Field.{Field}
use Rattle.request_form.specs.HeadMetadata.{in_name_order, has_lesser_name, placed}

-- no member comes before a member that is earlier in the list
abbrev Rises : List Field → Type 0
Rises [] = Unit {0}
Rises (f ∷ fs) = AllByRecursion (λ g. has_lesser_name g f ≡ false) fs × Rises fs

order : IsStrictWeakOrder has_lesser_name
order = ranks_by nat_list_cmp_total (λ (f : Field). f.name)

-- a list whose fields rise is sorted
sorted_at : (f g : Field) (fs : List Field) → has_lesser_name g f ≡ false → IsSortedBy has_lesser_name (g ∷ fs) → (k : ℕ) (d : Field) → k + 1 < length (f ∷ g ∷ fs) → has_lesser_name (get_or (f ∷ g ∷ fs) (k + 1) d) (get_or (f ∷ g ∷ fs) k d) ≡ false
sorted_at f g fs first rest zero d next = first
sorted_at f g fs first rest (suc k) d next =
    let place : suc k + 1 ≡ suc (k + 1) = omega arith in
    rw place (rest k d (omega arith) (omega arith))

sorted_from_rises : (fs : List Field) → Rises fs → IsSortedBy has_lesser_name fs
sorted_from_rises [] up = λ k d low next. absurd (omega arith)
sorted_from_rises (f ∷ []) up = λ k d low next. absurd (omega arith)
sorted_from_rises (f ∷ g ∷ fs) up = λ k d low next. sorted_at f g fs up.0.0 (sorted_from_rises (g ∷ fs) up.1) k d next

-- what follows the first field moves on by one place
put_after : (f g : Field) (fs : List Field) (n : ℕ) → insert (g ∷ fs) (1 + n) f ≡ g ∷ insert fs n f
put_after f g fs n = let next : 1 + n ≡ suc n = omega arith in rw next refl

-- what a list is with one more field, at its first field and after it
placed_more : (f g : Field) (fs : List Field) → placed (g ∷ fs) f ≡ cond (has_lesser_name f g) (f ∷ g ∷ fs) (g ∷ placed fs f)
placed_more f g fs = by_case (has_lesser_name f g) refl
  where
    by_case : (b : Bool) → has_lesser_name f g ≡ b → placed (g ∷ fs) f ≡ cond b (f ∷ g ∷ fs) (g ∷ placed fs f)
    by_case true e = rw e refl
    by_case false e = rw e (put_after f g fs (position_or_len (has_lesser_name f) fs))

-- what holds for a field and for each of the others holds for each of them together
all_placed : (P : Field → Type 0) (f : Field) (fs : List Field) → P f → AllByRecursion P fs → AllByRecursion P (placed fs f)
all_placed P f [] here all = (here, tt)
all_placed P f (g ∷ fs) here all =
    rw (placed_more f g fs) (elim (has_lesser_name f g) as (λ b. AllByRecursion P (cond b (f ∷ g ∷ fs) (g ∷ placed fs f))) [
      | true ↦ (here, all)
      | false ↦ (all.0, all_placed P f fs here all.1)
    ])

-- what is not before g is not before f, if g is not before f
none_before : (f g : Field) (fs : List Field) → has_lesser_name g f ≡ false → AllByRecursion (λ h. has_lesser_name h g ≡ false) fs → AllByRecursion (λ h. has_lesser_name h f ≡ false) fs
none_before f g [] first all = tt
none_before f g (h ∷ fs) first all = (order.chain h g f all.0 first, none_before f g fs first all.1)

-- a list that rises still rises with one more field
rises_placed : (f : Field) (fs : List Field) → Rises fs → Rises (placed fs f)
rises_placed f [] up = (tt, tt)
rises_placed f (g ∷ fs) up =
    rw (placed_more f g fs) (elim (has_lesser_name f g) as (λ b. has_lesser_name f g ≡ b → Rises (cond b (f ∷ g ∷ fs) (g ∷ placed fs f))) [
      | true ↦ λ e. ((order.one_way f g e, none_before f g fs (order.one_way f g e) up.0), up)
      | false ↦ λ e. (all_placed (λ h. has_lesser_name h g ≡ false) f fs e up.0, rises_placed f fs up.1)
    ] refl)

-- the fields rise as they are put into their places
rises_fold : (fs done : List Field) → Rises done → Rises (fold placed done fs)
rises_fold [] done up = up
rises_fold (f ∷ fs) done up = rises_fold fs (placed done f) (rises_placed f done up)

-- no field is left out as the fields are put into their places, and no field comes twice
same_fold : (fs done : List Field) → IsPermutation (fs ++ done) (fold placed done fs)
same_fold [] done = IsPermutation-refl done
same_fold (f ∷ fs) done =
    IsPermutation-trans (f ∷ (fs ++ done)) (fs ++ f ∷ done) (fold placed done (f ∷ fs))
    (IsPermutation-sym (fs ++ f ∷ done) (f ∷ (fs ++ done)) (IsPermutation-middle fs f done))
    (IsPermutation-trans (fs ++ f ∷ done) (fs ++ placed done f) (fold placed (placed done f) fs)
    (IsPermutation-append_right fs (f ∷ done) (placed done f) (IsPermutation-insert done (position_or_len (has_lesser_name f) done) f)) (same_fold fs (placed done f)))

-- the fields that tie with x
abbrev tied : Field → List Field → List Field
tied x fs = filter (ties has_lesser_name x) fs

-- f comes before what is not before a field after f
all_after : (f g : Field) (fs : List Field) → has_lesser_name f g ≡ true → AllByRecursion (λ h. has_lesser_name h g ≡ false) fs → AllByRecursion (λ h. has_lesser_name f h ≡ true) fs
all_after f g [] first all = tt
all_after f g (h ∷ fs) first all = (here (has_lesser_name f h) refl, all_after f g fs first all.1)
  where
    here : (b : Bool) → has_lesser_name f h ≡ b → b ≡ true
    here true e = refl
    here false e = absurd (true≢false (sym first ∙ order.chain f h g e all.0))

-- fields after f do not tie with x if f does
none_tied : (x f : Field) (fs : List Field) → has_lesser_name f x ≡ false → AllByRecursion (λ h. has_lesser_name f h ≡ true) fs → tied x fs ≡ []
none_tied x f [] e all = refl
none_tied x f (h ∷ fs) e all = by_case (has_lesser_name x h) refl (none_tied x f fs e all.1)
  where
    by_case : (b : Bool) → has_lesser_name x h ≡ b → tied x fs ≡ [] → tied x (h ∷ fs) ≡ []
    by_case true after rest = rw after rest
    by_case false level rest = absurd (true≢false (sym all.0 ∙ order.chain f x h e level))

-- if f comes before all fields of a list, the fields that tie with x are the same with f at the end of the list
tied_before : (x f g : Field) (fs : List Field) → has_lesser_name f g ≡ true → AllByRecursion (λ h. has_lesser_name h g ≡ false) fs → tied x (f ∷ g ∷ fs) ≡ tied x (g ∷ fs) ++ tied x (f ∷ [])
tied_before x f g fs first all = by_case (ties has_lesser_name x f) refl
  where
    by_case : (b : Bool) → ties has_lesser_name x f ≡ b → cond b (f ∷ tied x (g ∷ fs)) (tied x (g ∷ fs)) ≡ tied x (g ∷ fs) ++ cond b (f ∷ []) []
    by_case true e =
        let level = and_parts (not (has_lesser_name x f)) (not (has_lesser_name f x)) e in
        let none = none_tied x f (g ∷ fs) (not-true (has_lesser_name f x) level.1) (first, all_after f g fs first all) in
        rw none refl
    by_case false e = sym (append-nil (tied x (g ∷ fs)))

-- f comes after the fields of the list with which it ties
tied_placed : (x f : Field) (fs : List Field) → Rises fs → tied x (placed fs f) ≡ tied x fs ++ tied x (f ∷ [])
tied_placed x f [] up = refl
tied_placed x f (g ∷ fs) up =
    rw (placed_more f g fs) (elim (has_lesser_name f g) as (λ b. has_lesser_name f g ≡ b → tied x (cond b (f ∷ g ∷ fs) (g ∷ placed fs f)) ≡ tied x (g ∷ fs) ++ tied x (f ∷ [])) [
      | true ↦ λ e. tied_before x f g fs e up.0
      | false ↦ λ e. later (ties has_lesser_name x g) (tied_placed x f fs up.1)
    ] refl)
  where
    later : (b : Bool) → tied x (placed fs f) ≡ tied x fs ++ tied x (f ∷ []) → cond b (g ∷ tied x (placed fs f)) (tied x (placed fs f)) ≡ cond b (g ∷ tied x fs) (tied x fs) ++ tied x (f ∷ [])
    later true rest = ap (λ hs. g ∷ hs) rest
    later false rest = rest

tied_front : (x f : Field) (fs : List Field) → tied x (f ∷ []) ++ tied x fs ≡ tied x (f ∷ fs)
tied_front x f fs = elim (ties has_lesser_name x f) as (λ b. cond b (f ∷ []) [] ++ tied x fs ≡ cond b (f ∷ tied x fs) (tied x fs)) [
  | true ↦ refl
  | false ↦ refl
]

-- fields that tie keep their order as the fields are put into their places
tied_fold : (x : Field) (fs done : List Field) → Rises done → tied x (fold placed done fs) ≡ tied x done ++ tied x fs
tied_fold x [] done up = sym (append-nil (tied x done))
tied_fold x (f ∷ fs) done up =
    tied_fold x fs (placed done f) (rises_placed f done up)
    ∙ ap (λ hs. hs ++ tied x fs) (tied_placed x f done up)
    ∙ append_assoc (tied x done) (tied x (f ∷ [])) (tied x fs)
    ∙ ap (λ hs. tied x done ++ hs) (tied_front x f fs)

-- no field is left out, and no field comes twice
pub all_kept : (fs : List Field) → IsPermutation fs (in_name_order fs)
all_kept fs = subst (λ gs. IsPermutation gs (in_name_order fs)) (append-nil fs) (same_fold fs [])

-- the names rise
pub rising : (fs : List Field) → IsSortedBy has_lesser_name (in_name_order fs)
rising fs = sorted_from_rises (in_name_order fs) (rises_fold fs [] tt)

-- fields of one name are in the order sent
pub as_sent : (fs : List Field) → IsStableBy has_lesser_name fs (in_name_order fs)
as_sent fs = λ x. tied_fold x fs [] tt
