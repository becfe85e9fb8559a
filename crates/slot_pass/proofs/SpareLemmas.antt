-- A list that was made longer by what may come after it, and then loses what did not come.
use Rattle.std.proofs.Common.{◌≡◌, ◌≢◌, ◌⊎◌, inl, inr, ◌≤◌, ◌<◌, ℕ, ◌+◌, ◌-◌, List, [], ◌∷◌, ◌++◌, length, length-append, take, drop, refl, sym, ap, ◌∙◌, subst, arith, Option, Some, None, slice_get, Result, Ok, Err, OnErr}
use Rattle.std.proofs.lemmas.List.{append-nil, append_assoc}
use Rattle.std.proofs.lemmas.List.Edits.{remove-append_right}
use Rattle.std.proofs.Math.Seq.{take-append_seam, take-length}
use Rattle.std.specs.List.{remove}
use mathlib.Core.List.{IsPrefix}
use Rattle.slot_pass.specs.Spares.{AgreesAt, CanBecome, IsOneOf, IsOtherAt, with_last}

-- ---- what was begun

begins_last : {X : Type 0} (xs : List X) (o : Option X) → IsPrefix xs (with_last xs o)
begins_last xs None = ([], append-nil xs)
begins_last xs (Some x) = (x ∷ [], refl)

pub begun_one : {X B E : Type 0} (r : Result B E) (xs mid ys : List X) (o : Option X) → mid ≡ with_last xs o → OnErr r (ys ≡ mid) → OnErr r (IsPrefix xs ys)
begun_one (Ok b) xs mid ys o is same = tt
begun_one {X} (Err e) xs mid ys o is same = subst (λ (l : List X). IsPrefix xs l) (sym (same ∙ is)) (begins_last xs o)

pub begun_none : {X : Type 0} (xs ys : List X) → ys ≡ xs → IsPrefix xs ys
begun_none xs ys same = ([], append-nil xs ∙ sym same)

begins_then : {X : Type 0} (xs ys zs : List X) → IsPrefix xs ys → IsPrefix ys zs → IsPrefix xs zs
begins_then {X} xs ys zs p q = (p.0 ++ q.0, sym (append_assoc xs p.0 q.0) ∙ (ap (λ (l : List X). l ++ q.0) p.1 ∙ q.1))

pub begun_after : {X B E : Type 0} (r : Result B E) (xs ys mid zs : List X) → IsPrefix xs ys → mid ≡ ys → OnErr r (IsPrefix mid zs) → OnErr r (IsPrefix xs zs)
begun_after (Ok b) xs ys mid zs p is q = tt
begun_after {X} (Err e) xs ys mid zs p is q = begins_then xs ys zs p (subst (λ (l : List X). IsPrefix l zs) is q)

-- ---- what stays

-- what is after the first elements
abbrev spares : {X : Type 0} → Option X → Option X → List X
spares None None = []
spares None (Some y) = y ∷ []
spares (Some x) None = x ∷ []
spares (Some x) (Some y) = x ∷ y ∷ []

with_spares : {X : Type 0} (xs : List X) (one other : Option X) → with_last (with_last xs one) other ≡ xs ++ spares one other
with_spares xs None None = sym (append-nil xs)
with_spares xs None (Some y) = refl
with_spares xs (Some x) None = refl
with_spares xs (Some x) (Some y) = append_assoc xs (x ∷ []) (y ∷ [])

-- the first elements of a longer list
first_of_more : {X : Type 0} (xs more all : List X) → all ≡ xs ++ more → take (length xs) all ≡ xs
first_of_more {X} xs more all is = ap (λ (l : List X). take (length xs) l) is ∙ take-append_seam xs more

-- the element after the first elements
at_seam : {X : Type 0} (xs : List X) (x : X) (more : List X) → slice_get (xs ++ x ∷ more) (length xs) ≡ Some x
at_seam [] x more = refl
at_seam (z ∷ xs) x more = at_seam xs x more

longer : {X : Type 0} (xs : List X) (x : X) (more : List X) → length xs < length (xs ++ x ∷ more)
longer xs x more = omega (arith, length-append xs (x ∷ more))

same_some : {X : Type 0} (x y : X) → Some x ≡ Some y → x ≡ y
same_some x y h = cc

starts_by : {X : Type 0} (x : X) (other : Option X) → spares (Some x) other ≡ x ∷ spares None other
starts_by x None = refl
starts_by x (Some y) = refl

module _ {X : Type 0} (xs : List X) where
  -- a list that is cut to some of its first elements
  cut_to : (zs more all ys : List X) → ys ≡ zs → all ≡ zs ++ more → take (length ys) all ≡ ys
  cut_to zs more all ys is all_is = ap (λ (l : List X). take (length l) all) is ∙ (first_of_more zs more all all_is ∙ sym is)

  after_one : (one other : Option X) → xs ++ spares one other ≡ with_last xs one ++ spares None other
  after_one None other = refl
  after_one (Some x) other = ap (λ (l : List X). xs ++ l) (starts_by x other) ∙ sym (append_assoc xs (x ∷ []) (spares None other))

  -- ---- if nothing is left out before the end

  only_second : (one : Option X) (y : X) (ys : List X) → ys ≡ xs ++ y ∷ [] → AgreesAt (xs ++ spares one (Some y)) ys (length xs) → take (length ys) (xs ++ spares one (Some y)) ≡ ys
  only_second None y ys is agrees = cut_to (xs ++ y ∷ []) [] (xs ++ y ∷ []) ys is (sym (append-nil (xs ++ y ∷ [])))
  only_second (Some x) y ys is agrees =
      let under : length xs < length ys = subst (λ (l : List X). length xs < length l) (sym is) (longer xs y []) in
      let same : x ≡ y = sym (same_some y x (sym (at_seam xs y []) ∙ (ap (λ (l : List X). slice_get l (length xs)) (sym is) ∙ (agrees (longer xs x (y ∷ [])) under ∙ at_seam xs x (y ∷ []))))) in
      cut_to (xs ++ x ∷ []) (y ∷ []) (xs ++ x ∷ y ∷ []) ys (is ∙ ap (λ (z : X). xs ++ z ∷ []) (sym same)) (sym (append_assoc xs (x ∷ []) (y ∷ [])))

  second : (one other : Option X) (ys : List X) → ys ≡ with_last xs other → AgreesAt (xs ++ spares one other) ys (length xs) → take (length ys) (xs ++ spares one other) ≡ ys
  second one None ys is agrees = cut_to xs (spares one None) (xs ++ spares one None) ys is refl
  second one (Some y) ys is agrees = only_second one y ys is agrees

  stays_by : (one other : Option X) (ys : List X) → IsOneOf xs one other ys → AgreesAt (xs ++ spares one other) ys (length xs) → take (length ys) (xs ++ spares one other) ≡ ys
  stays_by one other ys (inl is) agrees = cut_to xs (spares one other) (xs ++ spares one other) ys is refl
  stays_by one other ys (inr (inl is)) agrees = cut_to (with_last xs one) (spares None other) (xs ++ spares one other) ys is (after_one one other)
  stays_by one other ys (inr (inr (inl is))) agrees = second one other ys is agrees
  stays_by one other ys (inr (inr (inr is))) agrees =
      cut_to (xs ++ spares one other) [] (xs ++ spares one other) ys (is ∙ with_spares xs one other) (sym (append-nil (xs ++ spares one other)))

  -- ---- if the element after the first elements is left out

  removed : (x y : X) → remove (xs ++ x ∷ y ∷ []) (length xs) ≡ xs ++ y ∷ []
  removed x y =
      let here : length xs - length xs ≡ 0 = omega arith in
      remove-append_right xs (x ∷ y ∷ []) (length xs) (length xs) refl (omega arith)
      ∙ ap (λ (n : ℕ). xs ++ remove (x ∷ y ∷ []) n) here

  not_longer : (ys : List X) → ys ≡ xs → length xs < length ys → ⊥
  not_longer ys is under = absurd (omega (arith, ap length is, under))

  not_other : (all ys : List X) → ys ≡ all → slice_get ys (length xs) ≢ slice_get all (length xs) → ⊥
  not_other all ys is differs = differs (ap (λ (l : List X). slice_get l (length xs)) is)

  first_only : (one other : Option X) (ys : List X) → ys ≡ with_last xs one → IsOtherAt (xs ++ spares one other) ys (length xs) → ⊥
  first_only None other ys is h = not_longer ys is h.under
  first_only (Some x) other ys is h =
      h.differs (ap (λ (l : List X). slice_get l (length xs)) is ∙ (at_seam xs x [] ∙ sym (ap (λ (l : List X). slice_get (xs ++ l) (length xs)) (starts_by x other) ∙ at_seam xs x (spares None other))))

  second_left : (one other : Option X) (ys : List X) → ys ≡ with_last xs other → IsOtherAt (xs ++ spares one other) ys (length xs) → take (length ys) (remove (xs ++ spares one other) (length xs)) ≡ ys
  second_left one None ys is h = absurd (not_longer ys is h.under)
  second_left None (Some y) ys is h = absurd (not_other (xs ++ y ∷ []) ys is h.differs)
  second_left (Some x) (Some y) ys is h =
      ap (λ (l : List X). take (length ys) l) (removed x y) ∙ cut_to (xs ++ y ∷ []) [] (xs ++ y ∷ []) ys is (sym (append-nil (xs ++ y ∷ [])))

  leaves_by : (one other : Option X) (ys : List X) → IsOneOf xs one other ys → IsOtherAt (xs ++ spares one other) ys (length xs) → take (length ys) (remove (xs ++ spares one other) (length xs)) ≡ ys
  leaves_by one other ys (inl is) h = absurd (not_longer ys is h.under)
  leaves_by one other ys (inr (inl is)) h = absurd (first_only one other ys is h)
  leaves_by one other ys (inr (inr (inl is))) h = second_left one other ys is h
  leaves_by one other ys (inr (inr (inr is))) h = absurd (not_other (xs ++ spares one other) ys (is ∙ with_spares xs one other) h.differs)

-- ---- the same of a list that can become the other one

module _ {X : Type 0} (known : ℕ) (all ys : List X) (can : CanBecome known all ys) where
  all_is : all ≡ can.first ++ spares can.one can.other
  all_is = can.all_is ∙ with_spares can.first can.one can.other

  pub stays : AgreesAt all ys known → take (length ys) all ≡ ys
  stays agrees =
      ap (λ (l : List X). take (length ys) l) all_is
      ∙ stays_by can.first can.one can.other ys can.becomes (subst (λ (l : List X). AgreesAt l ys (length can.first)) all_is (subst (λ (n : ℕ). AgreesAt all ys n) can.known_is agrees))

  pub leaves : IsOtherAt all ys known → take (length ys) (remove all known) ≡ ys
  leaves other =
      ap (λ (n : ℕ). take (length ys) (remove all n)) can.known_is
      ∙ (ap (λ (l : List X). take (length ys) (remove l (length can.first))) all_is
      ∙ leaves_by can.first can.one can.other ys can.becomes (subst (λ (l : List X). IsOtherAt l ys (length can.first)) all_is (subst (λ (n : ℕ). IsOtherAt all ys n) can.known_is other)))
