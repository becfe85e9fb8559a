-- A list that is put in order has the same members and is sorted, and no other list has both.
use Rattle.std.proofs.Common.{◌≡◌, ℕ, zero, suc, ◌+◌, ◌<◌, Bool, true, false, cond, List, [], ◌∷◌, map, length, get_or, refl, sym, ap, subst, ◌∙◌, arith}
use Rattle.std.proofs.lemmas.List.Sorted.{IsPermutation-refl, IsPermutation-trans, IsPermutation-sym, IsPermutation-cons, IsPermutation-middle, sum_by-IsPermutation, sorted_far, ranks_by}
use Rattle.std.proofs.lemmas.List.Sums.{sum_by-cons}
use Rattle.std.proofs.lemmas.Map.Lookups.{CmpEqualImpliesEq}
use Rattle.std.specs.List.{AllByRecursion, sum_by}
use Rattle.std.specs.List.Sorted.{IsPermutation, IsSortedBy}
use Rattle.std.specs.Cmp.{IsTotalOrder, IsStrictWeakOrder, tied_itself}
use Rattle.std.specs.Ordering.{is_lt, is_eq, ordering_reverse}
use Rattle.std.specs.declared.cmp.Ordering.{Ordering}
use Rattle.std.specs.declared.cmp.Ordering.TheVariants.{Less, Equal, Greater}
use Rattle.shared_key.specs.Arranged.{inserted, in_order}

-- no member comes before a member that is earlier in the list
abbrev pub Rises : {X : Type 0} → (X → X → Bool) → List X → Type 0
Rises lt [] = Unit {0}
Rises lt (x ∷ xs) = AllByRecursion (λ y. lt y x ≡ false) xs × Rises lt xs

-- what holds at each index holds for each member
all_from_indexes : {X : Type 0} (P : X → Type 0) (xs : List X) → ((k : ℕ) (d : X) → k < length xs → P (get_or xs k d)) → AllByRecursion P xs
all_from_indexes P [] h = tt
all_from_indexes P (x ∷ xs) h = (h 0 x (omega arith), all_from_indexes P xs (λ k d less. h (suc k) d (omega arith)))

tail_sorted : {X : Type 0} (lt : X → X → Bool) (x : X) (xs : List X) → IsSortedBy lt (x ∷ xs) → IsSortedBy lt xs
tail_sorted lt x xs up = λ k d low next.
    let place : suc k + 1 ≡ suc (k + 1) = omega arith in
    rw place at (up (suc k) d (omega arith) (omega arith))

-- a list that is sorted rises
pub rises_from_sorted : {X : Type 0} (lt : X → X → Bool) → IsStrictWeakOrder lt → (xs : List X) → IsSortedBy lt xs → Rises lt xs
rises_from_sorted lt o [] up = tt
rises_from_sorted lt o (x ∷ xs) up = (
  all_from_indexes (λ y. lt y x ≡ false) xs (λ k d less. sorted_far lt o (x ∷ xs) up 0 (suc k) d (omega arith) (omega arith)),
  rises_from_sorted lt o xs (tail_sorted lt x xs up),
)

sorted_at : {X : Type 0} (lt : X → X → Bool) (x y : X) (ys : List X) → Rises lt (x ∷ y ∷ ys) → IsSortedBy lt (y ∷ ys) → (k : ℕ) (d : X) → k + 1 < length (x ∷ y ∷ ys) → lt (get_or (x ∷ y ∷ ys) (k + 1) d) (get_or (x ∷ y ∷ ys) k d) ≡ false
sorted_at lt x y ys up rest zero d next = up.0.0
sorted_at lt x y ys up rest (suc k) d next =
    let place : suc k + 1 ≡ suc (k + 1) = omega arith in
    rw place (rest k d (omega arith) (omega arith))

pub sorted_from_rises : {X : Type 0} (lt : X → X → Bool) (xs : List X) → Rises lt xs → IsSortedBy lt xs
sorted_from_rises lt [] up = λ k d low next. absurd (omega arith)
sorted_from_rises lt (x ∷ []) up = λ k d low next. absurd (omega arith)
sorted_from_rises lt (x ∷ y ∷ ys) up = λ k d low next. sorted_at lt x y ys up (sorted_from_rises lt (y ∷ ys) up.1) k d next

all-map : {X Y : Type 0} (P : Y → Type 0) (f : X → Y) (xs : List X) → AllByRecursion (λ x. P (f x)) xs → AllByRecursion P (map f xs)
all-map P f [] all = tt
all-map P f (x ∷ xs) all = (all.0, all-map P f xs all.1)

-- what a function reads from the members rises if the members rise by what it reads
pub rises-map : {X Y : Type 0} (lt : Y → Y → Bool) (f : X → Y) (xs : List X) → Rises (λ x y. lt (f x) (f y)) xs → Rises lt (map f xs)
rises-map lt f [] up = tt
rises-map lt f (x ∷ xs) up = (all-map (λ y. lt y (f x) ≡ false) f xs up.0, rises-map lt f xs up.1)

module _ {X : Type 0} {R : X → X → Ordering} (o : IsTotalOrder R) where
  -- what holds for x and for each member holds for each member after x is inserted
  all_placed : (P : X → Type 0) (x : X) (ys : List X) → P x → AllByRecursion P ys → AllByRecursion P (inserted R x ys)
  unfolding inserted
  all_placed P x [] here all = (here, tt)
  all_placed P x (y ∷ ys) here all =
      elim (is_lt (R y x)) as (λ b. AllByRecursion P (cond b (y ∷ inserted R x ys) (x ∷ y ∷ ys))) [
        | true ↦ (all.0, all_placed P x ys here all.1)
        | false ↦ (here, all)
      ]

  none_before : (weak : IsStrictWeakOrder (λ x y. is_lt (R x y))) (x y : X) (ys : List X) → is_lt (R y x) ≡ false → AllByRecursion (λ z. is_lt (R z y) ≡ false) ys → AllByRecursion (λ z. is_lt (R z x) ≡ false) ys
  none_before weak x y [] h all = tt
  none_before weak x y (z ∷ zs) h all = (weak.chain z y x all.0 h, none_before weak x y zs h all.1)

  pub rises-inserted : (x : X) (ys : List X) → Rises (λ x y. is_lt (R x y)) ys → Rises (λ x y. is_lt (R x y)) (inserted R x ys)
  unfolding inserted
  rises-inserted x [] up = (tt, tt)
  rises-inserted x (y ∷ ys) up =
      let weak = ranks_by o (λ (z : X). z) in
      elim (is_lt (R y x)) as (λ b. is_lt (R y x) ≡ b → Rises (λ x y. is_lt (R x y)) (cond b (y ∷ inserted R x ys) (x ∷ y ∷ ys))) [
        | true ↦ λ h. (all_placed (λ z. is_lt (R z y) ≡ false) x ys (weak.one_way y x h) up.0, rises-inserted x ys up.1)
        | false ↦ λ h. ((h, none_before weak x y ys h up.0), up)
      ] refl

  pub rises-in_order : (xs : List X) → Rises (λ x y. is_lt (R x y)) (in_order R xs)
  unfolding in_order
  rises-in_order [] = tt
  rises-in_order (x ∷ xs) = rises-inserted x (in_order R xs) (rises-in_order xs)

-- a list into which x is inserted has the members of the list, and x
pub same-inserted : {X : Type 0} (R : X → X → Ordering) (x : X) (ys : List X) → IsPermutation (x ∷ ys) (inserted R x ys)
unfolding inserted
same-inserted R x [] = IsPermutation-refl (x ∷ [])
same-inserted R x (y ∷ ys) =
    elim (is_lt (R y x)) as (λ b. IsPermutation (x ∷ y ∷ ys) (cond b (y ∷ inserted R x ys) (x ∷ y ∷ ys))) [
      | true ↦ IsPermutation-trans (x ∷ y ∷ ys) (y ∷ x ∷ ys) (y ∷ inserted R x ys)
          (IsPermutation-sym (y ∷ x ∷ ys) (x ∷ y ∷ ys) (IsPermutation-middle (y ∷ []) x ys))
          (IsPermutation-cons y (x ∷ ys) (inserted R x ys) (same-inserted R x ys))
      | false ↦ IsPermutation-refl (x ∷ y ∷ ys)
    ]

pub same-in_order : {X : Type 0} (R : X → X → Ordering) (xs : List X) → IsPermutation xs (in_order R xs)
unfolding in_order
same-in_order R [] = IsPermutation-refl []
same-in_order R (x ∷ xs) =
    IsPermutation-trans (x ∷ xs) (x ∷ in_order R xs) (inserted R x (in_order R xs))
    (IsPermutation-cons x xs (in_order R xs) (same-in_order R xs)) (same-inserted R x (in_order R xs))

module _ {X : Type 0} {R : X → X → Ordering} (o : IsTotalOrder R) (exact : CmpEqualImpliesEq R) where
  -- 1 if the member is q, and else 0
  abbrev pub one : X → X → ℕ
  one q x = cond (is_eq (R q x)) 1 0

  abbrev pub count : X → List X → ℕ
  count q [] = 0
  count q (x ∷ xs) = one q x + count q xs

  pub count_is : (q : X) (xs : List X) → sum_by (one q) xs ≡ count q xs
  count_is q [] = refl
  count_is q (x ∷ xs) = sum_by-cons (one q) x xs ∙ ap (λ n. one q x + n) (count_is q xs)

  once : (x : X) → one x x ≡ 1
  once x = rw (tied_itself o x) refl

  tied : (r : Ordering) → is_eq r ≡ true → r ≡ Equal
  tied Less h = cc
  tied Equal h = refl
  tied Greater h = cc

  -- what holds for each member holds for q if q is a member
  held : (P : X → Type 0) (q : X) (xs : List X) → AllByRecursion P xs → 0 < count q xs → P q
  held P q [] all some = absurd (omega arith)
  held P q (x ∷ xs) all some =
      elim (is_eq (R q x)) as (λ b. is_eq (R q x) ≡ b → 0 < cond b 1 0 + count q xs → P q) [
        | true ↦ λ h _. subst P (sym (exact q x (tied (R q x) h))) all.0
        | false ↦ λ h more. held P q xs all.1 (omega arith)
      ] refl some

  level : (r s : Ordering) → r ≡ ordering_reverse s → is_lt r ≡ false → is_lt s ≡ false → r ≡ Equal
  level r Less turned a b = cc
  level r Equal turned a b = turned
  level r Greater turned a b = let e : is_lt r ≡ true = ap is_lt turned in cc

  -- two lists that rise and have each member equally often are equal
  pub only_rising : (xs ys : List X) → Rises (λ x y. is_lt (R x y)) xs → Rises (λ x y. is_lt (R x y)) ys → ((q : X) → count q xs ≡ count q ys) → xs ≡ ys
  only_rising [] [] up too same = refl
  only_rising [] (y ∷ ys) up too same = let here = once y in let e = same y in absurd (omega arith)
  only_rising (x ∷ xs) [] up too same = let here = once x in let e = same x in absurd (omega arith)
  only_rising (x ∷ xs) (y ∷ ys) up too same =
      let weak = ranks_by o (λ (z : X). z) in
      let itself : (z : X) → is_lt (R z z) ≡ false = λ z. rw (tied_itself o z) refl in
      let one_x = once x in
      let one_y = once y in
      let at_x = same x in
      let at_y = same y in
      let x_there : 0 < count x (y ∷ ys) = omega arith in
      let y_there : 0 < count y (x ∷ xs) = omega arith in
      let not_before_y = held (λ z. is_lt (R z y) ≡ false) x (y ∷ ys) (itself y, too.0) x_there in
      let not_before_x = held (λ z. is_lt (R z x) ≡ false) y (x ∷ xs) (itself x, up.0) y_there in
      let first : x ≡ y = exact x y (level (R x y) (R y x) (o.antisymm x y) not_before_y not_before_x) in
      let rest = only_rising xs ys up.1 too.1 (λ q. let e = same q in let f = ap (one q) first in omega arith) in
      λ i. first i ∷ rest i

  -- a list that rises and has the same members is the list put in order
  pub only_in_order : (xs ys : List X) → IsPermutation xs ys → Rises (λ x y. is_lt (R x y)) ys → ys ≡ in_order R xs
  only_in_order xs ys same up = only_rising ys (in_order R xs) up (rises-in_order o xs)
      (λ q. sym (count_is q ys) ∙ sum_by-IsPermutation (one q) xs ys same ∙ sym (sum_by-IsPermutation (one q) xs (in_order R xs) (same-in_order R xs)) ∙ count_is q (in_order R xs))
