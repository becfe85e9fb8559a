-- The first keys and the bounds of spans after a split.
use Rattle.std.proofs.Common.{◌≡◌, ◌≤◌, ◌<◌, ◌+◌, ℕ, zero, suc, List, [], ◌∷◌, length, Some, refl, ap, ◌∙◌, arith}
use Rattle.std.specs.Prelude.{slice_get, slice_index_or}
use Rattle.std.specs.List.{insert, remove}
use Rattle.std.proofs.lemmas.List.Edits.{get_or-insert_at, get_or-insert_below, get_or-insert_above}
use Rattle.stamp_values.specs.declared.key.Key.{Key}
use Rattle.partition_map.specs.Spans.{bound_of, first_key, least_key, with_point}

-- one more, written both ways
plus_one : (n : ℕ) → n + 1 ≡ suc n
plus_one n = omega arith

-- ---- one more element of a list

-- the new element
get_at : {X : Type 0} (xs : List X) (i : ℕ) (y : X) → i ≤ length xs → slice_get (insert xs i y) i ≡ Some y
get_at [] zero y within = refl
get_at [] (suc i) y within = absurd (omega (arith, within))
get_at (x ∷ xs) zero y within = refl
get_at (x ∷ xs) (suc i) y within = get_at xs i y (omega (arith, within))

-- the elements before it
get_below : {X : Type 0} (xs : List X) (i k : ℕ) (y : X) → i ≤ length xs → k < i → slice_get (insert xs i y) k ≡ slice_get xs k
get_below [] i k y within low = absurd (omega (arith, within, low))
get_below (x ∷ xs) zero k y within low = absurd (omega (arith, low))
get_below (x ∷ xs) (suc i) zero y within low = refl
get_below (x ∷ xs) (suc i) (suc k) y within low = get_below xs i k y (omega (arith, within)) (omega (arith, low))

-- the elements after it
get_above : {X : Type 0} (xs : List X) (i k : ℕ) (y : X) → i ≤ length xs → i ≤ k → slice_get (insert xs i y) (suc k) ≡ slice_get xs k
get_above [] zero k y within high = refl
get_above [] (suc i) k y within high = absurd (omega (arith, within))
get_above (x ∷ xs) zero k y within high = refl
get_above (x ∷ xs) (suc i) zero y within high = absurd (omega (arith, high))
get_above (x ∷ xs) (suc i) (suc k) y within high = get_above xs i k y (omega (arith, within)) (omega (arith, high))

-- without the new element the list is as it was
pub without_new : {X : Type 0} (xs : List X) (i : ℕ) (y : X) → i ≤ length xs → remove (insert xs i y) i ≡ xs
without_new [] zero y within = refl
without_new [] (suc i) y within = absurd (omega (arith, within))
without_new (x ∷ xs) zero y within = refl
without_new (x ∷ xs) (suc i) y within = ap (λ ys. x ∷ ys) (without_new xs i y (omega (arith, within)))

-- ---- the bounds of spans

pub bound_of_lower : (points : List Key) (i : ℕ) (middle : Key) → i ≤ length points → bound_of (with_point points i middle) i ≡ Some middle
bound_of_lower points i middle within = get_at points i middle within

pub bound_of_upper : (points : List Key) (i : ℕ) (middle : Key) → i ≤ length points → bound_of (with_point points i middle) (i + 1) ≡ bound_of points i
bound_of_upper points i middle within = ap (slice_get (insert points i middle)) (plus_one i) ∙ get_above points i i middle within (omega arith)

pub bound_of_earlier : (points : List Key) (i j : ℕ) (middle : Key) → i ≤ length points → j < i → bound_of (with_point points i middle) j ≡ bound_of points j
bound_of_earlier points i j middle within low = get_below points i j middle within low

pub bound_of_later : (points : List Key) (i j : ℕ) (middle : Key) → i ≤ length points → i < j → bound_of (with_point points i middle) (j + 1) ≡ bound_of points j
bound_of_later points i j middle within high = ap (slice_get (insert points i middle)) (plus_one j) ∙ get_above points i j middle within (omega (arith, high))

-- ---- the first keys of spans

pub first_key_of_lower : (points : List Key) (i : ℕ) (middle : Key) → i ≤ length points → first_key (with_point points i middle) i ≡ first_key points i
first_key_of_lower points zero middle within = refl
first_key_of_lower points (suc i) middle within = get_or-insert_below points (suc i) middle least_key i (omega arith) within

pub first_key_of_upper : (points : List Key) (i : ℕ) (middle : Key) → i ≤ length points → first_key (with_point points i middle) (i + 1) ≡ middle
first_key_of_upper points i middle within =
    ap (λ (n : ℕ). slice_index_or (least_key ∷ insert points i middle) n least_key) (plus_one i) ∙ get_or-insert_at points i middle least_key within

pub first_key_of_earlier : (points : List Key) (i j : ℕ) (middle : Key) → i ≤ length points → j < i → first_key (with_point points i middle) j ≡ first_key points j
first_key_of_earlier points i zero middle within low = refl
first_key_of_earlier points i (suc j) middle within low = get_or-insert_below points i middle least_key j (omega (arith, low)) within

pub first_key_of_later : (points : List Key) (i j : ℕ) (middle : Key) → i ≤ length points → i < j → first_key (with_point points i middle) (j + 1) ≡ first_key points j
first_key_of_later points i zero middle within high = absurd (omega (arith, high))
first_key_of_later points i (suc j) middle within high =
    ap (λ (n : ℕ). slice_index_or (least_key ∷ insert points i middle) n least_key) (plus_one (suc j))
    ∙ ap (λ (n : ℕ). slice_index_or (insert points i middle) n least_key) (sym_plus_one j)
    ∙ get_or-insert_above points i middle least_key j (omega (arith, high)) within
  where
    sym_plus_one : (n : ℕ) → suc n ≡ n + 1
    sym_plus_one n = omega arith
