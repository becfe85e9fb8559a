-- The slot of a key after a split.
use Rattle.std.proofs.Common.{◌≡◌, ◌≤◌, ◌<◌, ◌+◌, ℕ, zero, suc, Bool, true, false, cond, List, [], ◌∷◌, length, refl, sym, ap, ◌∙◌, subst, arith}
use Rattle.std.specs.Prelude.{slice_index_or}
use Rattle.stamp_values.specs.Trees.{is_below}
use Rattle.stamp_values.specs.declared.key.Key.{Key}
use Rattle.partition_map.specs.Spans.{slot_of, is_before, bound_of, with_point, with_two}
use Rattle.partition_map.proofs.KeyOrder.{below_below, differ}
use Rattle.partition_map.proofs.SpanLemmas.{next}

module _ {T : Type 0} (none : T) where
  skip : (x : T) (xs : List T) (n : ℕ) → slice_index_or (x ∷ xs) (1 + n) none ≡ slice_index_or xs n none
  skip x xs n = ap (λ (m : ℕ). slice_index_or (x ∷ xs) m none) (next n)

  module _ (k mid : Key) (lower upper : T) (P : T → Type 0) where
    first_by : (a b : Bool) (p : Key) (points : List Key) (h : T) (hs : List T) → is_below mid k ≡ a → is_below p k ≡ b → is_below p mid ≡ true
        → P (slice_index_or (h ∷ hs) (cond b 0 (1 + slot_of points k)) none)
        → (cond b 0 (1 + slot_of points k) ≡ 0 → a ≡ true → P lower) → (cond b 0 (1 + slot_of points k) ≡ 0 → a ≡ false → P upper)
        → P (slice_index_or (lower ∷ upper ∷ hs) (cond a 0 (1 + cond b 0 (1 + slot_of points k))) none)
    first_by true true p points h hs low under inside whole in_lower in_upper = in_lower refl refl
    first_by true false p points h hs low under inside whole in_lower in_upper = absurd (differ (below_below k mid p low inside) under)
    first_by false true p points h hs low under inside whole in_lower in_upper = in_upper refl refl
    first_by false false p points h hs low under inside whole in_lower in_upper =
        subst P (skip h hs (slot_of points k) ∙ sym (skip upper hs (slot_of points k)) ∙ sym (skip lower (upper ∷ hs) (1 + slot_of points k))) whole

    only_by : (a : Bool) (hs : List T) → (a ≡ true → P lower) → (a ≡ false → P upper) → P (slice_index_or (lower ∷ upper ∷ hs) (cond a 0 (1 + 0)) none)
    only_by true hs in_lower in_upper = in_lower refl
    only_by false hs in_lower in_upper = in_upper refl

    later_by : (b : Bool) (p : Key) (points : List Key) (h : T) (hs : List T) (i : ℕ) → is_below p k ≡ b
        → ((slot_of points k ≡ i → is_below mid k ≡ true → P lower) → (slot_of points k ≡ i → is_below mid k ≡ false → P upper) → P (slice_index_or hs (slot_of points k) none)
        → P (slice_index_or (with_two hs i lower upper) (slot_of (with_point points i mid) k) none))
        → P (slice_index_or (h ∷ hs) (cond b 0 (1 + slot_of points k)) none)
        → (cond b 0 (1 + slot_of points k) ≡ suc i → is_below mid k ≡ true → P lower) → (cond b 0 (1 + slot_of points k) ≡ suc i → is_below mid k ≡ false → P upper)
        → P (slice_index_or (h ∷ with_two hs i lower upper) (cond b 0 (1 + slot_of (with_point points i mid) k)) none)
    later_by true p points h hs i under rest whole in_lower in_upper = whole
    later_by false p points h hs i under rest whole in_lower in_upper =
        subst P (sym (skip h (with_two hs i lower upper) (slot_of (with_point points i mid) k)))
        (rest (λ e. in_lower (ap (λ n. 1 + n) e ∙ next i)) (λ e. in_upper (ap (λ n. 1 + n) e ∙ next i)) (subst P (skip h hs (slot_of points k)) whole))

    -- if a fact is true of what the slot of a key has, and of what the half with the key has, it is true of what the slot of the key has after
    -- the split
    pub split_at : (points : List Key) (hs : List T) (i : ℕ) → i ≤ length points → is_before (bound_of points i) mid ≡ true → length hs ≡ length points + 1
        → P (slice_index_or hs (slot_of points k) none)
        → (slot_of points k ≡ i → is_below mid k ≡ true → P lower) → (slot_of points k ≡ i → is_below mid k ≡ false → P upper)
        → P (slice_index_or (with_two hs i lower upper) (slot_of (with_point points i mid) k) none)
    split_at points [] i within inside count whole in_lower in_upper = absurd (omega (arith, count))
    split_at [] (h ∷ hs) zero within inside count whole in_lower in_upper = only_by (is_below mid k) hs (in_lower refl) (in_upper refl)
    split_at [] (h ∷ hs) (suc i) within inside count whole in_lower in_upper = absurd (omega (arith, within))
    split_at (p ∷ points) (h ∷ hs) zero within inside count whole in_lower in_upper = first_by (is_below mid k) (is_below p k) p points h hs refl refl inside whole in_lower in_upper
    split_at (p ∷ points) (h ∷ hs) (suc i) within inside count whole in_lower in_upper =
        later_by (is_below p k) p points h hs i refl (λ l u w. split_at points hs i (omega (arith, within)) inside (omega (arith, count)) w l u) whole in_lower in_upper

-- ---- the slots after a split

-- the span of the split keeps its keys that come before the split point
lower_by : (b : Bool) (n m i : ℕ) → cond b 0 (1 + n) ≡ suc i → (n ≡ i → m ≡ i) → cond b 0 (1 + m) ≡ suc i
lower_by true n m i is rest = cc
lower_by false n m i is rest = ap (λ (x : ℕ). 1 + x) (rest (omega (arith, is))) ∙ next i

first_zero : (b : Bool) (n : ℕ) → b ≡ true → cond b 0 (1 + n) ≡ 0
first_zero true n e = refl
first_zero false n e = cc

pub slot_of_lower : (points : List Key) (i : ℕ) (middle k : Key) → i ≤ length points → slot_of points k ≡ i → is_below middle k ≡ true → slot_of (with_point points i middle) k ≡ i
slot_of_lower [] zero middle k within here low = first_zero (is_below middle k) 0 low
slot_of_lower [] (suc i) middle k within here low = absurd (omega (arith, within))
slot_of_lower (p ∷ points) zero middle k within here low = first_zero (is_below middle k) (slot_of (p ∷ points) k) low
slot_of_lower (p ∷ points) (suc i) middle k within here low =
    lower_by (is_below p k) (slot_of points k) (slot_of (with_point points i middle) k) i here (λ is. slot_of_lower points i middle k (omega (arith, within)) is low)

-- the other keys of that span have the next slot
upper_by : (b : Bool) (n m i : ℕ) → cond b 0 (1 + n) ≡ suc i → (n ≡ i → m ≡ i + 1) → cond b 0 (1 + m) ≡ suc i + 1
upper_by true n m i is rest = cc
upper_by false n m i is rest = ap (λ (x : ℕ). 1 + x) (rest (omega (arith, is))) ∙ shifted i
  where
    shifted : (i : ℕ) → 1 + (i + 1) ≡ suc i + 1
    shifted i = omega arith

after_first : (b : Bool) (n : ℕ) → b ≡ false → n ≡ 0 → cond b 0 (1 + n) ≡ 0 + 1
after_first true n e f = cc
after_first false n e f = ap (λ (x : ℕ). 1 + x) f

pub slot_of_upper : (points : List Key) (i : ℕ) (middle k : Key) → i ≤ length points → slot_of points k ≡ i → is_below middle k ≡ false → slot_of (with_point points i middle) k ≡ i + 1
slot_of_upper [] zero middle k within here high = after_first (is_below middle k) 0 high refl
slot_of_upper [] (suc i) middle k within here high = absurd (omega (arith, within))
slot_of_upper (p ∷ points) zero middle k within here high = after_first (is_below middle k) (slot_of (p ∷ points) k) high here
slot_of_upper (p ∷ points) (suc i) middle k within here high =
    upper_by (is_below p k) (slot_of points k) (slot_of (with_point points i middle) k) i here (λ is. slot_of_upper points i middle k (omega (arith, within)) is high)

-- keys of earlier slots keep their slot
earlier_by : (b : Bool) (n m i : ℕ) → cond b 0 (1 + n) < suc i → (n < i → m ≡ n) → cond b 0 (1 + m) ≡ cond b 0 (1 + n)
earlier_by true n m i low rest = refl
earlier_by false n m i low rest = ap (λ (x : ℕ). 1 + x) (rest (omega (arith, low)))

pub slot_of_earlier : (points : List Key) (i : ℕ) (middle k : Key) → i ≤ length points → slot_of points k < i → slot_of (with_point points i middle) k ≡ slot_of points k
slot_of_earlier [] i middle k within low = absurd (omega (arith, within, low))
slot_of_earlier (p ∷ points) zero middle k within low = absurd (omega (arith, low))
slot_of_earlier (p ∷ points) (suc i) middle k within low =
    earlier_by (is_below p k) (slot_of points k) (slot_of (with_point points i middle) k) i low (λ less. slot_of_earlier points i middle k (omega (arith, within)) less)

-- keys of later slots have a slot whose number is higher by one
past_by : (a b : Bool) (n : ℕ) → 0 < cond b 0 (1 + n) → (a ≡ true → b ≡ true) → cond a 0 (1 + cond b 0 (1 + n)) ≡ cond b 0 (1 + n) + 1
past_by a true n low over = absurd (omega (arith, low))
past_by true false n low over = absurd (differ (over refl) refl)
past_by false false n low over = omega arith

later_slot_by : (b : Bool) (n m i : ℕ) → suc i < cond b 0 (1 + n) → (i < n → m ≡ n + 1) → cond b 0 (1 + m) ≡ cond b 0 (1 + n) + 1
later_slot_by true n m i low rest = absurd (omega (arith, low))
later_slot_by false n m i low rest = ap (λ (x : ℕ). 1 + x) (rest (omega (arith, low))) ∙ shifted n
  where
    shifted : (n : ℕ) → 1 + (n + 1) ≡ 1 + n + 1
    shifted n = omega arith

pub slot_of_later : (points : List Key) (i : ℕ) (middle k : Key) → is_before (bound_of points i) middle ≡ true → i < slot_of points k → slot_of (with_point points i middle) k ≡ slot_of points k + 1
slot_of_later [] i middle k under high = absurd (omega (arith, high))
slot_of_later (p ∷ points) zero middle k under high =
    past_by (is_below middle k) (is_below p k) (slot_of points k) high (λ low. below_below k middle p low under)
slot_of_later (p ∷ points) (suc i) middle k under high =
    later_slot_by (is_below p k) (slot_of points k) (slot_of (with_point points i middle) k) i high (λ more. slot_of_later points i middle k under more)
