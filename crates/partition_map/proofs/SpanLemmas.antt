-- Keys, and the spans that have them.
use Rattle.std.proofs.Common.{◌≡◌, ◌+◌, ℕ, suc, Bool, true, false, cond, List, [], ◌∷◌, Option, Some, refl, sym, ap, subst, arith}
use Rattle.std.specs.Prelude.{slice_get}
use Rattle.stamp_values.specs.Trees.{is_below, is_from}
use Rattle.stamp_values.specs.declared.key.Key.{Key}
use Rattle.partition_map.specs.Spans.{slot_of, bound_at, is_before}
use Rattle.partition_map.proofs.KeyOrder.{differ, from_below}

-- one more, written both ways
pub next : (n : ℕ) → 1 + n ≡ suc n
next n = omega arith

-- ---- the bound of a key's span

bound_by : (b : Bool) (p : Key) (points : List Key) (n : ℕ) → slice_get (p ∷ points) (cond b 0 (1 + n)) ≡ cond b (Some p) (slice_get points n)
bound_by true p points n = refl
bound_by false p points n = ap (slice_get (p ∷ points)) (next n)

-- the bound of the first of the split points that is past the key
pub bound_at-cons : (p : Key) (points : List Key) (key : Key) → bound_at (p ∷ points) key ≡ cond (is_below p key) (Some p) (bound_at points key)
bound_at-cons p points key = bound_by (is_below p key) p points (slot_of points key)

before_by : (b : Bool) (p key : Key) (o : Option Key) → is_below p key ≡ b → is_before o key ≡ true → is_before (cond b (Some p) o) key ≡ true
before_by true p key o low rest = low
before_by false p key o low rest = rest

-- a key comes before the bound of its span
pub under_bound : (points : List Key) (key : Key) → is_before (bound_at points key) key ≡ true
under_bound [] key = refl
under_bound (p ∷ points) key =
    subst (λ o. is_before o key ≡ true) (sym (bound_at-cons p points key))
    (before_by (is_below p key) p key (bound_at points key) refl (under_bound points key))

-- ---- keys of one span

same_by : (a b : Bool) (p k key : Key) (points : List Key) → is_below p key ≡ a → is_below p k ≡ b → is_from key k ≡ true → is_before (cond a (Some p) (bound_at points key)) k ≡ true
    → (is_before (bound_at points key) k ≡ true → slot_of points k ≡ slot_of points key)
    → cond b 0 (1 + slot_of points k) ≡ cond a 0 (1 + slot_of points key)
same_by true true p k key points low lower from inside rest = refl
same_by true false p k key points low lower from inside rest = absurd (differ inside lower)
same_by false true p k key points low lower from inside rest = absurd (differ (from_below key k p from lower) low)
same_by false false p k key points low lower from inside rest = ap (λ n. 1 + n) (rest inside)

-- keys from a key on and before the bound of its span have the same span
pub same_slot : (points : List Key) (k key : Key) → is_from key k ≡ true → is_before (bound_at points key) k ≡ true → slot_of points k ≡ slot_of points key
same_slot [] k key from inside = refl
same_slot (p ∷ points) k key from inside =
    same_by (is_below p key) (is_below p k) p k key points refl refl from (subst (λ o. is_before o k ≡ true) (bound_at-cons p points key) inside) (same_slot points k key from)
