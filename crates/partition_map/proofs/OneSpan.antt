-- A key lies in the span of its slot, and in no other.
use Rattle.std.proofs.Common.{◌≡◌, ◌≤◌, ◌+◌, ◌↔◌, ℕ, zero, suc, Bool, true, false, not, cond, List, [], ◌∷◌, length, refl, sym, ap, ◌∙◌, subst, arith}
use Rattle.std.proofs.lemmas.Bool.{and_parts}
use Rattle.std.specs.Cmp.Derive.{both_true}
use Rattle.std.specs.Prelude.{slice_get, slice_index_or}
use Rattle.std.specs.List.Sorted.{IsStrictlySortedBy}
use Rattle.std.specs.Ordering.{is_le}
use Rattle.stamp_values.specs.Order.{key_cmp}
use Rattle.stamp_values.specs.Trees.{is_below, is_from}
use Rattle.stamp_values.specs.declared.key.Key.{Key}
use Rattle.partition_map.specs.Spans.{AreSpans, is_before, is_in_span, least_key, slot_of, first_key, bound_of}
use Rattle.partition_map.proofs.KeyOrder.{below_below, below_of_less, differ, from_is_not_below}
use Rattle.partition_map.proofs.SpanLemmas.{next}

-- each key is the least key or comes after it
least_is_first : (key : Key) → is_from least_key key ≡ true
least_is_first key = by key.account key.container
  where
    by : (a c : List ℕ) → is_le (key_cmp least_key (record { account = a; container = c })) ≡ true
    by [] [] = refl
    by [] (x ∷ c) = refl
    by (x ∷ a) c = refl

not_both : (b : Bool) → not b ≡ true → b ≡ false
not_both true e = cc
not_both false e = refl

-- the key lies in the span with this number, if the spans begin with the first key
abbrev InSpan : Key → List Key → ℕ → Key → Type 0
InSpan from points i key = (is_from (slice_index_or (from ∷ points) i least_key) key ≡ true) × (is_before (slice_get points i) key ≡ true)

before_next : (p q key : Key) → is_below q p ≡ true → is_below q key ≡ false → is_below p key ≡ false
before_next p q key less later = by (is_below p key) refl
  where
    by : (b : Bool) → is_below p key ≡ b → is_below p key ≡ false
    by false e = e
    by true e = absurd (differ (below_below key p q e less) later)

-- a key that lies in a later span is not before the first split point
past_first : (p : Key) (points : List Key) (i : ℕ) (key : Key) → i ≤ length points → IsStrictlySortedBy key_cmp (p ∷ points) → is_from (slice_index_or (p ∷ points) i least_key) key ≡ true → is_below p key ≡ false
unfolding IsStrictlySortedBy
past_first p points zero key within rise from = not_both (is_below p key) (sym (from_is_not_below p key) ∙ from)
past_first p [] (suc i) key within rise from = absurd (omega (arith, within))
past_first p (q ∷ points) (suc i) key within rise from =
    before_next p q key (below_of_less p q rise.0.0) (past_first q points i key (omega (arith, within)) rise.1 from)

slot_by : (b : Bool) (p : Key) (points : List Key) (key : Key) (i : ℕ) → b ≡ false → slot_of points key ≡ i → cond b 0 (1 + slot_of points key) ≡ suc i
slot_by true p points key i e f = cc
slot_by false p points key i e f = ap (λ n. 1 + n) f ∙ next i

first_by : (b : Bool) (n : ℕ) → b ≡ true → cond b 0 (1 + n) ≡ 0
first_by true n e = refl
first_by false n e = cc

-- a key that lies in a span has its slot
pub slot_if_inside : (from : Key) (points : List Key) (i : ℕ) (key : Key) → i ≤ length points → IsStrictlySortedBy key_cmp (from ∷ points) → InSpan from points i key → slot_of points key ≡ i
unfolding IsStrictlySortedBy
slot_if_inside from [] zero key within rise inside = refl
slot_if_inside from [] (suc i) key within rise inside = absurd (omega (arith, within))
slot_if_inside from (p ∷ points) zero key within rise inside = first_by (is_below p key) (slot_of points key) inside.1
slot_if_inside from (p ∷ points) (suc i) key within rise inside =
    slot_by (is_below p key) p points key i (past_first p points i key (omega (arith, within)) rise.1 inside.0) (slot_if_inside p points i key (omega (arith, within)) rise.1 inside)

-- a key lies in the span of its slot
in_by : (b : Bool) (from p : Key) (points : List Key) (key : Key) → is_below p key ≡ b → is_from from key ≡ true
    → (is_from p key ≡ true → InSpan p points (slot_of points key) key) → InSpan from (p ∷ points) (cond b 0 (1 + slot_of points key)) key
in_by true from p points key low first rest = (first, low)
in_by false from p points key low first rest =
    let there = rest (from_is_not_below p key ∙ ap not low) in
    subst (λ (n : ℕ). (is_from (slice_index_or (from ∷ p ∷ points) n least_key) key ≡ true) × (is_before (slice_get (p ∷ points) n) key ≡ true)) (sym (next (slot_of points key))) there

pub in_slot : (from : Key) (points : List Key) (key : Key) → is_from from key ≡ true → InSpan from points (slot_of points key) key
in_slot from [] key first = (first, refl)
in_slot from (p ∷ points) key first = in_by (is_below p key) from p points key refl first (λ e. in_slot p points key e)

pub own_span : (points : List Key) (key : Key) → is_in_span points (slot_of points key) key ≡ true
own_span points key =
    let there = in_slot least_key points key (least_is_first key) in
    both_true there.0 there.1

-- and only that slot's span has the key
pub one_span : (points : List Key) (key : Key) (i : ℕ) → AreSpans points → i ≤ length points → (is_in_span points i key ≡ true) ↔ (slot_of points key ≡ i)
one_span points key i are within = (
  λ inside. slot_if_inside least_key points i key within are.rise (and_parts (is_from (first_key points i) key) (is_before (bound_of points i) key) inside),
  λ slot. subst (λ (n : ℕ). is_in_span points n key ≡ true) slot (own_span points key),
)
