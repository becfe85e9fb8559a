-- The split points that a search by halves finds.
use Rattle.std.proofs.Common.{◌≡◌, ◌≤◌, ◌<◌, ◌+◌, ℕ, zero, suc, Bool, true, false, not, cond, List, [], ◌∷◌, length, refl, sym, ap, ◌∙◌, subst, arith}
use Rattle.std.specs.Prelude.{slice_index_or}
use Rattle.std.specs.List.{AllByRecursion}
use Rattle.std.specs.List.Sorted.{IsPartitionedBy, IsPartitionPoint, IsStrictlySortedBy}
use Rattle.std.specs.Ordering.{is_le}
use Rattle.std.specs.declared.cmp.Ordering.{Ordering}
use Rattle.std.specs.declared.cmp.Ordering.TheVariants.{Less, Equal, Greater}
use Rattle.stamp_values.specs.Order.{key_cmp, keys_exact, keys_total}
use Rattle.stamp_values.specs.Trees.{is_below, is_from}
use Rattle.stamp_values.specs.declared.key.Key.{Key}
use Rattle.partition_map.specs.Spans.{AreSpans, slot_of}
use Rattle.partition_map.proofs.KeyOrder.{from_is_not_below}
use Rattle.partition_map.proofs.SpanLemmas.{next}

-- a < b and b ≤ c give a ≤ c
less_from : (a b c : Key) → key_cmp a b ≡ Less → is_from b c ≡ true → is_from a c ≡ true
less_from a b c less from = by (key_cmp b c) refl from
  where
    by : (r : Ordering) → key_cmp b c ≡ r → is_le r ≡ true → is_from a c ≡ true
    by Less is e = ap is_le (keys_total.trans a b c less is)
    by Equal is e = subst (λ (d : Key). is_from a d ≡ true) (keys_exact b c is) (ap is_le less)
    by Greater is e = cc

-- a fact of all elements is a fact of each
all_at : (R : Key → Type 0) (xs : List Key) (k : ℕ) (d : Key) → AllByRecursion R xs → k < length xs → R (slice_index_or xs k d)
all_at R [] k d all low = absurd (omega (arith, low))
all_at R (x ∷ xs) zero d all low = all.0
all_at R (x ∷ xs) (suc k) d all low = all_at R xs k d all.1 (omega (arith, low))

-- no split point at or before the key comes after one that is past the key
parted : (points : List Key) (key : Key) → IsStrictlySortedBy key_cmp points → IsPartitionedBy (λ p. is_from p key) points
unfolding IsStrictlySortedBy
parted [] key rise i j d order low from = absurd (omega (arith, low))
parted (p ∷ points) key rise zero zero d order low from = from
parted (p ∷ points) key rise zero (suc j) d order low from =
    less_from p (slice_index_or points j d) key (all_at (λ y. key_cmp p y ≡ Less) points j d rise.0 (omega (arith, low))) from
parted (p ∷ points) key rise (suc i) zero d order low from = absurd (omega (arith, order))
parted (p ∷ points) key rise (suc i) (suc j) d order low from = parted points key rise.1 i j d (omega (arith, order)) (omega (arith, low)) from

rising : (points : List Key) → AreSpans points → IsStrictlySortedBy key_cmp points
unfolding IsStrictlySortedBy
rising points are = are.rise.1

pub are_parted : (points : List Key) (key : Key) → AreSpans points → IsPartitionedBy (λ p. is_from p key) points
are_parted points key are = parted points key (rising points are)

-- the split points at or before the key are as many as the number of its slot
none_by : (b : Bool) (n : ℕ) → not b ≡ false → 0 ≡ cond b 0 (1 + n)
none_by true n e = refl
none_by false n e = cc

more_by : (b : Bool) (n m : ℕ) → not b ≡ true → n ≡ m → suc n ≡ cond b 0 (1 + m)
more_by true n m e is = cc
more_by false n m e is = ap suc is ∙ sym (next m)

pub slot_at_point : (points : List Key) (key : Key) (n : ℕ) → n ≤ length points → IsPartitionPoint (λ p. is_from p key ≡ true) (λ p. is_from p key ≡ false) points n → n ≡ slot_of points key
slot_at_point [] key n within point = omega (arith, within)
slot_at_point (p ∷ points) key zero within point =
    none_by (is_below p key) (slot_of points key) (sym (from_is_not_below p key) ∙ point.1 0 p (omega arith) (omega arith))
slot_at_point (p ∷ points) key (suc n) within point =
    more_by (is_below p key) n (slot_of points key) (sym (from_is_not_below p key) ∙ point.0 0 p (omega arith) (omega arith))
    (slot_at_point points key n (omega (arith, within))
    (λ k d low high. point.0 (suc k) d (omega arith) (omega (arith, high)), λ k d low high. point.1 (suc k) d (omega (arith, low)) (omega (arith, high))))
