-- Split points that rise.
use Rattle.std.proofs.Common.{◌≡◌, ◌≢◌, ◌-◌, ◌≤◌, ◌<◌, ◌&&◌, ◌==◌, ℕ, zero, suc, Bool, true, false, not, cond, List, [], ◌∷◌, length, refl, sym, ap, ◌∙◌, subst, arith}
use Rattle.std.specs.Prelude.{slice_get, slice_index_or}
use Rattle.std.specs.List.{AllByRecursion, insert, remove}
use Rattle.std.specs.List.Sorted.{IsStrictlySortedBy}
use Rattle.std.proofs.lemmas.Bool.{and_parts}
use Rattle.std.proofs.lemmas.Bool.Decides.{nat_tests}
use Rattle.std.proofs.lemmas.List.Edits.{length-insert}
use Rattle.std.specs.Ordering.{is_gt}
use Rattle.std.specs.declared.cmp.Ordering.TheVariants.{Less}
use Rattle.stamp_values.specs.Order.{key_cmp, keys_total}
use Rattle.stamp_values.specs.Trees.{is_below}
use Rattle.stamp_values.specs.declared.key.Key.{Key}
use Rattle.partition_map.specs.Spans.{AreSpans, is_before, is_inside, is_least, least_key, points_limit, bound_of, first_key, with_point}
use Rattle.partition_map.proofs.KeyOrder.{less_of_below}

-- the least key alone rises
pub no_points : (points : List Key) → points ≡ [] → AreSpans points
unfolding IsStrictlySortedBy
no_points points none = subst AreSpans (sym none) (record { rise = (tt, tt); few = omega arith })

-- ---- the least key

none_there : (n : ℕ) → (suc n == 0) ≡ false
none_there n = compare_is (suc n == 0) refl
  where
    compare_is : (b : Bool) → (suc n == 0) ≡ b → b ≡ false
    compare_is true e = absurd (grind (arith, nat_tests))
    compare_is false e = refl

least_by : (a c : List ℕ) → is_gt (key_cmp (record { account = a; container = c }) least_key) ≡ not (length a == 0 && length c == 0)
least_by [] [] = refl
least_by [] (x ∷ c) = sym (ap not (none_there (length c)))
least_by (x ∷ a) c = sym (ap (λ b. not (b && length c == 0)) (none_there (length a)))

-- a key comes after the first key of all if and only if it is not the least key
pub past_least : (points : List Key) (key : Key) (at : ℕ) → at ≡ 0 → not (is_least key) ≡ is_below key (first_key points at)
past_least points key at none = sym (least_by key.account key.container) ∙ ap (λ (n : ℕ). is_below key (first_key points n)) (sym none)

get_is : (xs : List Key) (i : ℕ) (d e : Key) → i < length xs → slice_index_or xs i d ≡ slice_index_or xs i e
get_is [] i d e low = absurd (omega arith)
get_is (x ∷ xs) zero d e low = refl
get_is (x ∷ xs) (suc i) d e low = get_is xs i d e (omega arith)

-- a key comes after the first key of a later span if and only if it comes after that split point
pub past_point : (points : List Key) (key point : Key) (at : ℕ) → at ≢ 0 → at ≤ length points → point ≡ slice_index_or points (at - 1) point → is_below key point ≡ is_below key (first_key points at)
past_point points key point zero some low is = absurd (some refl)
past_point points key point (suc n) some low is =
    ap (is_below key) (is ∙ ap (λ (m : ℕ). slice_index_or points m point) (back n) ∙ get_is points n point least_key (omega (arith, low)))
  where
    back : (n : ℕ) → suc n - 1 ≡ n
    back n = omega arith

-- ---- one more split point

less_all : (a b : Key) (xs : List Key) → key_cmp a b ≡ Less → AllByRecursion (λ y. key_cmp b y ≡ Less) xs → AllByRecursion (λ y. key_cmp a y ≡ Less) xs
less_all a b [] less all = tt
less_all a b (x ∷ xs) less all = (keys_total.trans a b x less all.0, less_all a b xs less all.1)

rises : (from middle : Key) (points : List Key) (i : ℕ) → i ≤ length points → IsStrictlySortedBy key_cmp (from ∷ points)
    → is_below middle (slice_index_or (from ∷ points) i least_key) ≡ true → is_before (slice_get points i) middle ≡ true
    → IsStrictlySortedBy key_cmp (from ∷ insert points i middle)
unfolding IsStrictlySortedBy
rises from middle [] zero within rise past under = ((less_of_below from middle past, tt), (tt, tt))
rises from middle [] (suc i) within rise past under = absurd (omega (arith, within))
rises from middle (p ∷ points) zero within rise past under =
    let low : key_cmp middle p ≡ Less = less_of_below middle p under in
    ((less_of_below from middle past, rise.0), ((low, less_all middle p points low rise.1.0), rise.1))
rises from middle (p ∷ points) (suc i) within rise past under =
    let later = rises p middle points i (omega (arith, within)) rise.1 past under in
    ((rise.0.0, less_all from p (insert points i middle) rise.0.0 later.0), later)

-- a split point strictly inside a span leaves the points rising
pub one_more : (old new : List Key) (i : ℕ) (middle : Key) → AreSpans old → i ≤ length old → is_inside old i middle ≡ true → length old < points_limit → new ≡ with_point old i middle → AreSpans new
one_more old new i middle are within inside room more =
    let parts = and_parts (is_below middle (first_key old i)) (is_before (bound_of old i) middle) inside in
    subst AreSpans (sym more) (record {
      rise = rises least_key middle old i within are.rise parts.0 parts.1;
      few = omega (arith, room, length-insert old i middle within);
    })

-- and so does a split that may have failed
pub one_more_if : (b : Bool) (old new : List Key) (i : ℕ) (middle : Key) → AreSpans old → i ≤ length old → is_inside old i middle ≡ true → length old < points_limit
    → new ≡ cond b (with_point old i middle) old → AreSpans new
one_more_if true old new i middle are within inside room is = one_more old new i middle are within inside room is
one_more_if false old new i middle are within inside room is = subst AreSpans (sym is) are

-- ---- one split point less

later_all : (from : Key) (points : List Key) (i : ℕ) → AllByRecursion (λ y. key_cmp from y ≡ Less) points → AllByRecursion (λ y. key_cmp from y ≡ Less) (remove points i)
later_all from [] zero all = tt
later_all from [] (suc i) all = tt
later_all from (p ∷ points) zero all = all.1
later_all from (p ∷ points) (suc i) all = (all.0, later_all from points i all.1)

fall : (from : Key) (points : List Key) (i : ℕ) → IsStrictlySortedBy key_cmp (from ∷ points) → IsStrictlySortedBy key_cmp (from ∷ remove points i)
unfolding IsStrictlySortedBy
fall from [] zero rise = rise
fall from [] (suc i) rise = rise
fall from (p ∷ points) zero rise = (rise.0.1, rise.1.1)
fall from (p ∷ points) (suc i) rise = ((rise.0.0, later_all from points i rise.0.1), fall p points i rise.1)

shorter : (points : List Key) (i : ℕ) → length (remove points i) ≤ length points
shorter [] zero = omega arith
shorter [] (suc i) = omega arith
shorter (p ∷ points) zero = omega arith
shorter (p ∷ points) (suc i) = omega (arith, shorter points i)

-- without one of them the split points still rise
pub one_less : (old new : List Key) (i : ℕ) → AreSpans old → new ≡ remove old i → AreSpans new
one_less old new i are less = subst AreSpans (sym less) (record {
  rise = fall least_key old i are.rise;
  few = omega (arith, are.few, shorter old i);
})
