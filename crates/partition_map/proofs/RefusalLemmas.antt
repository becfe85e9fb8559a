-- Which splits no cause refuses.
use Rattle.std.proofs.Common.{◌≡◌, ◌≢◌, ◌≤◌, ◌<◌, ◌↔◌, ℕ, Bool, true, false, not, cond, nat_lt, List, length, Some, None, refl, sym, ap, ◌∙◌, arith}
use Rattle.std.proofs.lemmas.Bool.{and_parts}
use Rattle.std.proofs.lemmas.Bool.Decides.{nat_tests}
use Rattle.std.specs.Cmp.Derive.{both_true}
use Rattle.std.specs.Ordering.{is_le, ordering_reverse}
use Rattle.std.specs.declared.cmp.Ordering.{Ordering}
use Rattle.std.specs.declared.cmp.Ordering.TheVariants.{Less, Equal, Greater}
use Rattle.stamp_values.specs.Order.{key_cmp, keys_exact, keys_total}
use Rattle.stamp_values.specs.Trees.{is_below, is_from}
use Rattle.stamp_values.specs.declared.key.Key.{Key}
use Rattle.partition_map.specs.declared.fault.MapFault.{MapFault}
use Rattle.partition_map.specs.declared.fault.MapFault.TheVariants as fault
use Rattle.partition_map.specs.Spans.{bound_of, first_key, is_before, is_in_span, is_inside, points_limit, split_refusal}
use Rattle.partition_map.proofs.KeyOrder.{less_of_below, below_of_less}

-- ---- a key that is inside a span

-- a key is not less than itself
not_less : (key : Key) → key_cmp key key ≡ Less → ⊥
not_less key less = turned (key_cmp key key) less (keys_total.antisymm key key)
  where
    turned : (r : Ordering) → r ≡ Less → r ≡ ordering_reverse r → ⊥
    turned Less e f = cc
    turned Equal e f = cc
    turned Greater e f = cc

-- a key that comes after another one is from it on, and is not that key
after_is : (first key : Key) → is_below key first ≡ true → (is_from first key ≡ true) × (key ≢ first)
after_is first key after =
    let less = less_of_below first key after in
    (ap is_le less, λ same. not_less first (ap (key_cmp first) (sym same) ∙ less))

-- and a key that is from another one on, and is not that key, comes after it
is_after : (first key : Key) → is_from first key ≡ true → key ≢ first → is_below key first ≡ true
is_after first key from other = by (key_cmp first key) refl from
  where
    by : (r : Ordering) → key_cmp first key ≡ r → is_le r ≡ true → is_below key first ≡ true
    by Less is e = below_of_less first key is
    by Equal is e = absurd (other (sym (keys_exact first key is)))
    by Greater is e = cc

pub inside_is : (points : List Key) (i : ℕ) (key : Key) → (is_inside points i key ≡ true) ↔ ((is_in_span points i key ≡ true) × (key ≢ first_key points i))
inside_is points i key = (
  λ inside.
      let parts = and_parts (is_below key (first_key points i)) (is_before (bound_of points i) key) inside in
      let after = after_is (first_key points i) key parts.0 in
      (both_true after.0 parts.1, after.1),
  λ lies.
      let parts = and_parts (is_from (first_key points i) key) (is_before (bound_of points i) key) lies.0 in
      both_true (is_after (first_key points i) key parts.0 lies.1) parts.1,
)

-- ---- a split that no cause refuses

-- no cause: the span exists, the key is inside, and there is room
no_cause : (a b c : Bool) (x y z : MapFault) → cond a (Some x) (cond (not b) (Some y) (cond c None (Some z))) ≡ None → (a ≡ false) × (b ≡ true) × (c ≡ true)
no_cause true b c x y z e = cc
no_cause false false c x y z e = cc
no_cause false true false x y z e = cc
no_cause false true true x y z e = (refl, refl, refl)

causeless : (a b c : Bool) (x y z : MapFault) → a ≡ false → b ≡ true → c ≡ true → cond a (Some x) (cond (not b) (Some y) (cond c None (Some z))) ≡ None
causeless false true true x y z e f g = refl
causeless true b c x y z e f g = cc
causeless false false c x y z e f g = cc
causeless false true false x y z e f g = cc

pub allowed_is : (points : List Key) (i : ℕ) (middle : Key) → (split_refusal points i middle ≡ None) ↔ ((i ≤ length points) × (is_inside points i middle ≡ true) × (length points < points_limit))
allowed_is points i middle = (
  λ none.
      let parts = no_cause (nat_lt (length points) i) (is_inside points i middle) (nat_lt (length points) points_limit) fault.NoSuchSlot fault.NotInside fault.Full none in
      (not_past parts.0, parts.1, has_room parts.2),
  λ parts. causeless (nat_lt (length points) i) (is_inside points i middle) (nat_lt (length points) points_limit) fault.NoSuchSlot fault.NotInside fault.Full (past parts.0) parts.1 (room parts.2),
)
  where
    not_past : nat_lt (length points) i ≡ false → i ≤ length points
    not_past is = grind (arith, nat_tests)

    past : i ≤ length points → nat_lt (length points) i ≡ false
    past within = grind (arith, nat_tests)

    has_room : nat_lt (length points) points_limit ≡ true → length points < points_limit
    has_room is = grind (arith, nat_tests)

    room : length points < points_limit → nat_lt (length points) points_limit ≡ true
    room few = grind (arith, nat_tests)
