-- The order of keys, as tests.
use Rattle.std.proofs.Common.{◌≡◌, Bool, true, false, not, refl, sym, ap, ◌∙◌}
use Rattle.std.specs.Ordering.{ordering_reverse, is_gt, is_le}
use Rattle.std.specs.declared.cmp.Ordering.{Ordering}
use Rattle.std.specs.declared.cmp.Ordering.TheVariants.{Less, Equal, Greater}
use Rattle.stamp_values.specs.Order.{key_cmp, keys_total}
use Rattle.stamp_values.specs.Trees.{is_below, is_from}
use Rattle.stamp_values.specs.declared.key.Key.{Key}

-- a test does not answer both
pub differ : {b : Bool} → b ≡ true → b ≡ false → ⊥
differ e f = cc

-- ---- the order

-- turned over, what comes after comes before
turned : (r : Ordering) → is_gt r ≡ true → ordering_reverse r ≡ Less
turned Less e = cc
turned Equal e = cc
turned Greater e = refl

turned_back : (r : Ordering) → r ≡ Less → is_gt (ordering_reverse r) ≡ true
turned_back Less e = refl
turned_back Equal e = cc
turned_back Greater e = cc

-- a key that comes before another is less
pub less_of_below : (a b : Key) → is_below b a ≡ true → key_cmp a b ≡ Less
less_of_below a b e = keys_total.antisymm a b ∙ turned (key_cmp b a) e

-- and a key that is less comes before the other
pub below_of_less : (a b : Key) → key_cmp a b ≡ Less → is_below b a ≡ true
below_of_less a b e = ap is_gt (keys_total.antisymm b a) ∙ turned_back (key_cmp a b) e

-- of two keys, the one is from the other on or comes before it
either : (r : Ordering) → is_le r ≡ not (is_gt r)
either Less = refl
either Equal = refl
either Greater = refl

-- a key is from another on if and only if it does not come before it
pub from_is_not_below : (a b : Key) → is_from a b ≡ not (is_below a b)
from_is_not_below a b = either (key_cmp a b)

-- a ≤ b and b < c give a < c
pub from_below : (a b c : Key) → is_from a b ≡ true → is_below c b ≡ true → is_below c a ≡ true
from_below a b c e f = below_of_less a c (by (key_cmp a b) refl e)
  where
    by : (r : Ordering) → key_cmp a b ≡ r → is_le r ≡ true → key_cmp a c ≡ Less
    by Less is e = keys_total.trans a b c is (less_of_below b c f)
    by Equal is e = keys_total.congr a b c is ∙ less_of_below b c f
    by Greater is e = cc

-- a < b and b < c give a < c
pub below_below : (a b c : Key) → is_below b a ≡ true → is_below c b ≡ true → is_below c a ≡ true
below_below a b c e f = below_of_less a c (keys_total.trans a b c (less_of_below a b e) (less_of_below b c f))

-- a key that is from another on does not come before it
pub below_of_from : (a b : Key) → is_from a b ≡ true → is_below a b ≡ false
below_of_from a b e = turn (is_below a b) (sym (from_is_not_below a b) ∙ e)
  where
    turn : (b : Bool) → not b ≡ true → b ≡ false
    turn true e = cc
    turn false e = refl
