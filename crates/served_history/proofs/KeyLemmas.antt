-- The slots that have keys, and their bounds.
use Rattle.std.proofs.Common.{◌≡◌, ℕ, ◌&&◌, not, nat_eq, Bool, true, false, cond, List, [], ◌∷◌, ◌++◌, Option, Some, None, refl, sym, ap, ◌∙◌}
use Rattle.std.specs.List.{fold}
use Rattle.std.specs.Ordering.{is_le}
use Rattle.std.proofs.lemmas.List.Sums.{fold-append}
use Rattle.std.proofs.lemmas.Bool.{and_parts}
use Rattle.stamp_values.specs.Trees.{is_below, is_from}
use Rattle.stamp_values.specs.declared.key.Key.{Key}
use Rattle.stamp_model.specs.SeenContainers.{is_under}
use Rattle.partition_map.proofs.KeyOrder.{below_below, below_of_from, from_below, from_is_not_below, less_of_below}
use Rattle.served_history.specs.declared.entry.Entry.{Entry}
use Rattle.served_history.specs.declared.entry.Entry.TheVariants.{Opened, Rotated, Served, Split}
use Rattle.served_history.specs.Histories.{owner_after, owner, bound_after, bound_at}

-- ---- one more entry

pub owner-one : (front : List Entry) (e : Entry) (key : Key) → owner (front ++ e ∷ []) key ≡ owner_after key (owner front key) e
owner-one front e key = fold-append (owner_after key) 0 front (e ∷ [])

pub bound-one : (front : List Entry) (e : Entry) (key : Key) → bound_at (front ++ e ∷ []) key ≡ bound_after key (bound_at front key) e
bound-one front e key = fold-append (bound_after key) None front (e ∷ [])

-- ---- tests

pub by_true : {A : Type 0} (b : Bool) (x y : A) → b ≡ true → cond b x y ≡ x
by_true true x y h = refl
by_true false x y h = cc

pub by_false : {A : Type 0} (b : Bool) (x y : A) → b ≡ false → cond b x y ≡ y
by_false true x y h = cc
by_false false x y h = refl

both : (a b : Bool) → a ≡ true → b ≡ true → (a && b) ≡ true
both true b p q = q
both false b p q = cc

-- a key that comes after another is from it on
pub from_of_below : (key later : Key) → is_below later key ≡ true → is_from key later ≡ true
from_of_below key later before = ap is_le (less_of_below key later before)

-- a key comes before the bound if a key that comes after it does
pub under_before : (bound : Option Key) (key later : Key) → is_below later key ≡ true → is_under bound later ≡ true → is_under bound key ≡ true
under_before None key later before under = refl
under_before (Some end) key later before under = below_below key later end before under

-- a key comes before the bound if a key from it on does
under_from : (bound : Option Key) (key later : Key) → is_under bound later ≡ true → is_from key later ≡ true → is_under bound key ≡ true
under_from None key later under from = refl
under_from (Some end) key later under from = from_below key later end from under

turned : (b : Bool) → not b ≡ false → b ≡ true
turned true h = refl
turned false h = cc

-- ---- the bound of a key comes after it

under_after : (key : Key) (bound : Option Key) (e : Entry) → is_under bound key ≡ true → is_under (bound_after key bound e) key ≡ true
under_after key bound (Opened pairs) under = under
under_after key bound (Served slot r) under = under
under_after key bound (Rotated slot account which new) under = under
under_after key bound (Split slot middle upper) under = by (is_below middle key && is_under bound middle) refl
  where
    by : (b : Bool) → (is_below middle key && is_under bound middle) ≡ b → is_under (cond b (Some middle) bound) key ≡ true
    by true is = (and_parts (is_below middle key) (is_under bound middle) is).0
    by false is = under

under_all : (key : Key) (bound : Option Key) (log : List Entry) → is_under bound key ≡ true → is_under (fold (bound_after key) bound log) key ≡ true
under_all key bound [] under = under
under_all key bound (e ∷ log) under = under_all key (bound_after key bound e) log (under_after key bound e under)

pub under_own : (log : List Entry) (key : Key) → is_under (bound_at log key) key ≡ true
under_own log key = under_all key None log refl

-- ---- the keys from a key on up to its bound are of the slot of the key

module _ (key k : Key) (from : is_from key k ≡ true) where
  -- a middle between the two keys is a bound before the second
  parted : (bound : Option Key) (middle : Key) → is_below middle key ≡ true → is_under bound middle ≡ true → is_under (cond (is_below middle key && is_under bound middle) (Some middle) bound) k ≡ true → is_from middle k ≡ false
  parted bound middle after inside under =
      let here : is_below middle k ≡ true = sym (ap (λ (o : Option Key). is_under o k) (by_true (is_below middle key && is_under bound middle) (Some middle) bound (both (is_below middle key) (is_under bound middle) after inside))) ∙ under in
      from_is_not_below middle k ∙ ap not here

  -- the bound only comes nearer
  nearer : (bound : Option Key) (e : Entry) → is_under (bound_after key bound e) k ≡ true → is_under bound k ≡ true
  nearer bound (Opened pairs) under = under
  nearer bound (Served slot r) under = under
  nearer bound (Rotated slot account which new) under = under
  nearer bound (Split slot middle upper) under = by (is_below middle key && is_under bound middle) refl under
    where
      by : (b : Bool) → (is_below middle key && is_under bound middle) ≡ b → is_under (cond b (Some middle) bound) k ≡ true → is_under bound k ≡ true
      by true is near = under_before bound k middle near (and_parts (is_below middle key) (is_under bound middle) is).1
      by false is near = near

  -- a split moves both keys or none
  same_side : (bound : Option Key) (slot : ℕ) (middle : Key) (upper : ℕ) → is_under (bound_after key bound (Split slot middle upper)) k ≡ true → is_from middle k ≡ is_from middle key
  same_side bound slot middle upper under = by (is_from middle key) (is_from middle k) refl refl
    where
      by : (a b : Bool) → is_from middle key ≡ a → is_from middle k ≡ b → b ≡ a
      by true true p q = refl
      by false false p q = refl
      by true false p q =
          let before : is_below middle key ≡ false = below_of_from middle key p in
          let after : is_below middle k ≡ true = turned (is_below middle k) (sym (from_is_not_below middle k) ∙ q) in
          let never : is_below middle key ≡ true = from_below key k middle from after in
          cc
      by false true p q =
          let after : is_below middle key ≡ true = turned (is_below middle key) (sym (from_is_not_below middle key) ∙ p) in
          let inside : is_under bound middle ≡ true = under_from bound middle k (nearer bound (Split slot middle upper) under) q in
          let never : is_from middle k ≡ false = parted bound middle after inside under in
          cc

  same_after : (bound : Option Key) (s : ℕ) (e : Entry) → is_under (bound_after key bound e) k ≡ true → owner_after k s e ≡ owner_after key s e
  same_after bound s (Opened pairs) under = refl
  same_after bound s (Served slot r) under = refl
  same_after bound s (Rotated slot account which new) under = refl
  same_after bound s (Split slot middle upper) under = ap (λ (b : Bool). cond (nat_eq slot s && b) upper s) (same_side bound slot middle upper under)

  nearest : (bound : Option Key) (log : List Entry) → is_under (fold (bound_after key) bound log) k ≡ true → is_under bound k ≡ true
  nearest bound [] under = under
  nearest bound (e ∷ log) under = nearer bound e (nearest (bound_after key bound e) log under)

  same_all : (bound : Option Key) (s : ℕ) (log : List Entry) → is_under (fold (bound_after key) bound log) k ≡ true → fold (owner_after k) s log ≡ fold (owner_after key) s log
  same_all bound s [] under = refl
  same_all bound s (e ∷ log) under =
      let more = same_all (bound_after key bound e) (owner_after key s e) log under in
      ap (λ (n : ℕ). fold (owner_after k) n log) (same_after bound s e (nearest (bound_after key bound e) log under)) ∙ more

  pub one_owner : (log : List Entry) → is_under (bound_at log key) k ≡ true → owner log k ≡ owner log key
  one_owner log under = same_all None 0 log under
