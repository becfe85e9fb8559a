-- Pairs of keys that are numbered by their epochs.
use Rattle.std.proofs.Common.{◌≡◌, ℕ, zero, suc, ◌+◌, arith, ◌&&◌, nat_eq, Bool, true, false, List, [], ◌∷◌, ◌++◌, Some, slice_get, refl, ap}
use Rattle.std.proofs.lemmas.Bool.{and_parts}
use Rattle.std.proofs.lemmas.Bool.Decides.{nat_tests}
use Rattle.access_rules.specs.declared.keys.Keys.{Keys}
use Rattle.access_rules.specs.declared.rotation.Which.{Which}
use Rattle.access_rules.specs.declared.rotation.Which.TheVariants as which
use Rattle.access_rules.specs.Rotation.{are_numbered_from, epoch_after, rotated}

both_true : (x y : Bool) → x ≡ true → y ≡ true → (x && y) ≡ true
both_true true y h k = k
both_true false y h k = h

equal : (m n : ℕ) → nat_eq m n ≡ true → m ≡ n
equal m n h = grind (arith, nat_tests)

same_number : (m n : ℕ) → m ≡ n → nat_eq m n ≡ true
same_number m n h = grind (arith, nat_tests)

some_same : (x y : Keys) → Some x ≡ Some y → x ≡ y
some_same x y h = cc

-- one pair
pub numbered_one : (n : ℕ) (pair : Keys) → pair.epoch ≡ n → are_numbered_from n (pair ∷ []) ≡ true
numbered_one n pair h = both_true (nat_eq pair.epoch n) true (same_number pair.epoch n h) refl

-- the epoch of the pair that is made
pub epoch-rotated : (pair : Keys) (side : Which) (key : List ℕ) (epoch : ℕ) → (rotated pair side key epoch).epoch ≡ epoch
epoch-rotated pair which.First key epoch = refl
epoch-rotated pair which.Second key epoch = refl

-- one more pair after the last one
pub numbered_more : (n : ℕ) (pairs : List Keys) (last next : Keys) → are_numbered_from n (pairs ++ last ∷ []) ≡ true → next.epoch ≡ last.epoch + 1
    → are_numbered_from n (pairs ++ last ∷ next ∷ []) ≡ true
numbered_more n [] last next h raised =
    let parts = and_parts (nat_eq last.epoch n) true h in
    let same = equal last.epoch n parts.0 in
    both_true (nat_eq last.epoch n) (are_numbered_from (epoch_after n) (next ∷ [])) parts.0 (numbered_one (epoch_after n) next (omega (arith, raised, same)))
numbered_more n (pair ∷ pairs) last next h raised =
    let parts = and_parts (nat_eq pair.epoch n) (are_numbered_from (epoch_after n) (pairs ++ last ∷ [])) h in
    both_true (nat_eq pair.epoch n) (are_numbered_from (epoch_after n) (pairs ++ last ∷ next ∷ [])) parts.0 (numbered_more (epoch_after n) pairs last next parts.1 raised)

-- the epoch of a pair is its place among the pairs, counted from the first epoch
epoch-numbered : (n : ℕ) (pairs : List Keys) (pair : Keys) (place : ℕ) → are_numbered_from n pairs ≡ true → slice_get pairs place ≡ Some pair → pair.epoch ≡ n + place
epoch-numbered n [] pair place h there = absurd cc
epoch-numbered n (first ∷ pairs) pair zero h there =
    let parts = and_parts (nat_eq first.epoch n) (are_numbered_from (epoch_after n) pairs) h in
    omega (arith, equal first.epoch n parts.0, ap (λ (k : Keys). k.epoch) (some_same first pair there))
epoch-numbered n (first ∷ pairs) pair (suc place) h there =
    let parts = and_parts (nat_eq first.epoch n) (are_numbered_from (epoch_after n) pairs) h in
    omega (arith, epoch-numbered (epoch_after n) pairs pair place parts.1 there)

-- the same, counted from 0
pub epoch-place : (pairs : List Keys) (pair : Keys) (place : ℕ) → are_numbered_from 0 pairs ≡ true → slice_get pairs place ≡ Some pair → pair.epoch ≡ place
epoch-place pairs pair place h there = omega (arith, epoch-numbered 0 pairs pair place h there)
