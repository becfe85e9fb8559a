-- The pair in force is the pair of its epoch, and how pairs come to be numbered.
use Rattle.std.proofs.Common.{◌≡◌, ◌-◌, ℕ, Bool, true, false, cond, List, ◌∷◌, ◌++◌, [], map, length, slice_get, get_or, arith, Option, Some, None, unwrap_or, refl, ap, ◌∙◌, sym}
use Rattle.std.proofs.lemmas.List.{map-append}
use Rattle.std.proofs.lemmas.Option.{slice_get-get_or, slice_get-map}
use Rattle.std.specs.FinMap as finite
use Rattle.std.specs.List.{AllZip}
use Rattle.std.specs.Option.{option_map}
use Rattle.std.specs.Ordering.{eq_by_cmp}
use Rattle.stamp_values.specs.Order.{name_cmp, names_total}
use Rattle.access_rules.specs.declared.keys.Keys.{Keys}
use Rattle.access_rules.specs.Rotation.{are_numbered}
use Rattle.access_rules.proofs.RotationLemmas.{epoch-place, numbered_one}
use Rattle.stamp_model.specs.Histories.{pair_of}
use Rattle.stamp_model.proofs.KeyPairLemmas.{pair_of-place}
use Rattle.slot_state.specs.Pairs.{AreNumbered, Pairs, current_at, epoch_of, in_force, pairs_at, with_first}

no_last : (ks : List Keys) → in_force ks ≡ None → pair_of ks 0 ≡ None
no_last [] none = refl
no_last (k ∷ ks) none =
    let there : slice_get (k ∷ ks) (length (k ∷ ks) - 1) ≡ Some (get_or (k ∷ ks) (length (k ∷ ks) - 1) k) = slice_get-get_or (k ∷ ks) (length (k ∷ ks) - 1) k (omega arith) in
    let never : None ≡ Some (get_or (k ∷ ks) (length (k ∷ ks) - 1) k) = sym none ∙ there in
    cc

found_in_force : (ks : List Keys) (o : Option Keys) → are_numbered ks ≡ true → in_force ks ≡ o → pair_of ks (epoch_of o) ≡ o
found_in_force ks None numbered is = no_last ks is
found_in_force ks (Some k) numbered is =
    pair_of-place ks k.epoch numbered ∙ ap (slice_get ks) (epoch-place ks k (length ks - 1) numbered is) ∙ is

pub pair_of-current : (pairs : Pairs) (account : List ℕ) → AreNumbered pairs → pair_of (pairs_at pairs account) (epoch_of (current_at pairs account)) ≡ current_at pairs account
pair_of-current pairs account numbered = found_in_force (pairs_at pairs account) (current_at pairs account) (numbered account) refl

-- how many pairs there are, as they are read
pub len_read : {A : Type 0} (f : A → Keys) (xs : List A) → length xs ≡ length (map f xs)
len_read f [] = refl
len_read f (x ∷ xs) = let h = len_read f xs in omega arith

-- the pair in force, as it is read
pub in_force_read : {A : Type 0} (f : A → Keys) (shared : List A) → option_map f (slice_get shared (length shared - 1)) ≡ in_force (map f shared)
in_force_read f shared =
    sym (slice_get-map f shared (length shared - 1))
    ∙ ap (λ (n : ℕ). slice_get (map f shared) (n - 1)) (len_read f shared)

-- the pair at a place, as it is read
pub place_read : {A : Type 0} (f : A → Keys) (shared : List A) (at : ℕ) → option_map f (slice_get shared at) ≡ slice_get (map f shared) at
place_read f shared at = sym (slice_get-map f shared at)

-- without accounts, the pairs of each account are numbered
pub numbered_none : (pairs : Pairs) → pairs ≡ finite.empty → AreNumbered pairs
numbered_none pairs is account =
    ap (λ (m : Pairs). are_numbered (pairs_at m account)) is ∙ ap (λ (o : Option (List Keys)). are_numbered (unwrap_or o [])) (finite.get-empty name_cmp account)

numbered_by : (o : Option (List Keys)) (k : Keys) (b : Bool) → k.epoch ≡ 0 → are_numbered (unwrap_or o []) ≡ true → are_numbered (unwrap_or (cond b (Some (k ∷ [])) o) []) ≡ true
numbered_by o k true first old = numbered_one 0 k first
numbered_by o k false first old = old

-- one more account, with its first pair
pub numbered_first : (pairs more : Pairs) (k : Keys) → AreNumbered pairs → k.epoch ≡ 0 → more ≡ finite.insert pairs k.account (k ∷ []) → AreNumbered more
numbered_first pairs more k old first is account =
    ap (λ (m : Pairs). are_numbered (pairs_at m account)) is
    ∙ ap (λ (o : Option (List Keys)). are_numbered (unwrap_or o [])) (finite.get-insert names_total pairs k.account (k ∷ []) account)
    ∙ numbered_by (finite.get pairs account) k (eq_by_cmp name_cmp account k.account) first (old account)

-- the last pair is put first
pub with_first_last : (ks : List Keys) (k : Keys) (pairs : Pairs) → with_first (ks ++ k ∷ []) pairs ≡ with_first ks (finite.insert pairs k.account (k ∷ []))
with_first_last [] k pairs = refl
with_first_last (x ∷ ks) k pairs = ap (λ (m : Pairs). finite.insert m x.account (x ∷ [])) (with_first_last ks k pairs)

-- one pair more, as it is read
pub one_more_read : {A : Type 0} (f : A → Keys) (xs new : List A) (x : A) (k : Keys) → new ≡ xs ++ x ∷ [] → f x ≡ k → map f new ≡ map f xs ++ k ∷ []
one_more_read f xs new x k is read = ap (map f) is ∙ map-append f xs (x ∷ []) ∙ ap (λ (l : Keys). map f xs ++ l ∷ []) read

-- a list whose elements are read as those of another list
pub copy_read : {A : Type 0} (f : A → Keys) (xs ys : List A) → AllZip (λ x y. f y ≡ f x) xs ys → map f ys ≡ map f xs
copy_read f [] [] all = refl
copy_read f [] (y ∷ ys) all = absurd all
copy_read f (x ∷ xs) [] all = absurd all
copy_read f (x ∷ xs) (y ∷ ys) all = λ j. all.0 j ∷ copy_read f xs ys all.1 j

-- a list with the elements of another list
pub same_items : {A : Type 0} (xs ys : List A) → AllZip (λ x y. y ≡ x) xs ys → ys ≡ xs
same_items [] [] all = refl
same_items [] (y ∷ ys) all = absurd all
same_items (x ∷ xs) [] all = absurd all
same_items (x ∷ xs) (y ∷ ys) all = λ j. all.0 j ∷ same_items xs ys all.1 j
