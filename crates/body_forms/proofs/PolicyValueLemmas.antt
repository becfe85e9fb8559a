-- What the ids of policies decide.
use Rattle.std.proofs.Common.{◌≡◌, Bool, true, false, not, ◌&&◌, ◌||◌, nat_le, List, [], ◌∷◌, length, map, Err, refl, arith}
use Rattle.std.specs.List.{list_any, list_all}
use Rattle.std.proofs.lemmas.Bool.{and_parts}
use Rattle.std.proofs.lemmas.Bool.Decides.{nat_tests}
use Rattle.stamp_values.specs.Limits.{policies_limit}
use Rattle.stamp_values.specs.Names.{is_policy_id}
use Rattle.stamp_values.specs.Policies.{is_policies}
use Rattle.stamp_values.specs.Texts.{is_utf8}
use Rattle.body_forms.specs.declared.body_fault.BodyFault.{BodyFault}
use Rattle.body_forms.specs.declared.body_fault.BodyFault.TheVariants as fault
use Rattle.body_forms.specs.Policies.{Sent}
use Rattle.body_forms.specs.Outcomes.{OnId, FaultOf}
use Rattle.body_forms.specs.PolicyValues.{is_good_id, policy_of, has_bad_id, have_bad_ids, are_too_many, judged}

pub mapped_length : {A B : Type 0} (f : A → B) (xs : List A) → length (map f xs) ≡ length xs
mapped_length f [] = refl
mapped_length f (x ∷ xs) = omega (arith, mapped_length f xs)

neither : (a b : Bool) → (a || b) ≡ false → (a ≡ false) × (b ≡ false)
neither true b h = (cc, cc)
neither false b h = (refl, h)

pub not_false : (a : Bool) → not a ≡ false → a ≡ true
not_false true h = refl
not_false false h = cc

good_policy_id : (s : Sent) → has_bad_id s ≡ false → is_policy_id s.id_text ≡ true
unfolding has_bad_id is_good_id
good_policy_id s h = (and_parts (is_utf8 s.id_text) (is_policy_id s.id_text) (not_false (is_utf8 s.id_text && is_policy_id s.id_text) h)).1

good_ids : (ss : List Sent) → list_any has_bad_id ss ≡ false → list_all (λ p. is_policy_id p.id) (map policy_of ss) ≡ true
unfolding policy_of
good_ids [] h = refl
good_ids (s ∷ ss) h =
    let (one, more) = neither (has_bad_id s) (list_any has_bad_id ss) h in
    rw (good_policy_id s one, good_ids ss more) refl

few : (ss : List Sent) → are_too_many ss ≡ false → nat_le (length (map policy_of ss)) policies_limit ≡ true
few ss h = let same = mapped_length policy_of ss in grind (arith, nat_tests)

-- if the ids are good, they are bad together only if two are equal
pub ids_decide : (ss : List Sent) → are_too_many ss ≡ false → list_any has_bad_id ss ≡ false → have_bad_ids ss ≡ not (is_policies (map policy_of ss))
ids_decide ss number good = rw (good, few ss number, good_ids ss good) refl

-- a fault of an id says what follows from what it said
pub id_says : (said says : Type 0) → (said → says) → (f : BodyFault) → OnId said f → OnId says f
id_says said says f fault.Form m = absurd m
id_says said says f fault.TooMany m = absurd m
id_says said says f fault.Id m = f m
id_says said says f fault.Letters m = absurd m
id_says said says f fault.Time m = absurd m
id_says said says f fault.NoMemory m = tt

-- an id that is bad among the ids
pub some_bad : (ss : List Sent) (f : BodyFault) → OnId (list_any has_bad_id ss ≡ true) f → OnId (have_bad_ids ss ≡ true) f
some_bad ss f h = id_says _ _ (λ (is : list_any has_bad_id ss ≡ true). rw is refl) f h

judged_ids : (ss : List Sent) → are_too_many ss ≡ false → have_bad_ids ss ≡ true → judged ss ≡ Err fault.Id
unfolding judged
judged_ids ss number bad = rw (number, bad) refl

-- the ids are the first fault
pub first_is_id : (ss : List Sent) → are_too_many ss ≡ false → (f : BodyFault) → OnId (have_bad_ids ss ≡ true) f → FaultOf (judged ss) f
first_is_id ss number fault.Form m = absurd m
first_is_id ss number fault.TooMany m = absurd m
first_is_id ss number fault.Id m = judged_ids ss number m
first_is_id ss number fault.Letters m = absurd m
first_is_id ss number fault.Time m = absurd m
first_is_id ss number fault.NoMemory m = tt
