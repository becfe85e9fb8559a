-- Each field that is given has one giver, and each fault has its cause.
use Rattle.std.proofs.Common.{◌≡◌, ℕ, Bool, true, false, not, ◌&&◌, ◌||◌, cond, [], Option, Some, None, is_none, Ok, Err, bytes_eq, refl, ap, sym, inl, inr}
use Rattle.stamp_values.specs.Letters.{Permissions}
use Rattle.stamp_values.specs.declared.acl.Acl.{Acl}
use Rattle.stamp_values.specs.declared.policy.Policy.{Policy}
use Rattle.sas_token.specs.Tokens.{Sent}
use Rattle.container_acl.specs.declared.fields.Fields.{Fields}
use Rattle.container_acl.specs.declared.fields.FieldFault.TheVariants.{Absent, Both}
use Rattle.container_acl.specs.JoinedFields.{policy_with, policy_of, start_of, expiry_of, letters_of, both_give, names_unknown_policy, gives_twice, joined, whole, with_policy, fields_with, HasOneGiver, HaveOneGiver}

-- a field that is not given twice has one giver
one_giver : {A : Type 0} (own stored field : Option A) → both_give own stored ≡ false → joined own stored ≡ field → HasOneGiver own stored field
one_giver None None field once e = inl (e, refl)
one_giver (Some own) None field once e = inl (e, refl)
one_giver None (Some stored) field once e = inr (refl, e)
one_giver (Some own) (Some stored) field once e = absurd (cc)

-- none of three holds
none_holds : (a b c : Bool) → (a || b || c) ≡ false → (a ≡ false) × (b ≡ false) × (c ≡ false)
none_holds false false false e = (refl, refl, refl)
none_holds false false true e = absurd (cc)
none_holds false true c e = absurd (cc)
none_holds true b c e = absurd (cc)

-- the whole has the expiry and the permissions
whole_has : (start expiry : Option ℕ) (letters : Option Permissions) (f : Fields) → whole start expiry letters ≡ Ok f → (start ≡ f.start) × (expiry ≡ Some f.expiry) × (letters ≡ Some f.letters)
whole_has start (Some e) (Some l) f same = let record_is : ◌≡◌ {A = Fields} (record { start = start; expiry = e; letters = l }) f = cc in (ap (λ g. g.start) record_is, ap (λ g. Some g.expiry) record_is, ap (λ g. Some g.letters) record_is)
whole_has start (Some e) None f same = absurd (cc)
whole_has start None letters f same = absurd (cc)

by_twice : (t : Sent) (p : Option Policy) (f : Fields) (twice : Bool) → gives_twice t p ≡ twice
    → cond twice (Err Both) (whole (joined t.start (start_of p)) (joined t.expiry (expiry_of p)) (joined t.letters (letters_of p))) ≡ Ok f
    → HaveOneGiver t p f
by_twice t p f true is e = absurd (cc)
by_twice t p f false is e =
    let (start_once, expiry_once, letters_once) = none_holds _ _ _ is in
    let (s, x, l) = whole_has _ _ _ f e in
    record {
      start = one_giver _ _ f.start start_once s;
      expiry = one_giver _ _ (Some f.expiry) expiry_once x;
      letters = one_giver _ _ (Some f.letters) letters_once l;
    }

by_unknown : (acl : Acl) (t : Sent) (f : Fields) (unknown : Bool) → cond unknown (Err Absent) (with_policy t (policy_of acl t)) ≡ Ok f → HaveOneGiver t (policy_of acl t) f
by_unknown acl t f true e = absurd (cc)
by_unknown acl t f false e = by_twice t (policy_of acl t) f _ refl e

pub one_giver_each : (acl : Acl) (t : Sent) (f : Fields) → fields_with acl t ≡ Ok f → HaveOneGiver t (policy_of acl t) f
one_giver_each acl t f e = by_unknown acl t f (names_unknown_policy acl t) e

-- the fields of a token whose policy was found, by what the look-up gives
by_found : (t : Sent) (p : Policy) (unnamed : Bool) (found : Option Policy) → unnamed ≡ false → found ≡ Some p → with_policy t (Some p) ≡ cond (not unnamed && is_none found) (Err Absent) (with_policy t (cond unnamed None found))
by_found t p true found named is = absurd (cc)
by_found t p false None named is = absurd (cc)
by_found t p false (Some q) named is = ap (with_policy t) (sym is)

-- the fields of a token whose policy was found
pub found_policy : (acl : Acl) (t : Sent) (p : Policy) → bytes_eq t.id [] ≡ false → policy_with acl t.id ≡ Some p → with_policy t (Some p) ≡ fields_with acl t
found_policy acl t p named is = by_found t p _ _ named is
