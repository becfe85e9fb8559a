-- The first of the rules that hold.
use Rattle.std.proofs.Common.{◌≡◌, ℕ, zero, suc, ◌≤◌, arith, Bool, true, false, cond, List, [], ◌∷◌, Option, Some, refl, sym, ap, ◌∙◌}
use Rattle.std.specs.Prelude.{find}
use Rattle.std.specs.List.{slice_get}
use Rattle.stamp_values.specs.declared.acl.Acl.{Acl}
use Rattle.stamp_types.specs.declared.ask.Ask.{Ask}
use Rattle.stamp_types.specs.declared.rule.Rule.{Rule}
use Rattle.stamp_types.specs.declared.rule.Rule.TheVariants.{K1, K2, K3, K4, K5, S1, S2, S3, S4, S5, S6, S7, S8, S9, S10, S11, P1, P2}
use Rattle.access_rules.specs.declared.judgement.Verdict.TheVariants.{Deny}
use Rattle.access_rules.specs.declared.keys.Keys.{Keys}
use Rattle.access_rules.specs.RuleOrder.{IsNotAfter}
use Rattle.access_rules.specs.Rules.{access_rules, first_rule, holds, verdict_by, verdict_of, way_of}

-- what is found passes the test, and is not after a given place
record IsFound {A : Type 0} (test : A → Bool) (xs : List A) (place : ℕ) : Type 0 where
  pub first : A
  pub found : find test xs ≡ Some first
  pub passes : test first ≡ true
  pub at : ℕ
  pub is_there : slice_get xs at ≡ Some first
  pub order : at ≤ place

-- if an element of a list passes a test, what is found is not after it
found_by : {A : Type 0} (test : A → Bool) (xs : List A) (place : ℕ) (x : A) → slice_get xs place ≡ Some x → test x ≡ true → IsFound test xs place
found_by test [] place x is passes = cc
found_by {A} test (y ∷ ys) zero x is passes =
    let same : y ≡ x = cc in
    let first : test y ≡ true = ap test same ∙ passes in
    record { first = y; found = ap (λ b. cond b (Some y) (find test ys)) first; passes = first; at = zero; is_there = refl; order = omega arith }
found_by {A} test (y ∷ ys) (suc place) x is passes = by (test y) refl (found_by test ys place x is passes)
  where
    by : (b : Bool) → test y ≡ b → IsFound test ys place → IsFound test (y ∷ ys) (suc place)
    by true first later = record { first = y; found = ap (λ b. cond b (Some y) (find test ys)) first; passes = first; at = zero; is_there = refl; order = omega arith }
    by false first later = record {
      first = later.first;
      found = ap (λ b. cond b (Some y) (find test ys)) first ∙ later.found;
      passes = later.passes;
      at = suc later.at;
      is_there = later.is_there;
      order = omega (arith, later.order);
    }

module _ (keys : Option Keys) (acl : Option Acl) (q : Ask) (t : ℕ) where
  -- a rule that holds is one of the rules of permission
  placed : (rule : Rule) → holds keys acl q t rule ≡ true → (place : ℕ) × (slice_get access_rules place ≡ Some rule)
  placed K1 e = (0, refl)
  placed K2 e = (1, refl)
  placed K3 e = (2, refl)
  placed K4 e = (3, refl)
  placed K5 e = (4, refl)
  placed S1 e = (5, refl)
  placed S2 e = (6, refl)
  placed S3 e = (7, refl)
  placed S4 e = (8, refl)
  placed S5 e = (9, refl)
  placed S6 e = (10, refl)
  placed S7 e = (11, refl)
  placed S8 e = (12, refl)
  placed S9 e = (13, refl)
  placed S10 e = (14, refl)
  placed S11 e = (15, refl)
  placed P1 e = (16, refl)
  placed P2 e = (17, refl)
  placed other e = cc

  not_after : (rule : Rule) (holding : holds keys acl q t rule ≡ true) (named : Rule) → first_rule keys acl q t ≡ Some named → IsNotAfter named rule
  not_after rule holding named is =
      let there = placed rule holding in
      let first : IsFound (holds keys acl q t) access_rules there.0 = found_by (holds keys acl q t) access_rules there.0 rule there.1 holding in
      let same : Some first.first ≡ Some named = sym first.found ∙ is in
      record { place = first.at; is_there = first.is_there ∙ same; other_place = there.0; other_is_there = there.1; order = first.order }

  -- if two rules hold, the refusal names a rule that holds and that comes after neither of them
  pub first_named : (one other : Rule) → holds keys acl q t one ≡ true → holds keys acl q t other ≡ true
      → (named : Rule) × (verdict_of keys acl q t ≡ Deny named) × (holds keys acl q t named ≡ true) × IsNotAfter named one × IsNotAfter named other
  first_named one other holding other_holding =
      let there = placed one holding in
      let first : IsFound (holds keys acl q t) access_rules there.0 = found_by (holds keys acl q t) access_rules there.0 one there.1 holding in (
        first.first,
        ap (λ rule. verdict_by rule (way_of q.credential)) first.found,
        first.passes,
        not_after one holding first.first first.found,
        not_after other other_holding first.first first.found,
      )
