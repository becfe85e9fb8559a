-- The rules before the signature among all rules.
use Rattle.std.proofs.Common.{◌≡◌, ◌∙◌, ℕ, Bool, true, false, cond, ◌||◌, List, Option, Some, None, refl, sym, ap, subst}
use Rattle.stamp_values.specs.declared.acl.Acl.{Acl}
use Rattle.stamp_values.specs.declared.signing.Credential.{Credential}
use Rattle.stamp_values.specs.declared.signing.Credential.TheVariants.{Shared}
use Rattle.stamp_types.specs.declared.ask.Ask.{Ask}
use Rattle.stamp_types.specs.declared.rule.Rule.{Rule}
use Rattle.stamp_types.specs.declared.rule.Rule.TheVariants.{K1, K2, K3, K4, K5}
use Rattle.access_rules.specs.declared.keys.Keys.{Keys}
use Rattle.access_rules.specs.declared.judgement.EarlyJudgement.{EarlyJudgement}
use Rattle.access_rules.specs.declared.judgement.Verdict.TheVariants.{Deny}
use Rattle.access_rules.specs.declared.judgement.Way.TheVariants as way
use Rattle.access_rules.specs.KeyRoute.{date_or_rule, early_of, key_rule, rule_before_moment, rule_by_date}
use Rattle.access_rules.specs.Parts.{date_in, is_far}
use Rattle.access_rules.specs.Rules.{first_rule, has_false_claim, holds, rule_before_signature, some_passes, verdict_by, verdict_of, way_of}

by_four : (a b c d : Bool) (rest : Option Rule) (rule : Rule) → cond a (Some K1) (cond b (Some K2) (cond c (Some K3) (cond d (Some K4) None))) ≡ Some rule
    → cond a (Some K1) (cond b (Some K2) (cond c (Some K3) (cond d (Some K4) rest))) ≡ Some rule
by_four true b c d rest rule h = h
by_four false true c d rest rule h = h
by_four false false true d rest rule h = h
by_four false false false true rest rule h = h
by_four false false false false rest rule h = cc

before_shared : (keys : Option Keys) (acl : Option Acl) (q : Ask) (t : ℕ) (rule : Rule) (values : List (List ℕ))
    → rule_before_signature keys (record q { credential = Shared values }) t ≡ Some rule → first_rule keys acl (record q { credential = Shared values }) t ≡ Some rule
before_shared keys acl q t rule values h =
    let ask : Ask = record q { credential = Shared values } in
    by_four (holds keys acl ask t K1) (holds keys acl ask t K2) (holds keys acl ask t K3) (holds keys acl ask t K4) _ rule h

-- if one of the rules before the signature holds of a request that asks by a key, the first of them is the first rule of all
first_rule-before : (keys : Option Keys) (acl : Option Acl) (q : Ask) (t : ℕ) (rule : Rule) (values : List (List ℕ)) → q.credential ≡ Shared values
    → rule_before_signature keys q t ≡ Some rule → first_rule keys acl q t ≡ Some rule
first_rule-before keys acl q t rule values is =
    subst (λ (c : Credential). rule_before_signature keys (record q { credential = c }) t ≡ Some rule → first_rule keys acl (record q { credential = c }) t ≡ Some rule) (sym is)
    (before_shared keys acl q t rule values)

-- such a request is refused by this rule
pub verdict_of-before : (keys : Option Keys) (acl : Option Acl) (q : Ask) (t : ℕ) (rule : Rule) (values : List (List ℕ)) → q.credential ≡ Shared values
    → rule_before_signature keys q t ≡ Some rule → Deny rule ≡ verdict_of keys acl q t
verdict_of-before keys acl q t rule values is h =
    sym (ap (λ (r : Option Rule). verdict_by r (way_of q.credential)) (first_rule-before keys acl q t rule values is h))

-- ---- the rules that need no moment, before the date

late_by : (a b c d : Bool) → cond a (Some K1) (cond b (Some K2) (cond c (Some K3) None)) ≡ None
    → cond a (Some K1) (cond b (Some K2) (cond c (Some K3) (cond d (Some K4) None))) ≡ cond d (Some K4) None
late_by true b c d h = cc
late_by false true c d h = cc
late_by false false true d h = cc
late_by false false false d h = refl

early_by : (a b c d : Bool) (rule : Rule) → cond a (Some K1) (cond b (Some K2) (cond c (Some K3) None)) ≡ Some rule
    → cond a (Some K1) (cond b (Some K2) (cond c (Some K3) (cond d (Some K4) None))) ≡ Some rule
early_by true b c d rule h = h
early_by false true c d rule h = h
early_by false false true d rule h = h
early_by false false false d rule h = cc

late_shared : (keys : Option Keys) (q : Ask) (t : ℕ) (values : List (List ℕ)) → rule_before_moment keys (record q { credential = Shared values }) ≡ None
    → rule_before_signature keys (record q { credential = Shared values }) t ≡ cond (some_passes (is_far t) (date_in q.signing.headers)) (Some K4) None
late_shared keys q t values h =
    let ask : Ask = record q { credential = Shared values } in
    late_by (holds keys None ask t K1) (holds keys None ask t K2) (holds keys None ask t K3) (holds keys None ask t K4) h

early_shared : (keys : Option Keys) (q : Ask) (t : ℕ) (rule : Rule) (values : List (List ℕ)) → rule_before_moment keys (record q { credential = Shared values }) ≡ Some rule
    → rule_before_signature keys (record q { credential = Shared values }) t ≡ Some rule
early_shared keys q t rule values h =
    let ask : Ask = record q { credential = Shared values } in
    early_by (holds keys None ask t K1) (holds keys None ask t K2) (holds keys None ask t K3) (holds keys None ask t K4) rule h

-- if no rule holds that needs no moment, the date alone decides whether a rule before the signature holds
pub late_rule : (keys : Option Keys) (q : Ask) (t : ℕ) (values : List (List ℕ)) → q.credential ≡ Shared values → rule_before_moment keys q ≡ None
    → rule_before_signature keys q t ≡ cond (some_passes (is_far t) (date_in q.signing.headers)) (Some K4) None
late_rule keys q t values is =
    subst (λ (c : Credential). rule_before_moment keys (record q { credential = c }) ≡ None
    → rule_before_signature keys (record q { credential = c }) t ≡ cond (some_passes (is_far t) (date_in q.signing.headers)) (Some K4) None) (sym is)
    (late_shared keys q t values)

-- the first rule that holds and needs no moment is the first rule before the signature
pub early_rule : (keys : Option Keys) (q : Ask) (t : ℕ) (rule : Rule) (values : List (List ℕ)) → q.credential ≡ Shared values → rule_before_moment keys q ≡ Some rule
    → rule_before_signature keys q t ≡ Some rule
early_rule keys q t rule values is =
    subst (λ (c : Credential). rule_before_moment keys (record q { credential = c }) ≡ Some rule → rule_before_signature keys (record q { credential = c }) t ≡ Some rule) (sym is)
    (early_shared keys q t rule values)

-- ---- what the keys and the request alone decide

or_false : (b : Bool) → (b || false) ≡ b
or_false true = refl
or_false false = refl

by_five : (a b c : Bool) (date : Option ℕ) (t : ℕ) (false_one : Bool) → rule_by_date (date_or_rule (cond a (Some K1) (cond b (Some K2) (cond c (Some K3) None))) date) t false_one
    ≡ cond a (Some K1) (cond b (Some K2) (cond c (Some K3) (cond (some_passes (is_far t) date) (Some K4) (cond false_one (Some K5) None))))
by_five true b c date t false_one = refl
by_five false true c date t false_one = refl
by_five false false true date t false_one = refl
by_five false false false date t false_one = refl

key_shared : (keys : Option Keys) (acl : Option Acl) (q : Ask) (t : ℕ) (values : List (List ℕ))
    → key_rule (early_of keys (record q { credential = Shared values })) t ≡ first_rule keys acl (record q { credential = Shared values }) t
key_shared keys acl q t values =
    let ask : Ask = record q { credential = Shared values } in
    ap (λ (b : Bool). rule_by_date (date_or_rule (rule_before_moment keys ask) (date_in q.signing.headers)) t b) (or_false (has_false_claim keys ask))
    ∙ by_five (holds keys acl ask t K1) (holds keys acl ask t K2) (holds keys acl ask t K3) (date_in q.signing.headers) t (has_false_claim keys ask)

-- the first rule that holds of a request that asks by a key, from what its keys and the request alone decide
pub first_key_rule : (keys : Option Keys) (acl : Option Acl) (q : Ask) (t : ℕ) (values : List (List ℕ)) → q.credential ≡ Shared values
    → key_rule (early_of keys q) t ≡ first_rule keys acl q t
first_key_rule keys acl q t values is =
    subst (λ (c : Credential). key_rule (early_of keys (record q { credential = c })) t ≡ first_rule keys acl (record q { credential = c }) t) (sym is)
    (key_shared keys acl q t values)

-- the verdict on such a request
pub key_verdict : (early : EarlyJudgement) (keys : Option Keys) (acl : Option Acl) (q : Ask) (t : ℕ) (values : List (List ℕ)) → q.credential ≡ Shared values
    → early ≡ early_of keys q → verdict_by (key_rule early t) way.Shared ≡ verdict_of keys acl q t
key_verdict early keys acl q t values is known =
    ap (λ (e : EarlyJudgement). verdict_by (key_rule e t) way.Shared) known
    ∙ ap (λ (r : Option Rule). verdict_by r way.Shared) (first_key_rule keys acl q t values is)
    ∙ ap (λ (c : Credential). verdict_by (first_rule keys acl q t) (way_of c)) (sym is)
