-- The first rule of the key route that holds, from what the keys and the request alone decide (Blob service REST reference, 2012-02-12,
-- Authentication for the Azure Storage Services).
use Rattle.std.specs.Prelude.{ℕ, Bool, cond, find, List, [], ◌∷◌, Option, Some, None}
use Rattle.stamp_types.specs.declared.ask.Ask.{Ask}
use Rattle.stamp_types.specs.declared.rule.Rule.{Rule}
use Rattle.stamp_types.specs.declared.rule.Rule.TheVariants.{K1, K2, K3, K4, K5}
use Rattle.access_rules.specs.declared.judgement.Dated.{Dated}
use Rattle.access_rules.specs.declared.judgement.Dated.TheVariants.{Open, Refused}
use Rattle.access_rules.specs.declared.judgement.EarlyJudgement.{EarlyJudgement}
use Rattle.access_rules.specs.declared.keys.Keys.{Keys}
use Rattle.access_rules.specs.Parts.{date_in, is_far}
use Rattle.access_rules.specs.Rules.{has_false_signature, holds, on_key, some_passes}

-- the rules of the key route that need no moment
abbrev pub rules_before_moment : List Rule
rules_before_moment = K1 ∷ K2 ∷ K3 ∷ []

-- the first of these rules that holds; neither the container nor the moment matters to these rules
abbrev pub rule_before_moment : Option Keys → Ask → Option Rule
rule_before_moment keys q = find (holds keys None q 0) rules_before_moment

-- the moment that the date of a request names, if the request asks by a key
abbrev pub date_asked : Ask → Option ℕ
date_asked q = cond (on_key q.credential) (date_in q.signing.headers) None

-- the date, if no rule refuses the request before the date is compared with a moment, or else this rule
abbrev pub date_or_rule : Option Rule → Option ℕ → Dated
date_or_rule None date = Open date
date_or_rule (Some rule) date = Refused rule

-- what the keys and the request alone decide: the first of the rules K1 to K3 that holds, or else the date, and whether the signature is
-- false
abbrev pub early_of : Option Keys → Ask → EarlyJudgement
early_of keys q = record { dated = date_or_rule (rule_before_moment keys q) (date_asked q); is_false = has_false_signature keys q }

-- the first rule of the key route that holds at a moment, if this was decided of the date and of the signature
abbrev pub rule_by_date : Dated → ℕ → Bool → Option Rule
rule_by_date (Refused rule) t wrong = Some rule
rule_by_date (Open date) t wrong = cond (some_passes (is_far t) date) (Some K4) (cond wrong (Some K5) None)

-- the same, if it is known what the keys and the request alone decide
abbrev pub key_rule : EarlyJudgement → ℕ → Option Rule
key_rule early t = rule_by_date early.dated t early.is_false
