use Rattle.stamp_model.proofs.RuleLemmas.{refusing_rule-first}
use Rattle.stamp_model.proofs.laws.the_refusal_is_the_first_rule_of_all.Goals as goal

pub returns : goal.returns
returns c = λ keys p q t. refusing_rule-first keys p q t
