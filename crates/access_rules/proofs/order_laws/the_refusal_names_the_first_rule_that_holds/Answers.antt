use Rattle.access_rules.proofs.OrderLemmas.{first_named}
use Rattle.access_rules.proofs.order_laws.the_refusal_names_the_first_rule_that_holds.Goals as goal

pub returns : goal.returns
returns c = λ keys acl q t one other holding other_holding. first_named keys acl q t one other holding other_holding
