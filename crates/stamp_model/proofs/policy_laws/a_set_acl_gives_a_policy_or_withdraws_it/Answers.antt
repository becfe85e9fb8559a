use Rattle.stamp_model.proofs.PolicyLemmas.{gives_if, withdraws_if}
use Rattle.stamp_model.proofs.policy_laws.a_set_acl_gives_a_policy_or_withdraws_it.Goals as goal

pub returns-clause-withdraws : goal.returns-clause-withdraws
returns-clause-withdraws c = λ id q. withdraws_if id q q.ask.op

pub returns-clause-gives : goal.returns-clause-gives
returns-clause-gives c = λ id q. gives_if id q q.ask.op
