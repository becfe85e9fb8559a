use Rattle.core_run.proofs.FaultLemmas.{calm_reply, fault_rule_if, faultless, tells_if}
use Rattle.core_run.proofs.laws.a_fault_is_told_only_if_a_call_failed.Goals as goal

pub returns-clause-model : goal.returns-clause-model
returns-clause-model c = λ w now. calm_reply w now

pub returns-clause-step : goal.returns-clause-step
returns-clause-step c = λ s s' x answer calm takes. faultless answer s' x s calm takes

pub returns-clause-rule : goal.returns-clause-rule
returns-clause-rule c = λ r. fault_rule_if r

pub returns-clause-answer : goal.returns-clause-answer
returns-clause-answer c = λ a. tells_if a
