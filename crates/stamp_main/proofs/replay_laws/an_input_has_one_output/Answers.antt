use Rattle.stamp_main.proofs.ReplayLemmas.{one_output, some_output}
use Rattle.stamp_main.proofs.replay_laws.an_input_has_one_output.Goals as goal

pub returns-clause-some : goal.returns-clause-some
returns-clause-some c = λ keys time input. some_output keys time input

pub returns-clause-once : goal.returns-clause-once
returns-clause-once c = λ keys time input output other p q. one_output keys time input output other p q
