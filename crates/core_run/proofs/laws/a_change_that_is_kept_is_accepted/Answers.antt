use Rattle.core_run.proofs.AcceptableLemmas.{opening_acceptable, run_goes}
use Rattle.core_run.proofs.laws.a_change_that_is_kept_is_accepted.Goals as goal

pub returns-clause-opening : goal.returns-clause-opening
returns-clause-opening c = λ pairs i e at. opening_acceptable pairs i e at

pub returns-clause-run : goal.returns-clause-run
returns-clause-run c = λ s s' before after steps answers run sound all. run_goes steps answers s s' before after run sound all
