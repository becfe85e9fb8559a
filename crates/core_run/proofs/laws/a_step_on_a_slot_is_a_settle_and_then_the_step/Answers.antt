use Rattle.core_run.proofs.SettleLemmas.{settles_then}
use Rattle.core_run.proofs.laws.a_step_on_a_slot_is_a_settle_and_then_the_step.Goals as goal

pub returns : goal.returns
returns c = λ s s' x faulted answer takes. settles_then x s s' faulted answer takes
