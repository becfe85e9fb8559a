use Rattle.stamp_model.proofs.ConditionLemmas.{met-answered, met-changed, seen-accepted, seen-answered}
use Rattle.stamp_model.proofs.condition_laws.a_conditional_write_changes_what_its_caller_saw.Goals as goal

pub returns-clause-changed : goal.returns-clause-changed
returns-clause-changed c = λ keys w q t fits changes. met-changed keys w q t fits changes

pub returns-clause-answered : goal.returns-clause-answered
returns-clause-answered c = λ keys w q t bound fits none. met-answered keys w q t fits bound none

pub returns-clause-seen : goal.returns-clause-seen
returns-clause-seen c = λ pairs key front middle e name seen fits on asks at_first new. seen-accepted pairs key front middle e name seen fits on asks at_first new

pub returns-clause-run : goal.returns-clause-run
returns-clause-run c = λ w front middle r name seen within fits on asks at_first none. seen-answered w front middle r name seen within fits on asks at_first none
