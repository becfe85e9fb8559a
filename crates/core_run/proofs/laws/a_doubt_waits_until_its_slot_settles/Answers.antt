use Rattle.core_run.proofs.WaitLemmas.{waits_on}
use Rattle.core_run.proofs.laws.a_doubt_waits_until_its_slot_settles.Goals as goal

pub returns : goal.returns
returns c = λ s s' x faulted answer key e sound takes apart waits. waits_on key x s s' faulted answer takes apart sound e waits
