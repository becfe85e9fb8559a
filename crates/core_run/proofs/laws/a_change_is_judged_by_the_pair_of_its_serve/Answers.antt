use Rattle.core_run.proofs.PairLemmas.{current_is, doubted_entry, doubted_stays, pair_stays}
use Rattle.core_run.proofs.laws.a_change_is_judged_by_the_pair_of_its_serve.Goals as goal

pub returns-clause-current : goal.returns-clause-current
returns-clause-current c = λ s account sound. current_is s account sound

pub returns-clause-stays : goal.returns-clause-stays
returns-clause-stays c = λ s s' x faulted answer account epoch takes some. pair_stays account epoch x s s' faulted answer takes some

pub returns-clause-entry : goal.returns-clause-entry
returns-clause-entry c = λ s q t sound. doubted_entry s q t sound

pub returns-clause-kept : goal.returns-clause-kept
returns-clause-kept c = λ s s' x faulted answer e takes some. doubted_stays x s s' faulted answer e takes some
