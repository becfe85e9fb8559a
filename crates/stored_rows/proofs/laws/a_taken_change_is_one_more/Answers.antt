use Rattle.stored_rows.proofs.LawLemmas.{taken_all}
use Rattle.stored_rows.proofs.laws.a_taken_change_is_one_more.Goals as goal

pub returns-clause-one : goal.returns-clause-one
returns-clause-one x = λ u s t c taken. taken.own

pub returns-clause-others : goal.returns-clause-others
returns-clause-others x = λ u s t c key taken other. taken.others key other

pub returns-clause-all : goal.returns-clause-all
returns-clause-all x = λ s t cs key taken. taken_all s t cs key taken
