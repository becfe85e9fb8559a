use Rattle.slot_pass.proofs.LawLemmas.{grown_pass, in_one_list, met_history}
use Rattle.slot_pass.proofs.laws.changes_of_two_passes_are_in_one_list.Goals as goal

pub returns-clause-made : goal.returns-clause-made
returns-clause-made c = λ p after s next q t old new a answers. met_history p after s next q t old new a answers

pub returns-clause-grown : goal.returns-clause-grown
returns-clause-grown c = λ p after s next q t old new a answers. grown_pass p after s next q t old new a answers

pub returns-clause-one : goal.returns-clause-one
returns-clause-one c = λ p other order is. in_one_list p other order is
