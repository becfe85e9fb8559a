use Rattle.body_forms.proofs.FaultLemmas.{form_fault, id_fault, other_fault}
use Rattle.body_forms.proofs.GrammarLaws.{blocks_sound, blocks_complete, form_complete, id_complete}
use Rattle.body_forms.proofs.laws.block_lists_are_read_as_the_grammar_says.Goals as goal

pub returns-clause-read : goal.returns-clause-read
returns-clause-read c = λ body wanted have. (blocks_sound body wanted, blocks_complete body wanted have)

pub returns-clause-form : goal.returns-clause-form
returns-clause-form c = λ body. (form_fault body, form_complete body)

pub returns-clause-id : goal.returns-clause-id
returns-clause-id c = λ body. (id_fault body, id_complete body)

pub returns-clause-no_other : goal.returns-clause-no_other
returns-clause-no_other c = other_fault
