use Rattle.range_rows.proofs.LengthLemmas.{length_of_blob, length_of_body}
use Rattle.range_rows.proofs.answer_laws.the_length_is_the_number_of_bytes_that_go_out.Goals as goal

pub returns-clause-body : goal.returns-clause-body
returns-clause-body c = λ v p q other. length_of_body v p q other

pub returns-clause-properties : goal.returns-clause-properties
returns-clause-properties c = λ v p q is. length_of_blob v p q is
