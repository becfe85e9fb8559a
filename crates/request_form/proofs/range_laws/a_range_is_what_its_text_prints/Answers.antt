use Rattle.request_form.proofs.RangeLemmas.{has_range, range_printed}
use Rattle.request_form.proofs.range_laws.a_range_is_what_its_text_prints.Goals as goal

pub returns-clause-printed : goal.returns-clause-printed
returns-clause-printed c = λ first last some digits others. range_printed first last some digits others

pub returns-clause-read : goal.returns-clause-read
returns-clause-read c = λ text range has. has_range text range has
