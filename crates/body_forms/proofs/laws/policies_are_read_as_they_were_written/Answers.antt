use Rattle.body_forms.proofs.ReadAgain.{any_read_again, read_again}
use Rattle.body_forms.proofs.laws.policies_are_read_as_they_were_written.Goals as goal

pub returns-clause-read : goal.returns-clause-read
returns-clause-read c = read_again

pub returns-clause-any : goal.returns-clause-any
returns-clause-any c = any_read_again
