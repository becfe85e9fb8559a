use Rattle.log_record.proofs.RecordLemmas.{same_change}
use Rattle.log_record.proofs.laws.a_record_says_one_change.Goals as goal

pub returns : goal.returns
returns c = same_change
