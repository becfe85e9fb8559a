use Rattle.partition_stream.proofs.FailedLemmas.{failed_change, sealed_log}
use Rattle.partition_stream.proofs.laws.a_change_that_fails_is_not_counted.Goals as goal

pub returns-clause-logged : goal.returns-clause-logged
returns-clause-logged c = λ s t e change key is rows. failed_change s t e change key is rows

pub returns-clause-sealed : goal.returns-clause-sealed
returns-clause-sealed c = λ s t r key is rows. sealed_log s t r key is rows
