use Rattle.std.proofs.Common.{subst, arith}
use Rattle.log_record.specs.Outcomes.{Tells}
use Rattle.log_record.proofs.RecordLemmas.{is_read, bytes_again}
use Rattle.log_record.proofs.record.read_change.Goals as goal

pub returns-clause-read : goal.returns-clause-read
returns-clause-read c = is_read c.args.bytes.now c.read_record.result (λ i. omega (arith, c.type_inv.bytes i)) c.read_record.ensures

pub returns-clause-again : goal.returns-clause-again
returns-clause-again c = λ change epoch good within is.
    subst (λ r. Tells c.read_record.result r) (bytes_again c.args.bytes.now change epoch good within is) c.read_record.ensures
