use Rattle.log_record.proofs.RecordLemmas.{change_refused}
use Rattle.log_record.proofs.record.read_after_version.Goals as goal

pub returns-in-None : goal.returns-in-None
returns-in-None c = change_refused c.args.version c.args.bytes.now c.in_ok-key.field-0.key c.in_ok-key.field-0.act c.in_ok-key.field-0.epoch c.in_ok-key.ensures c.in-None.ensures.valid.1
