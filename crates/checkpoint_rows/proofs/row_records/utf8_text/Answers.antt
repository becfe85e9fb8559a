use Rattle.stamp_values.proofs.Utf8Lemmas.{utf8_passes, others_fail}
use Rattle.checkpoint_rows.proofs.row_records.utf8_text.Goals as goal

pub returns-in-Ok : goal.returns-in-Ok
returns-in-Ok c = (utf8_passes c.args.bytes.now c.in-Ok.ensures.cases.1, c.in-Ok.ensures.cases.0)

pub returns-in-Err : goal.returns-in-Err
returns-in-Err c = others_fail c.args.bytes.now _ c.in-Err.ensures.cases.1
