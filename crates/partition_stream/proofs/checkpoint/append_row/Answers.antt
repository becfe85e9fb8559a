use Rattle.std.proofs.Common.{length}
use Rattle.partition_stream.proofs.CallLemmas.{busy_calls, doubt_calls, placed_calls}
use Rattle.partition_stream.proofs.CheckpointLemmas.{row_appended}
use Rattle.partition_stream.proofs.checkpoint.append_row.Goals as goal

pub returns-in-Ok-clause-added : goal.returns-in-Ok-clause-added
returns-in-Ok-clause-added g c =
    row_appended c.args.rows.now c.append_record.new.log c.args.block.now c.args.change.now c.requires.whole c.requires.fits c.requires.written c.in-Ok.ensures.appended

pub returns-in-Ok-clause-called : goal.returns-in-Ok-clause-called
returns-in-Ok-clause-called g c =
    placed_calls (length c.args.rows.now.sealed) (length c.append_record.new.log.sealed)
    (g.W.Wire.calls c.args.wire.now) (g.W.Wire.calls c.append_record.new.wire) c.in-Ok.ensures.called

pub returns-in-Err-Busy-clause-called : goal.returns-in-Err-Busy-clause-called
returns-in-Err-Busy-clause-called g c =
    busy_calls (length c.args.rows.now.sealed) (length c.append_record.new.log.sealed)
    (g.W.Wire.calls c.args.wire.now) (g.W.Wire.calls c.append_record.new.wire) (rw c.in-Err-Busy.field-0-is at c.in-Err-Busy.ensures.called)

pub returns-in-Err-Doubt-clause-called : goal.returns-in-Err-Doubt-clause-called
returns-in-Err-Doubt-clause-called g c =
    doubt_calls (length c.args.rows.now.sealed) (length c.append_record.new.log.sealed)
    (g.W.Wire.calls c.args.wire.now) (g.W.Wire.calls c.append_record.new.wire) (rw c.in-Err-Doubt.field-0-is at c.in-Err-Doubt.ensures.called)
