use Rattle.stored_slot.proofs.SweepLemmas.{row_counted, touched_beside}
use Rattle.stored_slot.proofs.sweeping.touch.Goals as goal

pub returns-in-Ok-clause-beside : goal.returns-in-Ok-clause-beside
returns-in-Ok-clause-beside g c = touched_beside c.touch.result c.args.stored.now c.touch.new.self c.touch.ensures.kept c.touch.ensures.doubt

pub returns-in-Err-clause-beside : goal.returns-in-Err-clause-beside
returns-in-Err-clause-beside g c = touched_beside c.touch.result c.args.stored.now c.touch.new.self c.touch.ensures.kept c.touch.ensures.doubt

pub returns-in-Err-clause-counted : goal.returns-in-Err-clause-counted
returns-in-Err-clause-counted g c = row_counted c.in-Err.fault c.row_fault.result _ _ c.row_fault.ensures c.in-Err.ensures.counted
