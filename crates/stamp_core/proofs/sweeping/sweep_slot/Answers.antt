use Rattle.stored_slot.specs.declared.sweeping.SweepStep.{SweepStep}
use Rattle.stamp_core.proofs.SweepLemmas.{slot_swept, slot_failed}
use Rattle.stamp_core.proofs.sweeping.sweep_slot.Goals as goal

pub returns-in-Ok-clause-swept : goal.returns-in-Ok-clause-swept
returns-in-Ok-clause-swept g c = slot_swept c.args.slot.now c.sweep.new.self _ _ c.in-Ok.swept c.in-Ok.ensures.left c.in-Ok.ensures.counted

pub returns-in-Err-clause-swept : goal.returns-in-Err-clause-swept
returns-in-Err-clause-swept g c = slot_failed SweepStep c.args.slot.now c.sweep.new.self _ _ c.in-Err._fault c.in-Err.ensures.left c.in-Err.ensures.counted
