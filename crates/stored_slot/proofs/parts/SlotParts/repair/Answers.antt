use Rattle.stored_slot.proofs.RepairLemmas.{refused_still, repair_kept, repair_later, repair_left, unrepaired, unrepaired_fails, unrepaired_own, unrepaired_unrefused}
use Rattle.stored_rows.specs.Repairs.{unnamed}
use Rattle.stored_slot.proofs.parts.SlotParts.repair.Goals as goal

pub returns-in-Ok-clause-after : goal.returns-in-Ok-clause-after
returns-in-Ok-clause-after g c =
    let held = g.H.Histories.held in
    repair_kept held c.args.self.now c.settle.new.self c.in-Ok.ensures.settled c.settle.ensures.after c.repair.new.self c.repair.ensures.same c.repair.ensures.doubt

pub returns-in-Ok-clause-left : goal.returns-in-Ok-clause-left
returns-in-Ok-clause-left g c =
    let held = g.H.Histories.held in
    repair_left held c.args.self.now c.settle.new.self c.in-Ok.ensures.settled c.settle.ensures.after c.repair.new.self (unnamed c.repair.result) c.repair.ensures.same

pub returns-in-Ok-clause-refused : goal.returns-in-Ok-clause-refused
returns-in-Ok-clause-refused g c = refused_still c.args.part c.args.extent c.settle.new.self.stored c.repair.new.self c.repair.result c.repair.ensures.refused c.repair.ensures.left

pub returns-in-Ok-clause-counted : goal.returns-in-Ok-clause-counted
returns-in-Ok-clause-counted g c = repair_later (unnamed c.repair.result) _ _ _ c.in-Ok.ensures.counted c.repair.ensures.counted

pub returns-in-Err-clause-left : goal.returns-in-Err-clause-left
returns-in-Err-clause-left g c = unrepaired c.in-Err.fault c.repair_fault.result _ _ c.repair_fault.ensures c.in-Err.ensures.settled

pub returns-in-Err-clause-refused : goal.returns-in-Err-clause-refused
returns-in-Err-clause-refused g c = unrepaired_unrefused c.in-Err.fault c.repair_fault.result _ c.repair_fault.ensures

pub returns-in-Err-clause-counted : goal.returns-in-Err-clause-counted
returns-in-Err-clause-counted g c = unrepaired_fails c.in-Err.fault c.repair_fault.result _ _ c.repair_fault.ensures c.in-Err.ensures.counted

pub returns-in-Err-clause-own : goal.returns-in-Err-clause-own
returns-in-Err-clause-own g c = unrepaired_own c.in-Err.fault c.repair_fault.result c.args.part c.args.extent c.args.node c.repair_fault.ensures
