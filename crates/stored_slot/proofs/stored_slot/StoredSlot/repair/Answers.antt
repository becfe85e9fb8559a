use Rattle.std.proofs.Common.{subst}
use Rattle.stored_rows.specs.Repairs.{unnamed}
use Rattle.slot_state.specs.Slots.{SlotState}
use Rattle.stored_slot.specs.Parts.{slot_of}
use Rattle.stored_slot.specs.Settled.{LeavesRepaired}
use Rattle.stored_slot.proofs.stored_slot.StoredSlot.repair.Goals as goal

pub returns-clause-left : goal.returns-clause-left
returns-clause-left g c = subst (λ (s : SlotState). LeavesRepaired (unnamed c.repair.result) s (slot_of g.H.Histories.held c.repair.new.self)) c.self.view_is c.repair.ensures.left
