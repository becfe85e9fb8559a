use Rattle.std.proofs.Common.{subst}
use Rattle.slot_state.specs.Slots.{SlotState}
use Rattle.stored_slot.specs.Parts.{slot_of}
use Rattle.stored_slot.specs.Settled.{LeavesSettled}
use Rattle.stored_slot.proofs.stored_slot.StoredSlot.sweep.Goals as goal

pub returns-clause-left : goal.returns-clause-left
returns-clause-left g c = subst (λ (s : SlotState). LeavesSettled c.sweep.result s (slot_of g.H.Histories.held c.sweep.new.self)) c.self.view_is c.sweep.ensures.left
