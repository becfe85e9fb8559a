use Rattle.std.proofs.Common.{subst}
use Rattle.slot_state.specs.Slots.{SlotState}
use Rattle.stored_slot.specs.Parts.{slot_of}
use Rattle.stored_slot.specs.Settled.{SettlesOrFails}
use Rattle.stored_slot.proofs.stored_slot.StoredSlot.settle.Goals as goal

pub returns-clause-settled : goal.returns-clause-settled
returns-clause-settled g c = subst (λ (s : SlotState). SettlesOrFails c.settle.result s (slot_of g.H.Histories.held c.settle.new.self)) c.self.view_is c.settle.ensures.settled
