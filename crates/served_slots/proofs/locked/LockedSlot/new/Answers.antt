use Rattle.std.proofs.Common.{None, sym, subst}
use Rattle.slot_state.specs.Slots.{SlotState}
use Rattle.served_slots.specs.Slots.{IsLeftBy}
use Rattle.served_slots.proofs.locked.LockedSlot.new.Goals as goal

pub invariant_of-result : goal.invariant_of-result
invariant_of-result g c = subst (λ (s : SlotState). IsLeftBy c.args.own None s) (sym c.first_slot-slot.ensures) c.requires
