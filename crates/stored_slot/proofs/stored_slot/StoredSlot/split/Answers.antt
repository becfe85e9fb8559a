use Rattle.std.proofs.Common.{◌≡◌, true, sym, subst}
use Rattle.slot_state.specs.Slots as slots
use Rattle.slot_state.specs.Slots.{SlotState}
use Rattle.stored_slot.specs.Parts.{slot_of}
use Rattle.stored_slot.specs.Settled.{CutsSettled}
use Rattle.stored_slot.proofs.HalfLemmas.{inside_covered}
use Rattle.stored_slot.proofs.stored_slot.StoredSlot.split.Goals as goal

pub cut-requires-clause-covered : goal.cut-requires-clause-covered
cut-requires-clause-covered g c =
    inside_covered c.self.inside.parts.stored.range c.args.middle.now (subst (λ (s : SlotState). slots.is_inside s c.args.middle.now ≡ true) (sym c.self.view_is) c.requires)

pub returns-clause-cut : goal.returns-clause-cut
returns-clause-cut g c = subst (λ (s : SlotState). CutsSettled c.cut.result s c.args.middle.now (slot_of g.H.Histories.held c.cut.new.self)) c.self.view_is c.cut.ensures.cut
