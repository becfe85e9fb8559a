use Rattle.std.proofs.Common.{◌≡◌, subst, sym, true}
use Rattle.stamp_model.specs.SeenContainers.{routed}
use Rattle.slot_state.specs.Slots.{SlotState, covers}
use Rattle.stored_slot.specs.Parts.{slot_of}
use Rattle.stored_slot.proofs.ViewLemmas.{serves_seen}
use Rattle.stored_slot.proofs.stored_slot.StoredSlot.serve_read.Goals as goal

pub serve-requires-clause-covered : goal.serve-requires-clause-covered
serve-requires-clause-covered g c = subst (λ (s : SlotState). covers s (routed c.args.request.now) ≡ true) (sym c.self.view_is) c.requires.covered

pub returns-clause-served : goal.returns-clause-served
returns-clause-served g c =
    let held = g.H.Histories.held in
    serves_seen (slot_of held c.self.inside.parts) _ c.args.request.now c.args.moment _ c.serve.result (slot_of held c.serve.new.self) c.self.view_is c.serve.ensures.served
