use Rattle.std.proofs.Common.{◌≡◌, subst, sym, true}
use Rattle.stamp_model.specs.SeenContainers.{routed}
use Rattle.slot_state.specs.Slots.{SlotState, covers}
use Rattle.stored_slot.specs.Parts.{slot_of}
use Rattle.stored_slot.proofs.ViewLemmas.{audits_seen}
use Rattle.stored_slot.proofs.stored_slot.StoredSlot.serve_audited.Goals as goal

pub audit-requires-clause-covered : goal.audit-requires-clause-covered
audit-requires-clause-covered g c = subst (λ (s : SlotState). covers s (routed c.args.request.now) ≡ true) (sym c.self.view_is) c.requires.covered

pub returns-clause-served : goal.returns-clause-served
returns-clause-served g c =
    let held = g.H.Histories.held in
    audits_seen (slot_of held c.self.inside.parts) _ c.args.request.now c.args.moment _ c.audit.result.answer c.audit.result.entry (slot_of held c.audit.new.self) c.self.view_is c.audit.ensures.served
