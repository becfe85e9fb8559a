use Rattle.stored_slot.specs.Parts.{slot_of}
use Rattle.stored_slot.proofs.AuditLemmas.{audits_by, seen_allowed}
use Rattle.stored_slot.proofs.parts.SlotParts.audit_loaded.Goals as goal

pub entry_if-entry-requires-clause-allowed : goal.entry_if-entry-requires-clause-allowed
entry_if-entry-requires-clause-allowed g c =
    let held = g.H.Histories.held in
    seen_allowed (slot_of held c.args.self.now) c.args.request.now c.args.moment _ (slot_of held c.serve_loaded-answer.new.self) c.requires.before.none c.serve_loaded-answer.result c.see-seen.result c.is_let_in-let_in.result c.has_doubt.result
    c.serve_loaded-answer.ensures.served c.has_doubt.ensures c.is_let_in-let_in.ensures c.see-seen.ensures.names c.see-seen.ensures.value

pub returns-clause-served : goal.returns-clause-served
returns-clause-served g c =
    let held = g.H.Histories.held in
    audits_by (slot_of held c.args.self.now) c.args.request.now c.args.moment _ c.serve_loaded-answer.result (slot_of held c.serve_loaded-answer.new.self) c.see-seen.result c.entry_if-entry.result c.is_let_in-let_in.result c.has_doubt.result
    c.requires.before.none c.serve_loaded-answer.ensures.served c.has_doubt.ensures c.is_let_in-let_in.ensures c.entry_if-entry.ensures c.see-seen.ensures.names c.see-seen.ensures.value
