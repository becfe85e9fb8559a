use Rattle.std.proofs.Common.{arith, subst, sym, true, ◌≡◌}
use Rattle.stamp_model.specs.SeenContainers.{routed}
use Rattle.slot_state.specs.Slots as slots_of
use Rattle.slot_state.specs.Slots.{SlotState}
use Rattle.stored_slot.specs.Served.{Faulted}
use Rattle.stamp_core.proofs.AuditLemmas.{audited_there, spans_audited}
use Rattle.stamp_core.proofs.RangeLemmas.{covered, low_slot}
use Rattle.stamp_core.proofs.ServeLemmas.{its_slot}
use Rattle.stamp_core.proofs.serving.serve_at.Goals as goal

pub index_mut-requires : goal.index_mut-requires
index_mut-requires g c = omega (arith, low_slot c.args.slots.now.items c.args.spans.now c.requires.before (routed c.args.call.now.request.now) c.args.at c.requires.slot)

pub audit_if-requires-clause-covered : goal.audit_if-requires-clause-covered
audit_if-requires-clause-covered g c =
    let low = low_slot c.args.slots.now.items c.args.spans.now c.requires.before (routed c.args.call.now.request.now) c.args.at c.requires.slot in
    subst (λ (h : SlotState). slots_of.covers h (routed c.args.call.now.request.now) ≡ true)
    (sym (its_slot c.args.slots.now.items c.args.spans.now c.requires.before c.args.call.now.request.now c.args.at c.requires.slot c.index_mut.result.now _ c.index_mut.ensures.value low))
    (covered c.args.slots.now.items c.args.spans.now c.requires.before (routed c.args.call.now.request.now))

pub returns-clause-after : goal.returns-clause-after
returns-clause-after g c =
    let low = low_slot c.args.slots.now.items c.args.spans.now c.requires.before (routed c.args.call.now.request.now) c.args.at c.requires.slot in
    spans_audited c.args.slots.now.items c.args.spans.now c.requires.before c.args.call.now.request.now c.args.at c.requires.slot c.index_mut.result.now _ c.index_mut.ensures.value low
    (Faulted (g.W.Wire.faults c.args.wire.now) (g.W.Wire.faults c.audit_if.new.wire)) c.args.call.now.moment c.audit_if.result.answer c.audit_if.result.entry c.audit_if.new.slot c.audit_if.ensures.served

pub returns-clause-audited : goal.returns-clause-audited
returns-clause-audited g c =
    let low = low_slot c.args.slots.now.items c.args.spans.now c.requires.before (routed c.args.call.now.request.now) c.args.at c.requires.slot in
    audited_there c.args.slots.now.items c.args.spans.now c.requires.before c.args.call.now.request.now c.args.at c.requires.slot c.index_mut.result.now _ c.index_mut.ensures.value low
    (Faulted (g.W.Wire.faults c.args.wire.now) (g.W.Wire.faults c.audit_if.new.wire)) c.args.call.now.moment c.audit_if.result.answer c.audit_if.result.entry c.audit_if.new.slot c.audit_if.ensures.served
