use Rattle.std.proofs.Common.{◌≡◌, true, sym, ap, ◌∙◌, subst}
use Rattle.stamp_model.specs.SeenContainers.{routed}
use Rattle.slot_state.specs.Slots.{covers}
use Rattle.served_history.specs.Growth.{SlotFront}
use Rattle.served_slots.specs.Slots.{IsLeftBy}
use Rattle.served_slots.proofs.ServeLemmas.{audits_there, left_after, may_enter_after, slot_serves}
use Rattle.served_slots.proofs.entering.serve_and_enter.Goals as goal

pub enter-requires-clause-own : goal.enter-requires-clause-own
enter-requires-clause-own g c =
    let covered : covers c.args.slot.now (routed c.args.ready.now.request.now) ≡ true = ap (covers c.args.slot.now) (sym c.requires.first) ∙ sym c.if-not-covers.ensures in
    may_enter_after c.args.own.now c.args.to.now c.args.slot.now c.requires.left c.args.ready.now.request.now c.args.ready.now.moment covered c.in-Ok.told.replied c.tell_steadily.new.slot c.in-Ok.ensures.served

pub returns-clause-served : goal.returns-clause-served
returns-clause-served g c =
    let covered : covers c.args.slot.now (routed c.args.ready.now.request.now) ≡ true = ap (covers c.args.slot.now) (sym c.requires.first) ∙ sym c.if-not-covers.ensures in
    slot_serves c.args.own.now c.args.to.now c.args.slot.now c.requires.left c.args.ready.now.request.now c.args.ready.now.moment covered c.in-Ok.told.replied c.tell_steadily.new.slot c.in-Ok.ensures.served
    c.args.known.now c.enter.new.known c.if-not-enter.ensures.entered c.ask-ask.ensures.fits.ask

pub returns-clause-left : goal.returns-clause-left
returns-clause-left g c =
    let covered : covers c.args.slot.now (routed c.args.ready.now.request.now) ≡ true = ap (covers c.args.slot.now) (sym c.requires.first) ∙ sym c.if-not-covers.ensures in
    subst (λ (own : SlotFront). IsLeftBy own c.args.to.now c.tell_steadily.new.slot) (sym c.if-not-enter.ensures.slot)
    (left_after c.args.own.now c.args.to.now c.args.slot.now c.requires.left c.args.ready.now.request.now c.args.ready.now.moment covered c.in-Ok.told.replied c.tell_steadily.new.slot c.in-Ok.ensures.served
    c.args.known.now c.enter.new.known c.if-not-enter.ensures.entered)

pub returns-clause-made : goal.returns-clause-made
returns-clause-made g c = record { log = c.if-not-enter.ensures.slot; made = c.if-not-enter.ensures.made }

pub returns-clause-audited : goal.returns-clause-audited
returns-clause-audited g c =
    let covered : covers c.args.slot.now (routed c.args.ready.now.request.now) ≡ true = ap (covers c.args.slot.now) (sym c.requires.first) ∙ sym c.if-not-covers.ensures in
    audits_there c.args.own.now c.args.to.now c.args.slot.now c.requires.left c.args.ready.now.request.now c.args.ready.now.moment covered c.in-Ok.told.replied c.tell_steadily.new.slot c.in-Ok.ensures.served
    c.args.known.now c.enter.new.known c.if-not-enter.ensures.entered c.in-Ok.told.entry c.in-Ok.ensures.audited
