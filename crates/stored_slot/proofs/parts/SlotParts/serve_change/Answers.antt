use Rattle.std.proofs.Common.{◌≡◌, ◌∙◌, ap, refl, subst, sym}
use Rattle.std.specs.Arc.{arc_value}
use Rattle.stamp_types.specs.declared.past.Past.{Past}
use Rattle.slot_state.specs.Pairs.{Pairs}
use Rattle.slot_state.specs.Slots.{entry_of}
use Rattle.stored_slot.specs.Parts.{IsReplyOf, MakesChangeOf}
use Rattle.stored_slot.proofs.ServeLemmas.{kept_parts}
use Rattle.stored_slot.proofs.ViewLemmas.{entry_told}
use Rattle.stored_slot.proofs.parts.SlotParts.serve_change.Goals as goal

pub answer_change-requires-clause-before : goal.answer_change-requires-clause-before
answer_change-requires-clause-before g c = record { replays = c.requires.before.replays; sure = c.requires.before.sure; none = c.requires.before.none }

pub answer_change-requires-clause-makes : goal.answer_change-requires-clause-makes
answer_change-requires-clause-makes g c =
    let made = c.in-Ok.ensures ∙ ap (λ (p : Pairs). entry_of p c.args.request.now c.args.moment) c.deref.ensures in
    subst (λ (e : Past). MakesChangeOf g.H.Histories.held c.args.self.now e c.args.made.change) (sym made) c.requires.makes

pub answer_change-requires-clause-entry : goal.answer_change-requires-clause-entry
answer_change-requires-clause-entry g c =
    let made = c.in-Ok.ensures ∙ ap (λ (p : Pairs). entry_of p c.args.request.now c.args.moment) c.deref.ensures in
    subst (λ (e : Past). e ≡ entry_of (arc_value c.args.self.now.pairs) e.request e.moment) (sym made) refl

pub answer_change-requires-clause-reply : goal.answer_change-requires-clause-reply
answer_change-requires-clause-reply g c =
    let made = c.in-Ok.ensures ∙ ap (λ (p : Pairs). entry_of p c.args.request.now c.args.moment) c.deref.ensures in
    subst (λ (e : Past). IsReplyOf g.H.Histories.held c.args.self.now e.request e.moment c.args.frame) (sym made) c.requires.reply

pub returns-in-Ok-clause-served : goal.returns-in-Ok-clause-served
returns-in-Ok-clause-served g c =
    let made = c.in-Ok.ensures ∙ ap (λ (p : Pairs). entry_of p c.args.request.now c.args.moment) c.deref.ensures in
    entry_told _ _ c.in-Ok.ready.entry (entry_of (arc_value c.args.self.now.pairs) c.args.request.now c.args.moment) _ c.answer_change.result made c.answer_change.ensures.served

pub returns-in-Err-clause-after : goal.returns-in-Err-clause-after
returns-in-Err-clause-after g c = kept_parts g.H.Histories.held c.args.self.now c.requires.before

pub returns-in-Err-clause-served : goal.returns-in-Err-clause-served
returns-in-Err-clause-served g c = (refl, tt)
