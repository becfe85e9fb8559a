use Rattle.std.proofs.Common.{List, ap, subst, sym}
use Rattle.std.specs.Arc.{arc_value}
use Rattle.slot_state.specs.Slots.{SlotState}
use Rattle.stamp_core.specs.Ranges.{HaveSpans}
use Rattle.stamp_core.proofs.RotateLemmas.{begin_pairs, spans_caught_up}
use Rattle.stamp_core.proofs.rotating.rotate.Goals as goal

pub bring_up-requires : goal.bring_up-requires
bring_up-requires g c =
    begin_pairs c.args.slots.now.items c.args.spans.now c.requires.before (arc_value c.in-Ok.longer.pairs) c.args.account.now c.args.which c.args.key c.in-Ok.longer.epoch c.in-Ok.ensures.made

pub returns-in-Ok-bring_up-clause-after : goal.returns-in-Ok-bring_up-clause-after
returns-in-Ok-bring_up-clause-after g c =
    spans_caught_up c.args.slots.now.items c.args.spans.now c.requires.before (arc_value c.in-Ok.longer.pairs) c.bring_up.new.slots.items c.in-Ok-bring_up.ensures.caught_up

pub returns-in-Ok-bring_up-clause-rotated : goal.returns-in-Ok-bring_up-clause-rotated
returns-in-Ok-bring_up-clause-rotated g c = (arc_value c.in-Ok.longer.pairs, (c.in-Ok.ensures.made, c.in-Ok-bring_up.ensures.caught_up))

pub returns-in-Ok-clause-after : goal.returns-in-Ok-clause-after
returns-in-Ok-clause-after g c = subst (λ (hs : List SlotState). HaveSpans hs c.args.spans.now) (sym (ap (λ v. v.items) c.in-Err-bring_up.ensures.refused)) c.requires.before
