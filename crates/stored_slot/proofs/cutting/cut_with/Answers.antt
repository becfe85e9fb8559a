use Rattle.std.specs.Arc.{arc_value}
use Rattle.stored_slot.proofs.HalfLemmas.{lower_kept, lower_slot, upper_kept, upper_slot}
use Rattle.stored_slot.proofs.MeaningLemmas.{sealed_kept, slot_same}
use Rattle.stored_slot.proofs.cutting.cut_with.Goals as goal

pub invariant_of-result : goal.invariant_of-result
invariant_of-result g c =
    let held = g.H.Histories.held in
    upper_kept (arc_value c.args.halves.pairs) (held c.args.histories.now) (held c.args.halves.above) c.args.stored.now c.in-Ok.upper c.args.middle.now c.requires.covered c.requires.before c.in-Ok.ensures.upper c.requires.above

pub returns-in-Ok-clause-after : goal.returns-in-Ok-clause-after
returns-in-Ok-clause-after g c =
    let held = g.H.Histories.held in
    lower_kept (arc_value c.args.halves.pairs) (held c.args.histories.now) (held c.args.halves.below) c.args.stored.now c.cut.new.self c.args.middle.now c.requires.covered c.requires.before c.in-Ok.ensures.lower c.requires.below

pub returns-in-Ok-clause-cut : goal.returns-in-Ok-clause-cut
returns-in-Ok-clause-cut g c =
    let held = g.H.Histories.held in (
      lower_slot (arc_value c.args.halves.pairs) (held c.args.histories.now) (held c.args.halves.below) c.args.stored.now c.cut.new.self c.args.middle.now c.in-Ok.ensures.lower c.requires.below,
      upper_slot (arc_value c.args.halves.pairs) (held c.args.histories.now) (held c.args.halves.above) c.args.stored.now c.in-Ok.upper c.args.middle.now c.in-Ok.ensures.upper c.requires.above,
    )

pub returns-in-Err-clause-after : goal.returns-in-Err-clause-after
returns-in-Err-clause-after g c =
    let held = g.H.Histories.held in
    sealed_kept (arc_value c.args.halves.pairs) (held c.args.histories.now) c.args.stored.now c.cut.new.self c.requires.before c.in-Err.ensures.refused.0 c.in-Err.ensures.refused.1

pub returns-in-Err-clause-cut : goal.returns-in-Err-clause-cut
returns-in-Err-clause-cut g c =
    let held = g.H.Histories.held in
    slot_same (arc_value c.args.halves.pairs) (held c.args.histories.now) c.args.stored.now c.cut.new.self _ c.in-Err.ensures.refused.0.range
