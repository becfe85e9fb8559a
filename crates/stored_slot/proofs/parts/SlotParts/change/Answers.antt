use Rattle.std.proofs.Common.{◌∙◌, ap}
use Rattle.std.specs.Arc.{arc_value}
use Rattle.slot_state.specs.Slots.{SlotState}
use Rattle.stored_slot.specs.Changes.{slot_taken}
use Rattle.stored_slot.specs.Parts.{slot_of}
use Rattle.stored_slot.proofs.MeaningLemmas.{same_makes, take_covered}
use Rattle.stored_slot.proofs.SweepLemmas.{before_counted, before_taken, beside_kept, beside_settled, beside_slot, take_later}
use Rattle.stored_slot.proofs.parts.SlotParts.change.Goals as goal

pub make_way-requires-clause-covered : goal.make_way-requires-clause-covered
make_way-requires-clause-covered g c =
    let p = c.args.self.now in
    take_covered (arc_value p.pairs) (g.H.Histories.held p.histories) p.stored c.args.entry c.args.made.change c.requires.makes

pub enter_change-requires-clause-before : goal.enter_change-requires-clause-before
enter_change-requires-clause-before g c = beside_settled g.H.Histories.held c.args.self.now c.make_way.new.stored c.requires.before c.make_way.ensures.beside

pub enter_change-requires-clause-makes : goal.enter_change-requires-clause-makes
enter_change-requires-clause-makes g c =
    let p = c.args.self.now in
    same_makes (arc_value p.pairs) (g.H.Histories.held p.histories) p.stored c.make_way.new.stored c.args.entry c.args.made.change c.requires.makes c.make_way.ensures.beside.kept.range

pub returns-in-Ok-clause-taken : goal.returns-in-Ok-clause-taken
returns-in-Ok-clause-taken g c =
    let held = g.H.Histories.held in
    c.enter_change.ensures.taken
    ∙ ap (λ (s : SlotState). slot_taken c.enter_change.result s c.args.entry) (beside_slot held c.args.self.now c.make_way.new.stored c.requires.before c.make_way.ensures.beside)

pub returns-in-Ok-clause-counted : goal.returns-in-Ok-clause-counted
returns-in-Ok-clause-counted g c = take_later c.enter_change.result _ _ _ c.in-Ok.ensures.counted c.enter_change.ensures.counted

pub returns-in-Err-clause-after : goal.returns-in-Err-clause-after
returns-in-Err-clause-after g c = beside_kept g.H.Histories.held c.args.self.now c.make_way.new.stored c.requires.before c.make_way.ensures.beside

pub returns-in-Err-clause-taken : goal.returns-in-Err-clause-taken
returns-in-Err-clause-taken g c =
    let held = g.H.Histories.held in
    before_taken c.in-Err.fault c.fault_before.result (slot_of held c.args.self.now) _ c.args.entry c.fault_before.ensures c.requires.before.none
    (beside_slot held c.args.self.now c.make_way.new.stored c.requires.before c.make_way.ensures.beside)

pub returns-in-Err-clause-counted : goal.returns-in-Err-clause-counted
returns-in-Err-clause-counted g c = before_counted c.in-Err.fault c.fault_before.result _ _ c.fault_before.ensures c.in-Err.ensures.counted
