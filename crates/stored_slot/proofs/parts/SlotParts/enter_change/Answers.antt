use Rattle.std.specs.Arc.{arc_value}
use Rattle.stored_slot.proofs.MeaningLemmas.{slot_tried, take_covered, take_fits, take_held, take_plain, tried_kept}
use Rattle.stored_slot.proofs.parts.SlotParts.enter_change.Goals as goal

pub take_entry-taken-requires-clause-covered : goal.take_entry-taken-requires-clause-covered
take_entry-taken-requires-clause-covered g c =
    let p = c.args.self.now in
    take_covered (arc_value p.pairs) (g.H.Histories.held p.histories) p.stored c.args.entry c.args.change c.requires.makes

pub take_entry-taken-requires-clause-plain : goal.take_entry-taken-requires-clause-plain
take_entry-taken-requires-clause-plain g c =
    let p = c.args.self.now in
    take_plain (arc_value p.pairs) (g.H.Histories.held p.histories) p.stored c.args.entry c.args.change c.requires.makes

pub take_entry-taken-requires-clause-held : goal.take_entry-taken-requires-clause-held
take_entry-taken-requires-clause-held g c =
    let p = c.args.self.now in
    take_held (arc_value p.pairs) (g.H.Histories.held p.histories) p.stored c.args.entry c.args.change c.requires.makes

pub take_entry-taken-requires-clause-fits : goal.take_entry-taken-requires-clause-fits
take_entry-taken-requires-clause-fits g c =
    let p = c.args.self.now in
    take_fits (arc_value p.pairs) (g.H.Histories.held p.histories) p.stored c.args.entry c.args.change c.requires.makes c.requires.before.replays c.kept.ensures.sizes

pub returns-clause-after : goal.returns-clause-after
returns-clause-after g c =
    let held = g.H.Histories.held in
    let p = c.args.self.now in
    tried_kept (arc_value p.pairs) (held p.histories) p.stored c.args.entry c.args.change c.requires.makes c.take_entry-taken.new.stored (held c.take_entry-taken.new.histories) c.keep_doubt.new.doubt c.take_entry-taken.result
    c.requires.before.replays c.take_entry-taken.ensures.taken c.take_entry-taken.ensures.entered c.keep_doubt.ensures

pub returns-clause-taken : goal.returns-clause-taken
returns-clause-taken g c =
    let held = g.H.Histories.held in
    let p = c.args.self.now in
    slot_tried (arc_value p.pairs) (held p.histories) p.stored c.args.entry c.args.change c.requires.makes c.take_entry-taken.new.stored (held c.take_entry-taken.new.histories) c.keep_doubt.new.doubt c.take_entry-taken.result
    c.take_entry-taken.ensures.taken c.take_entry-taken.ensures.entered c.keep_doubt.ensures
