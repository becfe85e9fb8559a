use Rattle.std.specs.Arc.{arc_value}
use Rattle.stored_slot.proofs.ServeLemmas.{take_grows, taken_served}
use Rattle.stored_slot.proofs.parts.SlotParts.answer_change.Goals as goal

pub returns-clause-served : goal.returns-clause-served
returns-clause-served g c =
    let p = c.args.self.now in
    taken_served (arc_value p.pairs) (g.H.Histories.held p.histories) p.stored p.doubt c.args.ready.entry c.args.made.change _ _ c.requires.before.none c.requires.before.replays c.requires.makes c.requires.entry c.args.frame
    c.taken_answer.result _ c.change-taken.result c.requires.reply c.change-taken.ensures.taken c.change-taken.ensures.counted c.taken_answer.ensures

pub returns-clause-grown : goal.returns-clause-grown
returns-clause-grown g c = take_grows c.change-taken.result _ _ c.change-taken.ensures.counted
