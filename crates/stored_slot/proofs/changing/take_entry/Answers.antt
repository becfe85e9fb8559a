use Rattle.stored_slot.proofs.MeaningLemmas.{entered_by, untaken}
use Rattle.stored_slot.proofs.changing.take_entry.Goals as goal

pub returns-in-Ok-clause-entered : goal.returns-in-Ok-clause-entered
returns-in-Ok-clause-entered g c =
    let held = g.H.Histories.held in
    entered_by (held c.args.histories.now) (held c.push.new.self) (held c.take_or_take_back.new.histories) c.args.entry.now c.take_or_take_back.result (g.H.Histories.none_is_empty c.args.histories.now)
    c.in-Ok.ensures.pushed c.take_or_take_back.ensures.stays c.take_or_take_back.ensures.back

pub returns-in-Err-clause-taken : goal.returns-in-Err-clause-taken
returns-in-Err-clause-taken g c = untaken c.args.stored.now (c.args.change, c.args.entry.now.epoch) c.requires.sure
