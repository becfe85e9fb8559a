use Rattle.stored_slot.proofs.MeaningLemmas.{followed, unsettled}
use Rattle.stored_slot.proofs.settling.settle_entry.Goals as goal

pub returns-in-Ok-clause-entries : goal.returns-in-Ok-clause-entries
returns-in-Ok-clause-entries g c =
    let held = g.H.Histories.held in
    followed (held c.args.histories.now) (held c.push.new.self) (held c.settle_or_take_back.new.histories) c.args.entry.now c.settle_or_take_back.result (g.H.Histories.none_is_empty c.args.histories.now)
    c.in-Ok.ensures.pushed c.settle_or_take_back.ensures.left

pub returns-in-Err-clause-settled : goal.returns-in-Err-clause-settled
returns-in-Err-clause-settled g c = unsettled c.args.stored.now c.requires.doubt
