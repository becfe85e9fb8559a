use Rattle.served_slots.proofs.SteadyLemmas.{cut_steadily, failed}
use Rattle.served_slots.proofs.steadily.cut_steadily.Goals as goal

pub returns-in-Ok-clause-lower : goal.returns-in-Ok-clause-lower
returns-in-Ok-clause-lower c = (cut_steadily c.in-Ok.upper c.args.slot.now c.split.new.self c.args.middle.now c.requires.sure c.in-Ok.ensures.cut).0

pub returns-in-Ok-clause-upper : goal.returns-in-Ok-clause-upper
returns-in-Ok-clause-upper c = (cut_steadily c.in-Ok.upper c.args.slot.now c.split.new.self c.args.middle.now c.requires.sure c.in-Ok.ensures.cut).1

pub returns-in-Err-clause-same : goal.returns-in-Err-clause-same
returns-in-Err-clause-same c = failed c.args.slot.now c.split.new.self c.requires.sure c.in-Err.ensures.cut
