use Rattle.served_slots.proofs.SteadyLemmas.{failed, settled_is}
use Rattle.served_slots.proofs.steadily.sweep_steadily.Goals as goal

pub returns-in-Ok : goal.returns-in-Ok
returns-in-Ok c = settled_is c.args.slot.now c.sweep.new.self c.requires c.in-Ok.ensures.left

pub returns-in-Err : goal.returns-in-Err
returns-in-Err c = failed c.args.slot.now c.sweep.new.self c.requires c.in-Err.ensures.left
