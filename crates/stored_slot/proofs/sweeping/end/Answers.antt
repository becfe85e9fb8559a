use Rattle.stored_slot.proofs.SweepLemmas.{swept_beside}
use Rattle.stored_slot.proofs.sweeping.end.Goals as goal

pub returns-in-Some : goal.returns-in-Some
returns-in-Some c = record { beside = swept_beside c.args.stored.now c.sweep_end.new.self c.sweep_end.ensures.kept c.sweep_end.ensures.doubt }

pub returns-in-None : goal.returns-in-None
returns-in-None c = record { beside = swept_beside c.args.stored.now c.sweep_end.new.self c.sweep_end.ensures.kept c.sweep_end.ensures.doubt }
