use Rattle.stored_slot.proofs.KeepLemmas.{stored_later}
use Rattle.stored_slot.proofs.SweepLemmas.{begun_beside, beside_twice}
use Rattle.stored_slot.proofs.sweeping.step.Goals as goal

pub returns-in-Ok-clause-beside : goal.returns-in-Ok-clause-beside
returns-in-Ok-clause-beside g c =
    let e = c.sweep_begin.ensures in
    beside_twice c.args.stored.now c.sweep_begin.new.self c.go_on.new.stored (begun_beside c.args.stored.now c.sweep_begin.new.self e.same e.limits e.doubt) c.go_on.ensures.beside

pub returns-in-Ok-clause-counted : goal.returns-in-Ok-clause-counted
returns-in-Ok-clause-counted g c = stored_later c.go_on.result _ _ _ c.in-Ok.ensures.counted c.go_on.ensures.counted

pub returns-in-Err-clause-beside : goal.returns-in-Err-clause-beside
returns-in-Err-clause-beside g c =
    let e = c.sweep_begin.ensures in
    begun_beside c.args.stored.now c.sweep_begin.new.self e.same e.limits e.doubt
