use Rattle.served_slots.proofs.RotateLemmas.{rotates_one_more}
use Rattle.served_slots.proofs.locked.rotating.enter_longer.Goals as goal

pub returns-in-Some-take_and_enter-clause-slots : goal.returns-in-Some-take_and_enter-clause-slots
returns-in-Some-take_and_enter-clause-slots g c = λ start before.
    rotates_one_more start c.args.known.now c.take_and_enter.new.known c.args.change.now.account.now c.args.change.now.which c.args.change.now.key.now c.in-Some-history.own.slot c.in-Some-history.own.log
    c.in-Some-take_and_enter.ensures.entered c.in-Some-take_and_enter.epoch c.in-Some-take_and_enter.ensures.told c.args.before.told before
