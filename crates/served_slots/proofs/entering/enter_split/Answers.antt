use Rattle.served_slots.proofs.EnterLemmas.{parted_if}
use Rattle.served_slots.proofs.entering.enter_split.Goals as goal

pub returns-in-Some : goal.returns-in-Some
returns-in-Some g c =
    parted_if c.args.own.now c.split.new.self c.args.middle.now c.in-Some.spare.number c.split.result c.split.ensures.lower c.split.ensures.upper c.split.ensures.slots
