use Rattle.served_slots.proofs.EnterLemmas.{lower_kept, upper_kept}
use Rattle.served_slots.proofs.SplitLemmas.{has_middle}
use Rattle.served_slots.proofs.entering.cut_and_enter.Goals as goal

pub enter_split-requires-clause-own : goal.enter_split-requires-clause-own
enter_split-requires-clause-own g c = has_middle c.args.own.now c.args.to.now c.args.slot.now c.requires.left c.args.middle.now c.requires.inside

pub returns-clause-left : goal.returns-clause-left
returns-clause-left g c =
    lower_kept c.args.own.now c.enter_split.new.own c.in-Some.upper c.args.to.now c.args.slot.now c.args.middle.now c.requires.left c.requires.inside c.in-Some.ensures
    c.args.end c.replace.new.self c.cut_steadily.new.slot c.requires.end c.replace.ensures.after c.in-Ok.ensures.lower

pub returns-clause-upper : goal.returns-clause-upper
returns-clause-upper g c =
    upper_kept c.args.own.now c.enter_split.new.own c.in-Some.upper c.args.to.now c.args.slot.now c.args.middle.now c.requires.left c.requires.inside c.in-Some.ensures
    c.replace.result c.in-Ok.above c.replace.ensures.value c.in-Ok.ensures.upper
