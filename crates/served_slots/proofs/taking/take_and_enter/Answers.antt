use Rattle.std.specs.Arc.{arc_value}
use Rattle.served_slots.proofs.RotateLemmas.{left_rotated, may_rotate, may_take, told_then}
use Rattle.served_slots.proofs.taking.take_and_enter.Goals as goal

pub rotate-requires-clause-own : goal.rotate-requires-clause-own
rotate-requires-clause-own g c =
    may_rotate c.args.own.now c.args.to.now c.args.slot.now c.requires.left c.args.change.now.account.now c.args.change.now.which c.args.change.now.key.now c.args.longer.epoch (arc_value c.args.longer.pairs) c.requires.next

pub catch_up-requires : goal.catch_up-requires
catch_up-requires g c = may_take c.args.slot.now.pairs c.args.change.now.account.now c.args.change.now.which c.args.change.now.key.now c.args.longer.epoch (arc_value c.args.longer.pairs) c.requires.next

pub returns-clause-left : goal.returns-clause-left
returns-clause-left g c =
    left_rotated c.args.own.now c.args.to.now c.args.slot.now c.requires.left c.args.change.now.account.now c.args.change.now.which c.args.change.now.key.now c.args.longer.epoch (arc_value c.args.longer.pairs) c.requires.next
    c.args.known.now c.rotate.new.known c.if-not-rotate.ensures.entered c.catch_up.new.self c.rotate.new.self c.catch_up.ensures.pairs c.catch_up.ensures.replays c.if-not-rotate.ensures.slot

pub returns-clause-told : goal.returns-clause-told
returns-clause-told g c =
    told_then c.args.own.now c.args.to.now c.args.slot.now c.requires.left c.args.change.now.account.now c.args.change.now.which c.args.change.now.key.now c.args.longer.epoch (arc_value c.args.longer.pairs) c.requires.next
    c.args.known.now c.rotate.new.known c.if-not-rotate.ensures.entered

pub returns-clause-made : goal.returns-clause-made
returns-clause-made g c = record { log = c.if-not-rotate.ensures.slot; made = c.if-not-rotate.ensures.made }
