use Rattle.std.proofs.Common.{rules, arith, ◌≡◌}
use Rattle.std.specs.Arc.{arc_value}
use Rattle.stamp_core.proofs.RotateLemmas.{one_more}
use Rattle.stamp_core.proofs.rotating.+bring_up.Goals as goal

pub returns-clause-caught_up : goal.returns-clause-caught_up
returns-clause-caught_up g t c =
    let same : arc_value c.in_ok-share.share ≡ arc_value c.args.pairs.now = search rules in
    one_more c.args.slots.now.items (arc_value c.args.pairs.now) c.bring_up.new.slots.items c.args.at c.in_ok-bring_up.ensures.caught_up (omega (arith, c.if-at-len.false, c.len.ensures)) c.index_mut.result.now _
    c.index_mut.ensures.value (arc_value c.in_ok-share.share) c.catch_up.new.self same c.catch_up.ensures.pairs c.catch_up.ensures.replays
