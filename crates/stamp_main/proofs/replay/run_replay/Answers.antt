use Rattle.std.proofs.Common.{rules, subst}
use Rattle.std.specs.Arc.{arc_value}
use Rattle.http_front.specs.Conversations.{LeavesRun}
use Rattle.stamp_main.specs.Replays.{AsksForReplay, replay_line}
use Rattle.stamp_main.proofs.RunLemmas.{ending_write}
use Rattle.stamp_main.proofs.replay.run_replay.Goals as goal

pub returns-in-Ok-clause-broken : goal.returns-in-Ok-clause-broken
returns-in-Ok-clause-broken g c = λ e.
    let is = ending_write c.replay_on.result c.status_of.result c.status_of.ensures e in
    let asks : AsksForReplay (replay_line c.args.moment.now c.args.account.now c.args.first.now c.args.second.now) c.in-Ok.asked.moment (arc_value c.in-Ok.asked.keys) = search rules in
    (c.in-Ok.asked.moment, arc_value c.in-Ok.asked.keys, asks, c.replay_on.ensures.broken is, subst (λ r. LeavesRun r c.replay_on.new.connection) is c.replay_on.ensures.left)
