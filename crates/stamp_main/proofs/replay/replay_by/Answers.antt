use Rattle.std.proofs.Common.{rules}
use Rattle.stamp_main.proofs.ReplayLemmas.{broken_by, replayed_by, starved_by, whole_by}
use Rattle.stamp_main.proofs.replay.replay_by.Goals as goal

pub returns-clause-replayed : goal.returns-clause-replayed
returns-clause-replayed g c = replayed_by c.args.moment _ _ _ _ c.args.connection.now c.run.new.connection c.run.result (search rules) c.run.ensures.conversed

pub returns-clause-whole : goal.returns-clause-whole
returns-clause-whole g c = whole_by c.args.moment _ _ _ _ c.args.connection.now c.run.new.connection c.run.result (search rules) c.run.ensures.whole

pub returns-clause-starved : goal.returns-clause-starved
returns-clause-starved g c = starved_by c.args.moment _ _ _ _ c.args.connection.now c.run.new.connection c.run.result (search rules) c.run.ensures.starved

pub returns-clause-broken : goal.returns-clause-broken
returns-clause-broken g c = broken_by c.args.moment _ _ _ _ c.args.connection.now c.run.new.connection c.run.result (search rules) c.run.ensures.broken
