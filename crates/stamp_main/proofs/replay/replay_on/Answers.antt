use Rattle.std.proofs.Common.{subst}
use Rattle.std.specs.Arc.{arc_value}
use Rattle.access_rules.specs.declared.keys.Keys.{Keys}
use Rattle.core_run.specs.Cores.{StandsFor}
use Rattle.core_service.specs.Services.{opening_of}
use Rattle.stamp_main.proofs.ReplayLemmas.{unbegun_broken, unbegun_starved, written_broken, written_received}
use Rattle.stamp_main.proofs.replay.replay_on.Goals as goal

pub returns-in-Ok-clause-replayed : goal.returns-in-Ok-clause-replayed
returns-in-Ok-clause-replayed g c =
    let stands = subst (λ (k : Keys). StandsFor c.in-Ok.service (opening_of k)) c.deref.ensures c.in-Ok.ensures.stands in
    written_received (arc_value c.args.keys) c.args.moment c.args.connection.now c.replay_by.new.connection c.replay_by.new.service c.replay_by.result
    (c.replay_by.ensures.replayed (arc_value c.args.keys) stands)

pub returns-in-Ok-clause-starved : goal.returns-in-Ok-clause-starved
returns-in-Ok-clause-starved g c = λ e.
    let stands = subst (λ (k : Keys). StandsFor c.in-Ok.service (opening_of k)) c.deref.ensures c.in-Ok.ensures.stands in
    (c.replay_by.ensures.starved (arc_value c.args.keys) stands e).replays

pub returns-in-Ok-clause-broken : goal.returns-in-Ok-clause-broken
returns-in-Ok-clause-broken g c = λ e.
    let stands = subst (λ (k : Keys). StandsFor c.in-Ok.service (opening_of k)) c.deref.ensures c.in-Ok.ensures.stands in
    written_broken (arc_value c.args.keys) c.args.moment c.args.connection.now c.replay_by.new.connection c.replay_by.new.service
    (c.replay_by.ensures.broken (arc_value c.args.keys) stands e)

pub returns-clause-starved : goal.returns-clause-starved
returns-clause-starved g c = unbegun_starved (arc_value c.args.keys) c.args.moment c.args.connection.now c.finish.new.connection c.finish.result c.requires.fresh c.finish.ensures

pub returns-clause-broken : goal.returns-clause-broken
returns-clause-broken g c = unbegun_broken (arc_value c.args.keys) c.args.moment c.args.connection.now c.finish.new.connection c.finish.result c.requires.fresh c.finish.ensures
