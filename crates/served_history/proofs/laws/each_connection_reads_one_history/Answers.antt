use Rattle.served_history.proofs.ConnectionLemmas.{replies_are_along, stops_with_one}
use Rattle.served_history.proofs.laws.each_connection_reads_one_history.Goals as goal

pub returns-clause-answered : goal.returns-clause-answered
returns-clause-answered g c = λ clock clock' seen seen' from to result input talk. replies_are_along seen talk.exchanges seen' talk.replies

pub returns-clause-starved : goal.returns-clause-starved
returns-clause-starved g c = λ clock clock' seen seen' from to last talk. (
  replies_are_along seen talk.exchanges talk.world_then talk.replies,
  stops_with_one _ talk.clock_then clock' talk.world_then seen' talk.rest talk.begun talk.stops,
)

pub returns-clause-broken : goal.returns-clause-broken
returns-clause-broken g c = λ clock clock' seen seen' from to talk. replies_are_along seen talk.exchanges seen' talk.replies
