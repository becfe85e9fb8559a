use Rattle.stamp_model.proofs.PublicLemmas.{given-publicly, reply-absent_as_closed, rule-closed, status-absent}
use Rattle.stamp_model.proofs.laws.public_access_is_what_the_container_gives.Goals as goal

pub returns-clause-given : goal.returns-clause-given
returns-clause-given c = λ keys w q t bound anonymous none. given-publicly keys w q t bound anonymous none

pub returns-clause-same : goal.returns-clause-same
returns-clause-same c = λ keys w v q t bound s anonymous none exists closed. reply-absent_as_closed keys w v q t bound s anonymous none exists closed

pub returns-clause-status : goal.returns-clause-status
returns-clause-status c = λ keys w q t bound anonymous none. status-absent keys w q t bound anonymous none

pub returns-clause-closed : goal.returns-clause-closed
returns-clause-closed c = λ keys w q t bound s anonymous exists closed. rule-closed keys w q t bound s anonymous exists closed
