use Rattle.stamp_model.proofs.CallerLemmas.{reply-blind, reply-closed, reply-level}
use Rattle.stamp_model.proofs.caller_laws.a_caller_without_a_valid_credential_learns_nothing.Goals as goal

pub returns-clause-same : goal.returns-clause-same
returns-clause-same c = λ keys w v q t bound rule blind told. reply-blind keys w v q t bound rule blind told

pub returns-clause-closed : goal.returns-clause-closed
returns-clause-closed c = λ keys w v q t bound told other. reply-closed keys w v q t bound told other

pub returns-clause-level : goal.returns-clause-level
returns-clause-level c = λ keys w v q t bound told same. reply-level keys w v q t bound told same
