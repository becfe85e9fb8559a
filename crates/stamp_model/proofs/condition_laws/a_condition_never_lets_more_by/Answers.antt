use Rattle.std.proofs.Common.{None}
use Rattle.stamp_model.proofs.ConditionLemmas.{effect-free, effect-met, reply-free, reply-met}
use Rattle.stamp_model.proofs.condition_laws.a_condition_never_lets_more_by.Goals as goal

pub returns-clause-reply : goal.returns-clause-reply
returns-clause-reply c = λ keys w q t bound none. reply-free q keys w t bound none

pub returns-clause-effect : goal.returns-clause-effect
returns-clause-effect c = λ keys w q t bound none. effect-free q keys w t bound none

pub returns-clause-met_reply : goal.returns-clause-met_reply
returns-clause-met_reply c = λ keys w q t bound met. reply-met q keys w t bound met

pub returns-clause-met_effect : goal.returns-clause-met_effect
returns-clause-met_effect c = λ keys w q t met. effect-met q keys w t None met
