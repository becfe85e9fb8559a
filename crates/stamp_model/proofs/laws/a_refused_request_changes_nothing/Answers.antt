use Rattle.stamp_model.proofs.ReplyLemmas.{rule-reply, effect-named}
use Rattle.stamp_model.proofs.laws.a_refused_request_changes_nothing.Goals as goal

pub returns-clause-named : goal.returns-clause-named
returns-clause-named c = λ keys w q t bound. rule-reply keys w q t bound

pub returns-clause-unchanged : goal.returns-clause-unchanged
returns-clause-unchanged c = λ keys w q t bound rule named. effect-named keys w q t bound rule named
