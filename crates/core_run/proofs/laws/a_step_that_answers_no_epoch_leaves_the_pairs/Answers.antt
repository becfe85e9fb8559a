use Rattle.std.proofs.Common.{ap}
use Rattle.slot_state.specs.Pairs.{current_at}
use Rattle.core_run.proofs.PairsLeft.{no_epoch, others_left, pairs_left, rotate_if}
use Rattle.core_run.proofs.laws.a_step_that_answers_no_epoch_leaves_the_pairs.Goals as goal

pub returns-clause-step : goal.returns-clause-step
returns-clause-step c = λ s s' x faulted answer takes none. no_epoch x s s' faulted answer takes none

pub returns-clause-others : goal.returns-clause-others
returns-clause-others c = λ s s' account which key faulted answer other takes apart.
    others_left s s' account which key other apart (current_at s.pairs account) answer takes

pub returns-clause-run : goal.returns-clause-run
returns-clause-run c = λ s s' before after steps answers run none. pairs_left steps answers s s' before after run none

pub returns-clause-judged : goal.returns-clause-judged
returns-clause-judged c = λ s s' before after steps answers q t run none.
    ap (λ pairs. current_at pairs q.ask.key.account) (pairs_left steps answers s s' before after run none)

pub returns-clause-rotate : goal.returns-clause-rotate
returns-clause-rotate c = λ x. rotate_if x
