use Rattle.core_run.proofs.OwnTurnLemmas.{adds_own, after_busy, after_unknown}
use Rattle.core_run.proofs.laws.a_step_adds_its_own_turn_alone.Goals as goal

pub returns-clause-turn : goal.returns-clause-turn
returns-clause-turn c = λ s s' x faulted answer takes. adds_own x s s' faulted answer takes

pub returns-clause-busy : goal.returns-clause-busy
returns-clause-busy c = λ s s' q t faulted o takes n1. after_busy s s' q t faulted o takes n1

pub returns-clause-unknown : goal.returns-clause-unknown
returns-clause-unknown c = λ s s' q t faulted o sound takes n2. after_unknown s s' q t faulted o sound takes n2
