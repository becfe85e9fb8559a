use Rattle.core_run.proofs.EndLemmas.{serve_ends, settle_ends}
use Rattle.core_run.proofs.laws.a_doubt_ends_at_the_next_step_without_a_fault.Goals as goal

pub returns-clause-serve : goal.returns-clause-serve
returns-clause-serve c = λ s s' q t answer takes. serve_ends s s' q t answer takes

pub returns-clause-settle : goal.returns-clause-settle
returns-clause-settle c = λ s s' i answer there takes. settle_ends s s' i answer there takes
