use Rattle.std.proofs.Common.{◌++◌, ◌∷◌}
use Rattle.core_run.proofs.HistoryLemmas.{leads_so, model_at, run_leads}
use Rattle.core_run.proofs.laws.a_run_serves_requests_in_turn.Goals as goal

pub returns-clause-history : goal.returns-clause-history
returns-clause-history c = λ s s' before after steps answers run. let led = run_leads steps answers s s' before after run in (led.0, led.1.history)

pub returns-clause-world : goal.returns-clause-world
returns-clause-world c = λ s s' before after steps answers us run is. (leads_so steps answers s s' before after us run is).world

pub returns-clause-reply : goal.returns-clause-reply
returns-clause-reply c = λ s s' before after steps answers front u rest r run is gives.
    model_at s.world front u rest r (leads_so steps answers s s' before after (front ++ u ∷ rest) run is).replies gives
