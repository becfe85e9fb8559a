use Rattle.stamp_model.proofs.HistoryLemmas.{part_at-replayed, part_at-accepted, IsLegalFrom-append}
use Rattle.stamp_model.proofs.history_laws.an_accepted_request_continues_a_legal_history.Goals as goal

pub returns-clause-legal : goal.returns-clause-legal
returns-clause-legal c = λ pairs key start history e legal none new. IsLegalFrom-append pairs key start history e legal none new

pub returns-clause-replay : goal.returns-clause-replay
returns-clause-replay c = λ pairs w start history e same. part_at-replayed pairs w start history e same

pub returns-clause-own : goal.returns-clause-own
returns-clause-own c = λ pairs key w start history e new same. part_at-accepted pairs key w start history e new same
