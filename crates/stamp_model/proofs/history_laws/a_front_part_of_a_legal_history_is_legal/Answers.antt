use Rattle.stamp_model.proofs.HistoryLemmas.{IsLegalFrom-nil, IsLegalFrom-front}
use Rattle.stamp_model.proofs.history_laws.a_front_part_of_a_legal_history_is_legal.Goals as goal

pub returns-clause-none : goal.returns-clause-none
returns-clause-none c = λ pairs key start. IsLegalFrom-nil pairs key start

pub returns-clause-front : goal.returns-clause-front
returns-clause-front c = λ pairs key start history more legal. IsLegalFrom-front pairs key start history more legal
