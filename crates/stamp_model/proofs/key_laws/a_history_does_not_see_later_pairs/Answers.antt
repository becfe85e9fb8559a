use Rattle.stamp_model.proofs.KeyPairLemmas.{pair_of-more, replay_from-more, IsAccepted-more, IsAccepted-fewer, IsLegalFrom-more, IsLegalFrom-fewer}
use Rattle.stamp_model.proofs.key_laws.a_history_does_not_see_later_pairs.Goals as goal

pub returns-clause-pair : goal.returns-clause-pair
returns-clause-pair c = λ pairs more epoch some. pair_of-more pairs more epoch some

pub returns-clause-replay : goal.returns-clause-replay
returns-clause-replay c = λ pairs more start history have. replay_from-more pairs more start history have

pub returns-clause-accepted : goal.returns-clause-accepted
returns-clause-accepted c = λ pairs more key p e some. (IsAccepted-fewer pairs more key p e some, IsAccepted-more pairs more key p e some)

pub returns-clause-legal : goal.returns-clause-legal
returns-clause-legal c = λ pairs more key start history have.
    (IsLegalFrom-fewer pairs more key start history have, IsLegalFrom-more pairs more key start history have)
