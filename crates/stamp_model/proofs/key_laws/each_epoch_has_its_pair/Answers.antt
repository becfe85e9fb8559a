use Rattle.stamp_model.proofs.KeyPairLemmas.{pair_of-place, pair_of-last, HaveTheirPairs-numbered}
use Rattle.stamp_model.proofs.key_laws.each_epoch_has_its_pair.Goals as goal

pub returns-clause-place : goal.returns-clause-place
returns-clause-place c = λ pairs epoch numbered. pair_of-place pairs epoch numbered

pub returns-clause-last : goal.returns-clause-last
returns-clause-last c = λ pairs last numbered. pair_of-last pairs last numbered

pub returns-clause-each : goal.returns-clause-each
returns-clause-each c = λ pairs last history numbered none. HaveTheirPairs-numbered pairs last numbered history none
