use Rattle.stamp_model.proofs.CountLemmas.{count-effect, etags-effect}
use Rattle.stamp_model.proofs.laws.counts_only_rise.Goals as goal

pub returns-clause-count : goal.returns-clause-count
returns-clause-count c = λ keys w q t k. count-effect keys w q t k

pub returns-clause-etags : goal.returns-clause-etags
returns-clause-etags c = λ keys w q t k within. etags-effect keys w q t k within
