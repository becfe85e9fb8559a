use Rattle.extent_seal.proofs.HeardLemmas.{not_heard}
use Rattle.extent_seal.proofs.laws.asks_in_vain_are_not_heard.Goals as goal

pub returns : goal.returns
returns c = λ old new failed_old failed_new counts asked failed heard. not_heard old new failed_old failed_new counts asked failed heard
