use Rattle.stamp_model.proofs.PublicLemmas.{effect-public}
use Rattle.stamp_model.proofs.laws.nobody_writes_without_a_credential.Goals as goal

pub returns : goal.returns
returns c = λ keys w q t anonymous. effect-public keys w q t anonymous
