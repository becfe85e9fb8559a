use Rattle.access_rules.proofs.SignatureLemmas.{signed_is}
use Rattle.access_rules.proofs.signatures.a_true_signature_is_the_routes_own.Goals as goal

pub returns : goal.returns
returns c = λ pair q. signed_is pair q
