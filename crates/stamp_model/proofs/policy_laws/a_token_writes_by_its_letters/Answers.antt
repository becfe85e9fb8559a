use Rattle.stamp_model.proofs.PolicyLemmas.{writes-token}
use Rattle.stamp_model.proofs.policy_laws.a_token_writes_by_its_letters.Goals as goal

pub returns : goal.returns
returns c = λ keys w q t asks changes. writes-token keys w q t asks changes
