use Rattle.stamp_model.proofs.PolicyLemmas.{access-last}
use Rattle.stamp_model.proofs.policy_laws.a_policy_is_as_it_was_set_last.Goals as goal

pub returns : goal.returns
returns c = λ pairs key front rest e legal alters none. access-last pairs key front rest e legal alters none
