use Rattle.container_acl.proofs.PolicyLemmas.{policy_found, policy_absent}
use Rattle.container_acl.proofs.laws.a_policy_is_found_by_its_id.Goals as goal

pub returns-clause-found : goal.returns-clause-found
returns-clause-found c = λ acl id p e. policy_found id acl.policies p e

pub returns-clause-absent : goal.returns-clause-absent
returns-clause-absent c = λ acl id e. policy_absent id acl.policies e
