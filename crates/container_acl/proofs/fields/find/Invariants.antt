use Rattle.std.proofs.Common.{◌≡◌, drop}
use Rattle.std.specs.Prelude.{find}
use Rattle.container_acl.specs.JoinedFields.{has_same_id}
use Rattle.container_acl.proofs.fields.find.Given as goal

abbrev pub invariant-loop-policy : goal.invariant-loop-policy
invariant-loop-policy l = find (has_same_id l.id) (drop l.policy-index l.policy-items) ≡ find (has_same_id l.id) l.acl.policies
