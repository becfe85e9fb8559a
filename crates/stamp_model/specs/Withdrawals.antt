-- What a container says about who may do what, by the requests that say it (Blob service REST reference, 2012-02-12, "Create
-- Container", "Set Container ACL", "Delete Container"; Delegating Access with a Shared Access Signature: revoking access).
use Rattle.std.specs.Prelude.{Bool, true, false, not, List, [], ℕ, Option, Some, None, bytes_eq, is_some, find, unwrap_or}
use Rattle.stamp_values.specs.declared.acl.Acl.{Acl}
use Rattle.stamp_values.specs.declared.level.Level.TheVariants as level
use Rattle.stamp_values.specs.declared.op.Op.{Op}
use Rattle.stamp_values.specs.declared.op.Op.TheVariants as op
use Rattle.stamp_types.specs.declared.rule.Rule.{Rule}
use Rattle.stamp_types.specs.declared.rule.Rule.TheVariants as rule
use Rattle.stamp_types.specs.Requests.{Asked}
use Rattle.range_rows.specs.Readings.{sent_policies}

-- what a request of the operation gives as the level and the policies of its container: Create Container gives the level that it
-- asks for and no policies, Set Container ACL gives both, and after a Delete Container there are none
abbrev pub acl_given_by : Op → Asked → Option Acl
acl_given_by op.CreateContainer q = Some (record { level = unwrap_or q.ask.args.level level.Closed; policies = [] })
acl_given_by op.SetAcl q = Some (record { level = unwrap_or q.ask.args.level level.Closed; policies = sent_policies q })
acl_given_by other q = None

-- what the request gives as the level and the policies of its container
abbrev pub acl_given : Asked → Option Acl
acl_given q = acl_given_by q.ask.op q

-- the request sends a stored policy with this id
abbrev pub sends_policy : List ℕ → Asked → Bool
sends_policy id q = is_some (find (λ p. bytes_eq p.id id) (sent_policies q))

-- the request of the operation is a Set Container ACL with a policy of this id
abbrev pub gives_policy_by : Op → List ℕ → Asked → Bool
gives_policy_by op.SetAcl id q = sends_policy id q
gives_policy_by other id q = false

-- the request is a Set Container ACL with a policy of this id
abbrev pub gives_policy : List ℕ → Asked → Bool
gives_policy id q = gives_policy_by q.ask.op id q

-- the request of the operation takes a policy of this id away: it is a Delete Container, or a Set Container ACL without it
abbrev pub withdraws_policy_by : Op → List ℕ → Asked → Bool
withdraws_policy_by op.DeleteContainer id q = true
withdraws_policy_by op.SetAcl id q = not (sends_policy id q)
withdraws_policy_by other id q = false

-- the request takes a policy of this id away
abbrev pub withdraws_policy : List ℕ → Asked → Bool
withdraws_policy id q = withdraws_policy_by q.ask.op id q

-- the rule is one of S2 to S5: the account, the resource, the signature or the policy of a token
abbrev pub is_before_fields : Rule → Bool
is_before_fields rule.S2 = true
is_before_fields rule.S3 = true
is_before_fields rule.S4 = true
is_before_fields rule.S5 = true
is_before_fields _ = false
