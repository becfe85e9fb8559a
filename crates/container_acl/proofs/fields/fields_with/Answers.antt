use Rattle.std.proofs.Common.{◌∙◌, rules, option_copied}
use Rattle.container_acl.specs.JoinedFields.{acl_or_closed}
use Rattle.container_acl.proofs.FieldLemmas.{found_policy}
use Rattle.container_acl.proofs.fields.fields_with.Goals as goal

pub returns-in-Some : goal.returns-in-Some
returns-in-Some c = c.with_policy.ensures ∙ found_policy (acl_or_closed (option_copied c.args.acl)) c.args.token.now c.in-Some.policy.now (search rules) (search rules)
