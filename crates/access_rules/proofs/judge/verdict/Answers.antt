use Rattle.std.proofs.Common.{rules, option_copied}
use Rattle.access_rules.proofs.judge.verdict.Goals as goal

pub returns-in-Shared-clause-value : goal.returns-in-Shared-clause-value
returns-in-Shared-clause-value c = let value = c.by_key.ensures.value (option_copied c.args.acl) in search rules
