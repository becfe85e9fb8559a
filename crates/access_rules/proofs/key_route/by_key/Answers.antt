use Rattle.std.proofs.Common.{option_copied}
use Rattle.access_rules.proofs.JudgeLemmas.{verdict_of-before}
use Rattle.access_rules.proofs.key_route.by_key.Goals as goal

pub returns-in-Err-clause-value : goal.returns-in-Err-clause-value
returns-in-Err-clause-value c = λ acl.
    verdict_of-before (option_copied c.args.keys) acl c.args.ask.now c.args.now c.in-Err.rule c.args.values.now c.requires c.in-Err.ensures
