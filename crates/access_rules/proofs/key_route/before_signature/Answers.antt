use Rattle.std.proofs.Common.{option_copied}
use Rattle.access_rules.proofs.JudgeLemmas.{early_rule}
use Rattle.access_rules.proofs.key_route.before_signature.Goals as goal

pub returns-in-Err : goal.returns-in-Err
returns-in-Err c = early_rule (option_copied c.args.keys) c.args.ask.now c.args.now c.in-Err.rule c.args.values.now c.requires c.in-Err.ensures
