use Rattle.std.proofs.Common.{rules}
use Rattle.replay_cases.proofs.TallyLemmas.{tally_some}
use Rattle.replay_cases.proofs.tally.Tally.line.Goals as goal

pub returns : goal.returns
returns c = rw (tally_some c.args.self.holding c.args.self.cases c.if-holding-cases.false) (search rules)
