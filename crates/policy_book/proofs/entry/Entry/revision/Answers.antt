use Rattle.std.proofs.Common.{subst}
use Rattle.policy_book.specs.Entries.{IsTrueEntry}
use Rattle.policy_book.proofs.entry.Entry.revision.Goals as goal

pub returns-clause-truth : goal.returns-clause-truth
returns-clause-truth c = subst IsTrueEntry c.self.view_is c.self.invariant.0
