use Rattle.std.proofs.Common.{rules}
use Rattle.extent_seal.proofs.HeardLemmas.{heard_first}
use Rattle.extent_seal.proofs.sealed.Sealed.read.Goals as goal

pub returns-in-Some-clause-heard : goal.returns-in-Some-clause-heard
returns-in-Some-clause-heard g c = λ reached. heard_first c.args.self.now.kept _ _ _ _ (search rules)

pub returns-in-Some-asked-clause-heard : goal.returns-in-Some-asked-clause-heard
returns-in-Some-asked-clause-heard g c = λ reached. heard_first c.args.self.now.kept _ _ _ _ (search rules)

pub returns-in-Some-asked-2-clause-heard : goal.returns-in-Some-asked-2-clause-heard
returns-in-Some-asked-2-clause-heard g c = λ reached. heard_first c.args.self.now.kept _ _ _ _ (search rules)
