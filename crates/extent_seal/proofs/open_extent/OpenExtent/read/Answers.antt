use Rattle.std.proofs.Common.{rules}
use Rattle.extent_seal.specs.Extents.{all_three}
use Rattle.extent_seal.proofs.HeardLemmas.{heard_first}
use Rattle.extent_seal.proofs.open_extent.OpenExtent.read.Goals as goal

pub returns-then-ask-clause-heard : goal.returns-then-ask-clause-heard
returns-then-ask-clause-heard g c = λ reached. heard_first all_three _ _ _ _ (search rules)

pub returns-then-ask-2-clause-heard : goal.returns-then-ask-2-clause-heard
returns-then-ask-2-clause-heard g c = λ reached. heard_first all_three _ _ _ _ (search rules)

pub returns-then-ask-3-clause-heard : goal.returns-then-ask-3-clause-heard
returns-then-ask-3-clause-heard g c = λ reached. heard_first all_three _ _ _ _ (search rules)
