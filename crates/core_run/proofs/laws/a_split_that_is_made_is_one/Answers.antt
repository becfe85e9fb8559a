use Rattle.std.proofs.Common.{refl}
use Rattle.partition_map.specs.Spans.{split_refusal}
use Rattle.core_run.proofs.OwnTurnLemmas.{split_by}
use Rattle.core_run.proofs.laws.a_split_that_is_made_is_one.Goals as goal

pub returns : goal.returns
returns c = λ s s' i middle faulted takes. split_by (split_refusal s.points i middle) s s' i middle faulted refl takes
