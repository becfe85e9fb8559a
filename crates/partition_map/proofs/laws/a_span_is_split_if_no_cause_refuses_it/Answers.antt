use Rattle.partition_map.proofs.RefusalLemmas.{allowed_is}
use Rattle.partition_map.proofs.laws.a_span_is_split_if_no_cause_refuses_it.Goals as goal

pub returns : goal.returns
returns c = λ points i middle. allowed_is points i middle
