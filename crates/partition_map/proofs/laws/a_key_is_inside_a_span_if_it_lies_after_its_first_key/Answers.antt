use Rattle.partition_map.proofs.RefusalLemmas.{inside_is}
use Rattle.partition_map.proofs.laws.a_key_is_inside_a_span_if_it_lies_after_its_first_key.Goals as goal

pub returns : goal.returns
returns c = λ points i key. inside_is points i key
