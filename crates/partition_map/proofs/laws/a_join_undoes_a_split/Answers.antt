use Rattle.partition_map.proofs.BoundLemmas.{without_new}
use Rattle.partition_map.proofs.laws.a_join_undoes_a_split.Goals as goal

pub returns : goal.returns
returns c = λ points i middle within. without_new points i middle within
