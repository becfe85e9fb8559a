use Rattle.stamp_model.proofs.PartLemmas.{part-of_whole}
use Rattle.stamp_model.proofs.condition_laws.a_part_is_a_part_of_the_whole.Goals as goal

pub returns : goal.returns
returns c = λ keys w q t bound range fits asks none. part-of_whole keys w q t bound range fits asks none
