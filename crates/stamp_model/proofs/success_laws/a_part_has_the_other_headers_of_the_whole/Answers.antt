use Rattle.stamp_model.proofs.PartLemmas.{headers-of_both}
use Rattle.stamp_model.proofs.success_laws.a_part_has_the_other_headers_of_the_whole.Goals as goal

pub returns : goal.returns
returns c = λ keys w q t bound range fits asks none. headers-of_both keys w q t bound range fits asks none
