use Rattle.stamp_model.proofs.SuccessLemmas.{status-unrefused}
use Rattle.stamp_model.proofs.success_laws.a_success_has_the_status_of_its_operation.Goals as goal

pub returns : goal.returns
returns c = λ keys w q t bound none. status-unrefused keys w q t bound none
