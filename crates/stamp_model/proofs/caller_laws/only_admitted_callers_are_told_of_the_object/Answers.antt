use Rattle.stamp_model.proofs.CallerLemmas.{admitted-told}
use Rattle.stamp_model.proofs.caller_laws.only_admitted_callers_are_told_of_the_object.Goals as goal

pub returns : goal.returns
returns c = λ keys w q t bound rule objects told. admitted-told keys w q t bound rule objects told
