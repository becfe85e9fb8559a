use Rattle.stamp_model.proofs.RunLemmas.{answered_admits}
use Rattle.stamp_model.proofs.run_laws.only_what_the_own_route_admits_is_answered.Goals as goal

pub returns : goal.returns
returns c = λ w front r rest before answer after given none. answered_admits w front r rest before answer after given none
