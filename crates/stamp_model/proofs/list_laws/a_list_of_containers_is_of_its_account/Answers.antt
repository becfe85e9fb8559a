use Rattle.stamp_model.proofs.ListedLemmas.{listed-container}
use Rattle.stamp_model.proofs.SeenContainerLemmas.{reply-of_account}
use Rattle.stamp_model.proofs.list_laws.a_list_of_containers_is_of_its_account.Goals as goal

pub returns-clause-shown : goal.returns-clause-shown
returns-clause-shown c = λ w name list fits lists none under. listed-container w name list fits lists none under

pub returns-clause-own : goal.returns-clause-own
returns-clause-own c = λ keys w v q t bound fits lists same. reply-of_account q fits lists keys w v t bound same
