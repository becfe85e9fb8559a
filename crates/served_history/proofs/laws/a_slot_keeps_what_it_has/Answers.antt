use Rattle.served_history.proofs.FrontLemmas.{front_stays}
use Rattle.served_history.proofs.ReplyLemmas.{reply_stays}
use Rattle.served_history.proofs.StayLemmas.{stays}
use Rattle.served_history.proofs.laws.a_slot_keeps_what_it_has.Goals as goal

pub returns-clause-stays : goal.returns-clause-stays
returns-clause-stays c = λ slot front log key goes has. stays slot key front log goes has

pub returns-clause-front : goal.returns-clause-front
returns-clause-front c = λ slot front log key goes has. front_stays slot key front log goes has

pub returns-clause-reply : goal.returns-clause-reply
returns-clause-reply c = λ slot front log q t goes has fits. reply_stays slot front log goes q t has fits
