use Rattle.served_history.proofs.ReplyLemmas.{entered_is_served}
use Rattle.served_history.proofs.laws.an_entered_request_is_served.Goals as goal

pub returns : goal.returns
returns c = λ slot front known known' q t reply fits has entered is. entered_is_served slot front known known' q t reply fits has entered is
