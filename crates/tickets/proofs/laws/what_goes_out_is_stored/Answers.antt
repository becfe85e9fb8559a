use Rattle.tickets.proofs.SentLemmas.{sent_after, sent_stored}
use Rattle.tickets.proofs.laws.what_goes_out_is_stored.Goals as goal

pub returns-clause-stored : goal.returns-clause-stored
returns-clause-stored c = λ es p q stored. sent_stored es p q stored

pub returns-clause-after : goal.returns-clause-after
returns-clause-after c = λ p q t. sent_after p q t
