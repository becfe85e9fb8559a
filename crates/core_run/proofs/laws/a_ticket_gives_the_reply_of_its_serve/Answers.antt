use Rattle.core_run.specs.States.{held_by}
use Rattle.core_run.proofs.TicketLemmas.{fetched_is, given, holds_on, stays_or_fetched}
use Rattle.core_run.proofs.laws.a_ticket_gives_the_reply_of_its_serve.Goals as goal

pub returns-clause-given : goal.returns-clause-given
returns-clause-given c = λ s s' q t faulted n takes. given s s' q t faulted n takes

pub returns-clause-stays : goal.returns-clause-stays
returns-clause-stays c = λ s s' x faulted answer n r takes holds. stays_or_fetched x answer n r s s' faulted takes holds

pub returns-clause-run : goal.returns-clause-run
returns-clause-run c = λ s s' before after steps answers n r run none holds. holds_on n r steps answers s s' before after run none holds

pub returns-clause-fetched : goal.returns-clause-fetched
returns-clause-fetched c = λ s s' faulted answer n r takes holds. fetched_is (held_by s n) s s' n faulted answer r holds takes
