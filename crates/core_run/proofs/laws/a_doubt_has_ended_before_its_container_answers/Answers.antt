use Rattle.core_run.proofs.EndedLemmas.{asked_after, ended}
use Rattle.core_run.proofs.laws.a_doubt_has_ended_before_its_container_answers.Goals as goal

pub returns-clause-reply : goal.returns-clause-reply
returns-clause-reply c = λ s m s' before n after xs rs q t a o e sound there run serve gives. ended q t a o e xs rs s m s' before n after sound there run serve gives

pub returns-clause-asked : goal.returns-clause-asked
returns-clause-asked c = λ s s' before after steps answers us key test run sound none is asks. asked_after key test steps answers s s' before after us run asks sound none is
