use Rattle.stamp_model.proofs.MadeLemmas.{both_lists, committed-alone, headers-listed, uncommitted-alone}
use Rattle.stamp_model.proofs.success_laws.a_block_list_shows_the_kinds_that_are_asked_for.Goals as goal

pub returns-clause-committed : goal.returns-clause-committed
returns-clause-committed c = λ w key name read reads free asks. committed-alone w key name read reads free asks

pub returns-clause-uncommitted : goal.returns-clause-uncommitted
returns-clause-uncommitted c = λ w key name read reads free asks. uncommitted-alone w key name read reads free asks

pub returns-clause-all : goal.returns-clause-all
returns-clause-all c = λ w key name read reads free asks. both_lists w key name read reads free asks

pub returns-clause-headers : goal.returns-clause-headers
returns-clause-headers c = λ w key name list read fits lists none reads free. headers-listed w key name list read fits lists none reads free
