use Rattle.list_pages.proofs.Reached.{container_reached, entry_none, entry_reached}
use Rattle.list_pages.proofs.laws.a_page_has_each_name_that_it_reaches.Goals as goal

pub returns-clause-reached : goal.returns-clause-reached
returns-clause-reached c = λ q p name plain reaches. entry_reached q p name plain reaches

pub returns-clause-none : goal.returns-clause-none
returns-clause-none c = λ q p name plain none. entry_none q p name plain none

pub returns-clause-containers : goal.returns-clause-containers
returns-clause-containers c = λ account q bound w name before reaches. container_reached account q bound w name before reaches
