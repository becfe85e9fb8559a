use Rattle.request_form.proofs.ConditionLemmas.{count_named, named_count}
use Rattle.request_form.proofs.condition_laws.a_condition_names_one_etag.Goals as goal

pub returns-clause-etag : goal.returns-clause-etag
returns-clause-etag c = λ count small. count_named count small

pub returns-clause-count : goal.returns-clause-count
returns-clause-count c = λ value count named. named_count value count named
