use Rattle.stamp_model.proofs.SuccessLemmas.{reply-past, rule-within}
use Rattle.stamp_model.proofs.success_laws.a_range_is_refused_only_past_the_end.Goals as goal

pub returns-clause-within : goal.returns-clause-within
returns-clause-within c = λ keys w q t bound range fits asks none within. rule-within keys w q t bound range fits asks none within

pub returns-clause-past : goal.returns-clause-past
returns-clause-past c = λ keys w q t bound range fits asks none past. reply-past keys w q t bound range fits asks none past
