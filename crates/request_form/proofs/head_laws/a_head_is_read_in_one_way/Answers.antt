use Rattle.request_form.proofs.HeadLaws.{one_form, one_way, one_denial}
use Rattle.request_form.proofs.head_laws.a_head_is_read_in_one_way.Goals as goal

pub returns-clause-form : goal.returns-clause-form
returns-clause-form c = λ text a b x y. one_form text a b x y

pub returns-clause-either : goal.returns-clause-either
returns-clause-either c = λ text a d x y. one_way text a d x y

pub returns-clause-denial : goal.returns-clause-denial
returns-clause-denial c = λ text d e x y. one_denial text d e x y
