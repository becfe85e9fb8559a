use Rattle.request_form.proofs.HeadLaws.{accepted_or_refused}
use Rattle.request_form.proofs.head_laws.each_head_is_accepted_or_refused.Goals as goal

pub returns : goal.returns
returns c = λ text. accepted_or_refused text
