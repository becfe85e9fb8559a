use Rattle.stamp_model.proofs.SeenContainerLemmas.{reply-seen}
use Rattle.stamp_model.proofs.laws.a_reply_depends_on_what_its_request_sees.Goals as goal

pub returns : goal.returns
returns c = λ keys w v q t bound fits under agree. reply-seen keys w v q t bound fits under agree
