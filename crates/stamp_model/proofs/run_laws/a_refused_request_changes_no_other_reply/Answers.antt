use Rattle.stamp_model.proofs.RunLemmas.{replies_to-without, world_after_all-without}
use Rattle.stamp_model.proofs.run_laws.a_refused_request_changes_no_other_reply.Goals as goal

pub returns-clause-replies : goal.returns-clause-replies
returns-clause-replies c = λ w front r rest before answer after rule given named. replies_to-without w front r rest before answer after given rule named

pub returns-clause-world : goal.returns-clause-world
returns-clause-world c = λ w front r rest before answer after rule given named. world_after_all-without w front r rest before answer after given rule named
