use Rattle.stamp_model.proofs.RunLemmas.{length-replies_to, answered_in_turn, answered_so}
use Rattle.stamp_model.proofs.run_laws.each_request_has_the_reply_of_its_position.Goals as goal

pub returns-clause-count : goal.returns-clause-count
returns-clause-count c = λ w rs. length-replies_to w rs

pub returns-clause-some : goal.returns-clause-some
returns-clause-some c = λ w front r rest. answered_in_turn w front r rest

pub returns-clause-once : goal.returns-clause-once
returns-clause-once c = λ w front r rest before answer after given. (answered_so w front r rest before answer after given).1

pub returns-clause-front : goal.returns-clause-front
returns-clause-front c = λ w front r rest before answer after given. (answered_so w front r rest before answer after given).0
