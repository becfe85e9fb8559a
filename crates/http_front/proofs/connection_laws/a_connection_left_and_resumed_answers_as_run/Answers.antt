use Rattle.std.proofs.Common.{Ok, Err}
use Rattle.http_front.specs.declared.item.Progress.TheVariants.{Waits}
use Rattle.http_front.specs.Stages.{fresh_stage}
use Rattle.http_front.proofs.Going.{awaits_peer, comes_given_up, conversing_none, given_up_left}
use Rattle.http_front.proofs.Resumed.{answers_one, has_conversed, has_run, resumed, resumed_left}
use Rattle.http_front.proofs.connection_laws.a_connection_left_and_resumed_answers_as_run.Goals as goal

pub returns-clause-ran : goal.returns-clause-ran
returns-clause-ran g c = λ clock clock' world world' from to last waits ended result fresh resumes finishes.
    let gives = g.C.Clock.gives in
    let answers = g.S.Service.answers in
    let starves = g.S.Service.starves in
    let comes = resumed gives answers starves clock clock clock' world world world' from from to fresh_stage waits _ (conversing_none gives answers starves clock world from fresh) resumes in
    let left = resumed_left gives answers starves clock clock' world world' from to fresh_stage waits _ resumes in
    has_run gives answers starves clock clock' world world' from to last ended result (has_conversed gives answers starves clock clock' world world' from to ended comes left) finishes

pub returns-clause-given_up : goal.returns-clause-given_up
returns-clause-given_up g c = λ clock clock' world world' from to up last waits stage fault result fresh resumes peer gave finishes.
    let gives = g.C.Clock.gives in
    let answers = g.S.Service.answers in
    let starves = g.S.Service.starves in
    let comes = resumed gives answers starves clock clock clock' world world world' from from to fresh_stage waits (Ok (Waits stage)) (conversing_none gives answers starves clock world from fresh) resumes in
    let left = awaits_peer stage to peer (resumed_left gives answers starves clock clock' world world' from to fresh_stage waits (Ok (Waits stage)) resumes) in
    let ended = comes_given_up gives answers starves stage fault clock clock' world world' from to up comes left gave in
    has_run gives answers starves clock clock' world world' from up last (Err fault) result
    (has_conversed gives answers starves clock clock' world world' from up (Err fault) ended (given_up_left to up stage fault left gave)) finishes

pub returns-clause-alike : goal.returns-clause-alike
returns-clause-alike g c = λ clock one other world left right from to from' to' result result' input one_moment one_reply whole whole' a b.
    answers_one g.C.Clock.gives g.S.Service.answers one_moment one_reply clock one other world left right from to from' to' result result' input whole whole' a b
