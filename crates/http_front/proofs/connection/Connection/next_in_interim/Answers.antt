use Rattle.std.proofs.Common.{◌∙◌, length, take, drop, ap, subst, arith}
use Rattle.http_front.specs.Connections.{Sends}
use Rattle.http_front.proofs.AdmissionLemmas.{stays_same}
use Rattle.http_front.proofs.Items.{ask_cut, asked, asks_on}
use Rattle.http_front.proofs.Pendings.{slice_to_end}
use Rattle.http_front.proofs.connection.Connection.next_in_interim.Goals as goal

pub returns-in-Err-clause-read : goal.returns-in-Err-clause-read
returns-in-Err-clause-read g c = λ from s.
    ask_cut c.args.asking from c.args.self.now c.send_on.new.self s c.requires.open c.in-Err.ensures.unread c.in-Err.fault c.in-Err.ensures.fault
    (subst (Sends c.args.self.now.writer c.send_on.new.self.writer) (slice_to_end c.args.asking.taken c.interim_of.result.now ∙ ap (drop c.args.asking.taken) c.interim_of.ensures) c.in-Err.ensures.cut)

pub returns-then-count-rest-clause-read : goal.returns-then-count-rest-clause-read
returns-then-count-rest-clause-read g c = λ from s.
    asks_on c.args.asking from c.args.self.now c.send_on.new.self s c.requires.open c.in-Ok.ensures.unread c.in-Ok.count
    (subst (λ l. Sends c.args.self.now.writer c.send_on.new.self.writer (take c.in-Ok.count l)) (slice_to_end c.args.asking.taken c.interim_of.result.now ∙ ap (drop c.args.asking.taken) c.interim_of.ensures) c.in-Ok.ensures.taken.1)

pub returns-clause-read : goal.returns-clause-read
returns-clause-read g c = λ from s.
    let size = ap length (slice_to_end c.args.asking.taken c.interim_of.result.now ∙ ap (drop c.args.asking.taken) c.interim_of.ensures) in
    c.next_in_body.ensures.read from
    (asked c.args.asking from c.args.self.now c.send_on.new.self s c.requires.open c.in-Ok.ensures.unread c.in-Ok.count
    (subst (λ l. Sends c.args.self.now.writer c.send_on.new.self.writer (take c.in-Ok.count l)) (slice_to_end c.args.asking.taken c.interim_of.result.now ∙ ap (drop c.args.asking.taken) c.interim_of.ensures) c.in-Ok.ensures.taken.1) (omega arith))

pub returns-then-count-rest-clause-admitted : goal.returns-then-count-rest-clause-admitted
returns-then-count-rest-clause-admitted g c = stays_same _
