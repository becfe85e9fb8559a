use Rattle.std.proofs.Common.{◌+◌, ◌∙◌, ◌++◌, length, drop, inl, inr, ap, subst, arith, length-drop}
use Rattle.http_front.specs.Connections.{Sends, SendsFront}
use Rattle.http_front.proofs.Pendings.{head_cut, head_then, on_err, slice_to_end, some_left}
use Rattle.http_front.proofs.pending.Pending.send_on.Goals as goal

pub returns-then-count-missing-clause-waits : goal.returns-then-count-missing-clause-waits
returns-then-count-missing-clause-waits g c = λ e.
    let less = c.if-count-missing.true in
    let rest = ap length (slice_to_end c.self.inside.head_taken c.deref.result.now) in
    let size = length-drop c.self.inside.head_taken c.deref.result.now in
    let same = ap length c.deref.ensures.value in
    (λ none. some_left c.self.inside.head.items c.self.inside.body (c.self.inside.head_taken + c.in_ok-count.count) c.self.inside.body_taken (inl (omega arith)) none, c.in_ok-count.ensures.waits less)

pub returns-in_err-taken-clause-cut : goal.returns-in_err-taken-clause-cut
returns-in_err-taken-clause-cut g c =
    on_err _ _ (subst (Sends c.args.writer.now c.send_shares.new.writer) c.self.view_is
    (head_cut c.args.writer.now c.send_on.new.self c.self.inside.head.items (drop c.self.inside.body_taken c.self.inside.body) _ c.self.inside.head_taken c.in_ok-count.count
    (slice_to_end c.self.inside.head_taken c.deref.result.now ∙ ap (drop c.self.inside.head_taken) c.deref.ensures.value) (omega arith) c.in_ok-count.ensures.taken.1 c.in_ok-count.ensures.output c.send_shares.new.writer
    (subst (λ l. Sends c.send_on.new.self c.send_shares.new.writer (drop c.self.inside.body_taken l)) c.as_slice.ensures c.in_err-taken.ensures.cut)))

pub returns-then-taken-len-clause-sent : goal.returns-then-taken-len-clause-sent
returns-then-taken-len-clause-sent g c =
    subst (λ l. SendsFront c.args.writer.now c.send_shares.new.writer l (drop (c.self.inside.head_taken + c.in_ok-count.count) c.self.inside.head.items ++ drop c.in_ok-taken.taken c.self.inside.body)) c.self.view_is
    (head_then c.args.writer.now c.send_on.new.self c.self.inside.head.items (drop c.self.inside.body_taken c.self.inside.body) _ c.self.inside.head_taken c.in_ok-count.count
    (slice_to_end c.self.inside.head_taken c.deref.result.now ∙ ap (drop c.self.inside.head_taken) c.deref.ensures.value) (omega arith) c.in_ok-count.ensures.taken.1 c.in_ok-count.ensures.output c.send_shares.new.writer _
    (subst (λ l. SendsFront c.send_on.new.self c.send_shares.new.writer (drop c.self.inside.body_taken l) (drop c.in_ok-taken.taken l)) c.as_slice.ensures c.in_ok-taken.ensures.sent))

pub returns-then-taken-len-clause-waits : goal.returns-then-taken-len-clause-waits
returns-then-taken-len-clause-waits g c = λ e.
    let less = c.if-taken-len.true in
    let size = c.len-len.ensures in
    let same = ap length c.as_slice.ensures in
    (λ none. some_left c.self.inside.head.items c.self.inside.body (c.self.inside.head_taken + c.in_ok-count.count) c.in_ok-taken.taken (inr (omega arith)) none, c.in_ok-taken.ensures.waits (omega arith))

pub returns-clause-sent : goal.returns-clause-sent
returns-clause-sent g c =
    subst (λ l. SendsFront c.args.writer.now c.send_shares.new.writer l (drop (c.self.inside.head_taken + c.in_ok-count.count) c.self.inside.head.items ++ drop c.in_ok-taken.taken c.self.inside.body)) c.self.view_is
    (head_then c.args.writer.now c.send_on.new.self c.self.inside.head.items (drop c.self.inside.body_taken c.self.inside.body) _ c.self.inside.head_taken c.in_ok-count.count
    (slice_to_end c.self.inside.head_taken c.deref.result.now ∙ ap (drop c.self.inside.head_taken) c.deref.ensures.value) (omega arith) c.in_ok-count.ensures.taken.1 c.in_ok-count.ensures.output c.send_shares.new.writer _
    (subst (λ l. SendsFront c.send_on.new.self c.send_shares.new.writer (drop c.self.inside.body_taken l) (drop c.in_ok-taken.taken l)) c.as_slice.ensures c.in_ok-taken.ensures.sent))
