use Rattle.std.proofs.Common.{◌≡◌, rules, ap}
use Rattle.stamp_types.specs.declared.reply.Reply.{Reply}
use Rattle.stamp_types.proofs.reply.Reply.same.Goals as goal

-- replies are equal if their parts are equal
same_replies : (a b : Reply) → a.status ≡ b.status → a.code ≡ b.code → a.rule ≡ b.rule → a.headers ≡ b.headers → a.length ≡ b.length → a.body ≡ b.body → a ≡ b
same_replies a b status code rule headers length body =
    λ i. record { status = status i; code = code i; rule = rule i; headers = headers i; length = length i; body = body i }

pub returns : goal.returns
returns c =
    let a = c.args.self.now in
    let b = c.args.other.now in
    let status : a.status ≡ b.status = search rules in
    let code : a.code ≡ b.code = search rules in
    let rule : a.rule ≡ b.rule = search rules in
    let headers : a.headers ≡ b.headers = search rules in
    let length : a.length ≡ b.length = search rules in
    (λ t. same_replies a b status code rule headers length (c.same.ensures.0 t), λ e. c.same.ensures.1 (ap (λ (r : Reply). r.body) e))
