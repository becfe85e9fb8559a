use Rattle.std.proofs.Common.{rules, ◌≡◌, Ok, Some}
use Rattle.request_form.proofs.HeadLaws.{refused, accepted}
use Rattle.request_form.proofs.head.read_head.Goals as goal

pub returns-clause-denied : goal.returns-clause-denied
returns-clause-denied c = λ d e.
    let parsed : c.parse_head.result ≡ Ok (Some c.in-Some.head) = search rules in
    refused c.args.text.now c.in-Some.head c.form.result d (rw parsed at c.parse_head.ensures.head) c.form.ensures e

pub returns-clause-accepted : goal.returns-clause-accepted
returns-clause-accepted c =
    let parsed : c.parse_head.result ≡ Ok (Some c.in-Some.head) = search rules in
    accepted c.args.text.now c.in-Some.head c.form.result (rw parsed at c.parse_head.ensures.head) c.form.ensures
