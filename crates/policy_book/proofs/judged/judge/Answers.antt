use Rattle.std.proofs.Common.{ap, ◌∙◌}
use Rattle.std.specs.Arc.{arc_value}
use Rattle.access_rules.specs.declared.keys.Keys.{Keys}
use Rattle.policy_book.specs.Judgements.{signature_under}
use Rattle.policy_book.proofs.JudgementLemmas.{found_false, found_true}
use Rattle.policy_book.proofs.judged.judge.Goals as goal

pub returns-clause-true_one : goal.returns-clause-true_one
returns-clause-true_one c =
    let q = c.args.request.now.ask in
    found_true c.in_ok-outcome.outcome.signature (arc_value c.args.keys.now) q (c.in_ok-outcome.ensures.signature ∙ ap (λ (k : Keys). signature_under k q) c.deref.ensures)

pub returns-clause-false_one : goal.returns-clause-false_one
returns-clause-false_one c =
    let q = c.args.request.now.ask in
    found_false c.in_ok-outcome.outcome.signature (arc_value c.args.keys.now) q (c.in_ok-outcome.ensures.signature ∙ ap (λ (k : Keys). signature_under k q) c.deref.ensures)
