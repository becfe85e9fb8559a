use Rattle.std.proofs.Common.{ℕ, List, map, filter, ap, ◌∙◌, rules, tests}
use Rattle.std.specs.Prelude.{not, ◌==◌}
use Rattle.std.proofs.lemmas.Iterator.Consumers.{YieldsList-end}
use Rattle.std.proofs.lemmas.Iterator.Splits.{YieldsList-from_slice_split}
use Rattle.request_form.specs.Targets.{parameter_of, is_nothing}
use Rattle.request_form.proofs.rules.f1_target.read_parameters.Goals as goal

pub returns : goal.returns
returns c =
    let t = YieldsList-end (YieldsList-from_slice_split {s = c.into_iter-piece-iterator.result} _ (λ b. b == 38) c.args.query.now (cc) (cc) (cc) (λ x r q k. search (rules, tests)))
    c.loop-piece.yielded c.loop-piece.piece-iterator c.loop-piece.yielded_by c.next.result c.next.new.self c.in-None.is c.next.ensures.steps in
    c.loop-piece.invariant ∙ ap (λ (ps : List (List ℕ)). map parameter_of (filter (λ piece. not (is_nothing piece)) ps)) t.0
