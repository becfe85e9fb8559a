use Rattle.std.proofs.Common.{◌≡◌, rules, List, ap, ◌∙◌}
use Rattle.stamp_types.specs.declared.piece.Piece.{Piece}
use Rattle.stamp_types.specs.World.{Part, part_at}
use Rattle.row_trees.specs.FoundParts.{sizes_found}
use Rattle.range_rows.specs.ObjectRules.{object_refusal}
use Rattle.range_rows.proofs.JudgementLemmas.{refusal_of_judgement}
use Rattle.range_rows.proofs.rows_rules.RowsObjectRules.object_rule.Goals as goal

pub returns-clause-rule : goal.returns-clause-rule
returns-clause-rule c =
    let q = c.args.request.now in
    let container : c.of-target.result.container ≡ part_at c.args.self.now q.ask.key = search rules in
    c.refusal.ensures
    ∙ refusal_of_judgement c.of-target.result q c.in_ok-judged.judged c.in_ok-judged.ensures.judged
    ∙ ap (λ (p : Part (List Piece)). object_refusal (sizes_found p) q) container
