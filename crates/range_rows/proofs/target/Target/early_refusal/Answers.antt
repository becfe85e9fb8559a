use Rattle.std.proofs.Common.{sym, ◌∙◌, ap}
use Rattle.row_trees.specs.FoundParts.{sizes_found}
use Rattle.range_rows.specs.ObjectRules.{named_blob}
use Rattle.range_rows.proofs.GroupLemmas.{early_by_names, early_by_conditions, early_by_body}
use Rattle.range_rows.proofs.target.Target.early_refusal.Goals as goal

pub returns-in-Some : goal.returns-in-Some
returns-in-Some c =
    early_by_names (sizes_found c.args.self.now.container) c.args.request.now c.in-Some.refusal (sym c.in-Some.ensures)

pub returns-in-Some-condition_refusal : goal.returns-in-Some-condition_refusal
returns-in-Some-condition_refusal c =
    let p = sizes_found c.args.self.now.container in
    let q = c.args.request.now in
    let seen = c.named-seen.ensures.part_sizes ∙ ap (named_blob p) c.ask.ensures.value in
    early_by_conditions p q (sym c.in_default.ensures) c.in-Some-condition_refusal.refusal (sym (c.in-Some-condition_refusal.ensures p seen))

pub returns : goal.returns
returns c =
    let p = sizes_found c.args.self.now.container in
    let q = c.args.request.now in
    let seen = c.named-seen.ensures.part_sizes ∙ ap (named_blob p) c.ask.ensures.value in
    c.body_refusal.ensures p ∙ early_by_body p q (sym c.in_default.ensures) (sym (c.in_default-condition_refusal.ensures p seen))
