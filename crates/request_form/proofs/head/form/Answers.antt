use Rattle.std.proofs.Common.{◌∙◌}
use Rattle.std.proofs.lemmas.Result.{err_from_is_err_and}
use Rattle.std.specs.Arc.{arc_value}
use Rattle.request_form.specs.HeadReads.{field_rules, line_rules}
use Rattle.request_form.proofs.AskLemmas.{fits, form_is}
use Rattle.request_form.proofs.HeadLaws.{denies_first, denies_next, passes_both}
use Rattle.request_form.proofs.head.form.Goals as goal

pub returns-in_err-line : goal.returns-in_err-line
returns-in_err-line c =
    let p = err_from_is_err_and c.from_residual.result c.from_residual.ensures.1 in
    rw (p.1, p.2) (denies_first c.args.head line_rules field_rules c.in_err-line.field-0.0 c.in_err-line.ensures)

pub returns-in_err-fields : goal.returns-in_err-fields
returns-in_err-fields c =
    let p = err_from_is_err_and c.from_residual-in_err-fields.result c.from_residual-in_err-fields.ensures.1 in
    rw (p.1, p.2) (denies_next c.args.head line_rules field_rules c.in_err-fields.field-0.0 c.in_ok-line.ensures.0 c.in_err-fields.ensures)

pub invariant_of-result : goal.invariant_of-result
invariant_of-result c = fits c.args.head c.in_ok-line.line c.in_ok-fields.fields (arc_value c.in_ok-ask.ask) c.in_ok-line.ensures.1 c.in_ok-fields.ensures.1 c.requires.short c.requires.target.0
    (c.in_ok-ask.ensures ∙ c.ask.ensures)

pub returns : goal.returns
returns c = (
  passes_both c.args.head line_rules field_rules c.in_ok-line.ensures.0 c.in_ok-fields.ensures.0,
  form_is c.args.head c.in_ok-line.line (arc_value c.in_ok-ask.ask) c.in_ok-fields.fields.body_len c.expects-expects.result c.closes-closes.result
      c.in_ok-line.ensures.1 (c.in_ok-ask.ensures ∙ c.ask.ensures) c.in_ok-fields.ensures.1.body_len c.expects-expects.ensures c.closes-closes.ensures,
)
