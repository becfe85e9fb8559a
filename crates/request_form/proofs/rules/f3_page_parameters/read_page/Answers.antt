use Rattle.std.proofs.Common.{rules, ◌≡◌, ap, ◌∙◌, bytes_eq, cond, false, None, Some}
use Rattle.std.specs.List.{list_any}
use Rattle.stamp_types.specs.declared.args.Page.{Page}
use Rattle.stamp_values.specs.Operations.{lists_names}
use Rattle.request_form.specs.HeadRules.{page_names}
use Rattle.request_form.proofs.PageNames.{no_page}
use Rattle.request_form.proofs.rules.f3_page_parameters.read_page.Goals as goal

pub returns-then-not-has_page_name : goal.returns-then-not-has_page_name
returns-then-not-has_page_name c =
    let none : list_any (λ f. list_any (bytes_eq f.name) page_names) c.args.query.now ≡ false = search rules in
    let page = no_page c.args.op c.args.query.now none in
    (page.0, c.page_by.ensures ∙ ap (λ (p : Page). cond (lists_names c.args.op) (Some p) None) c.first_page.ensures ∙ page.1)
