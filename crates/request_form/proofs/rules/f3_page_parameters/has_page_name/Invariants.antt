use Rattle.std.proofs.Common.{◌≡◌, bytes_eq}
use Rattle.std.specs.List.{list_any}
use Rattle.request_form.specs.HeadRules.{page_names}
use Rattle.request_form.proofs.rules.f3_page_parameters.has_page_name.Given as goal

-- what is left gives the answer
abbrev pub invariant-loop-field : goal.invariant-loop-field
invariant-loop-field l =
    list_any (λ f. list_any (bytes_eq f.name) page_names) l.query ≡ list_any (λ f. list_any (bytes_eq f.name) page_names) l.field-iterator
