use Rattle.std.proofs.Common.{◌≡◌}
use Rattle.std.specs.List.{list_any}
use Rattle.request_form.specs.HeadRules.{is_own_twice}
use Rattle.request_form.proofs.rules.f7_values.has_own_twice.Given as goal

-- what is left gives the answer
abbrev pub invariant-loop-field : goal.invariant-loop-field
invariant-loop-field l = list_any (λ f. is_own_twice l.fields f.name) l.fields ≡ list_any (λ f. is_own_twice l.fields f.name) l.field-iterator
