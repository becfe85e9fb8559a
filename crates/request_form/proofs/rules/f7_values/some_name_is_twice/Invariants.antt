use Rattle.std.proofs.Common.{◌≡◌}
use Rattle.std.specs.List.{list_any}
use Rattle.stamp_values.specs.Fields.{is_sent_twice}
use Rattle.request_form.proofs.rules.f7_values.some_name_is_twice.Given as goal

-- what is left gives the answer
abbrev pub invariant-loop-field : goal.invariant-loop-field
invariant-loop-field l = list_any (λ f. is_sent_twice l.fields f.name) l.fields ≡ list_any (λ f. is_sent_twice l.fields f.name) l.field-iterator
