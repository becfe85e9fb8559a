use Rattle.std.proofs.Common.{◌≡◌}
use Rattle.std.specs.List.{list_any}
use Rattle.request_form.specs.HeadForms.{asks_to_close}
use Rattle.request_form.proofs.parse.connection_fields.some_asks_to_close.Given as goal

-- what is left gives the answer
abbrev pub invariant-loop-field : goal.invariant-loop-field
invariant-loop-field l = list_any asks_to_close l.fields ≡ list_any asks_to_close l.field-iterator
