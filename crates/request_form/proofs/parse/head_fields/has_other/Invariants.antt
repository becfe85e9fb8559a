use Rattle.std.proofs.Common.{◌≡◌, bytes_eq}
use Rattle.request_form.specs.HeadFields.{has_bad}
use Rattle.request_form.proofs.parse.head_fields.has_other.Given as goal

-- what is left gives the answer
abbrev pub invariant-loop-field : goal.invariant-loop-field
invariant-loop-field l = has_bad l.fields l.name (λ v. bytes_eq v l.value) ≡ has_bad l.field-iterator l.name (λ v. bytes_eq v l.value)
