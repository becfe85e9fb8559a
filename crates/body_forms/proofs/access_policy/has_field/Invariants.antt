use Rattle.std.proofs.Common.{◌≡◌, length, map}
use Rattle.body_forms.specs.Policies.{values}
use Rattle.body_forms.specs.PolicyReading.{given_view}
use Rattle.body_forms.proofs.access_policy.has_field.Given as goal

-- what is left gives the answer
abbrev pub invariant-loop-left : goal.invariant-loop-left
invariant-loop-left l = values l.wanted (map given_view l.left) ≡ values l.wanted (map given_view l.fields)

abbrev pub decreases-loop-left : goal.decreases-loop-left
decreases-loop-left l = length l.left
