use Rattle.std.proofs.Common.{◌≡◌, length, map}
use Rattle.std.specs.List.{list_any}
use Rattle.body_forms.specs.PolicyValues.{values_view, has_bad_letters}
use Rattle.body_forms.proofs.policies.are_any_letters_bad.Given as goal

-- what is left gives the answer
abbrev pub invariant-loop-left : goal.invariant-loop-left
invariant-loop-left l = list_any has_bad_letters (map values_view l.left) ≡ list_any has_bad_letters (map values_view l.policies)

abbrev pub decreases-loop-left : goal.decreases-loop-left
decreases-loop-left l = length l.left
