use Rattle.std.proofs.Common.{◌≡◌, length, map}
use Rattle.body_forms.specs.Policies.{accesses}
use Rattle.body_forms.specs.PolicyReading.{part_view}
use Rattle.body_forms.proofs.sent_policies.has_access.Given as goal

-- what is left gives the answer
abbrev pub invariant-loop-left : goal.invariant-loop-left
invariant-loop-left l = accesses (map part_view l.left) ≡ accesses (map part_view l.parts)

abbrev pub decreases-loop-left : goal.decreases-loop-left
decreases-loop-left l = length l.left
