use Rattle.std.proofs.Common.{◌≤◌, length, map}
use Rattle.body_forms.specs.PolicyReading.{part_view, part_at}
use Rattle.body_forms.specs.Policies.{policy_name}
use Rattle.xml_text.proofs.ElementTurns.{Lists}
use Rattle.body_forms.proofs.sent_policies.all_parts.Given as goal

abbrev pub invariant-parts : goal.invariant-parts
invariant-parts l =
    (length l.text.left.now ≤ length l.fn.text.left.now) × Lists policy_name part_at l.fn.text.left.now l.text.left.now (map part_view l.parts.items)

abbrev pub decreases-parts : goal.decreases-parts
decreases-parts l = length l.text.left.now
