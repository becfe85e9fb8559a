use Rattle.std.proofs.Common.{◌≤◌, length, map}
use Rattle.body_forms.specs.PolicyReading.{given_view, given_at}
use Rattle.body_forms.specs.Policies.{access_name}
use Rattle.xml_text.proofs.ElementTurns.{Lists}
use Rattle.body_forms.proofs.access_policy.all_given.Given as goal

abbrev pub invariant-fields : goal.invariant-fields
invariant-fields l =
    (length l.text.left.now ≤ length l.fn.text.left.now) × Lists access_name given_at l.fn.text.left.now l.text.left.now (map given_view l.fields.items)

abbrev pub decreases-fields : goal.decreases-fields
decreases-fields l = length l.text.left.now
