use Rattle.std.proofs.Common.{◌≤◌, length, map}
use Rattle.body_forms.specs.PolicyReading.{sent_view, sent_at}
use Rattle.body_forms.specs.Policies.{policies_name}
use Rattle.xml_text.proofs.ElementTurns.{Lists}
use Rattle.body_forms.proofs.sent_policies.all_sent.Given as goal

abbrev pub invariant-policies : goal.invariant-policies
invariant-policies l =
    (length l.text.left.now ≤ length l.fn.text.left.now) × Lists policies_name sent_at l.fn.text.left.now l.text.left.now (map sent_view l.policies.items)

abbrev pub decreases-policies : goal.decreases-policies
decreases-policies l = length l.text.left.now
