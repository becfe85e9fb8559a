use Rattle.std.proofs.Common.{◌≡◌, map, take}
use Rattle.body_forms.specs.PolicyReading.{sent_view}
use Rattle.body_forms.specs.PolicyValues.{values_view}
use Rattle.body_forms.proofs.policies.all_values.Given as goal

abbrev pub invariant-loop-policy : goal.invariant-loop-policy
invariant-loop-policy l = map values_view l.values.items ≡ map sent_view (take l.policy-index l.sent)
