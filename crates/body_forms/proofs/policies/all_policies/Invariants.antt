use Rattle.std.proofs.Common.{◌≡◌, map, take, drop}
use Rattle.std.specs.List.{list_any}
use Rattle.body_forms.specs.PolicyValues.{values_view, policy_of, has_bad_id}
use Rattle.body_forms.proofs.policies.all_policies.Given as goal

-- the policies so far are good, and what is left decides
abbrev pub invariant-loop-one : goal.invariant-loop-one
invariant-loop-one l =
    (l.policies.items ≡ map policy_of (map values_view (take l.one-index l.texts)))
    × (list_any has_bad_id (map values_view l.texts) ≡ list_any has_bad_id (map values_view (drop l.one-index l.texts)))
