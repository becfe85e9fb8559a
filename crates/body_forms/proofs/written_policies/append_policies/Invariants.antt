use Rattle.std.proofs.Common.{◌≡◌, ◌++◌, All, take, flat_map}
use Rattle.body_forms.specs.KeptPolicies.{IsPolicy}
use Rattle.body_forms.specs.WrittenPolicies.{policy_text}
use Rattle.body_forms.proofs.written_policies.append_policies.Given as goal

-- the policies of the turns before are written, and each of them is a policy
abbrev pub invariant-loop-policy : goal.invariant-loop-policy
invariant-loop-policy l =
    record {
      written : l.out.items ≡ l.initial.out.items ++ flat_map policy_text (take l.policy-index l.policies);
      kept : All IsPolicy (take l.policy-index l.policies);
    }
