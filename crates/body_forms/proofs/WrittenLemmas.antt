-- Parts of a body that are written one after the other.
use Rattle.std.proofs.Common.{◌≡◌, ℕ, List, ◌++◌, append_assoc, refl, ap, ◌∙◌}
use Rattle.stamp_values.specs.declared.policy.Policy.{Policy}
use Rattle.xml_text.specs.WrittenElements.{closing_text, opening_text}
use Rattle.body_forms.specs.Policies.{policy_name}
use Rattle.body_forms.specs.WrittenPolicies.{identified_text, policy_text}

-- three parts that are written after what is there
three_joined : (out a b c one two three : List ℕ) → one ≡ out ++ a → two ≡ one ++ b → three ≡ two ++ c → three ≡ out ++ (a ++ b ++ c)
three_joined out a b c one two three first second third =
    let whole : ((out ++ a) ++ b) ++ c ≡ out ++ (a ++ b ++ c) = simp append_assoc refl in
    third ∙ ap (λ (bs : List ℕ). bs ++ c) (second ∙ ap (λ (bs : List ℕ). bs ++ b) first) ∙ whole

-- the three parts of a policy make its text
pub policy_joined : (p : Policy) (out one two three : List ℕ) → one ≡ out ++ opening_text policy_name → two ≡ one ++ identified_text p → three ≡ two ++ closing_text policy_name
    → three ≡ out ++ policy_text p
unfolding policy_text
policy_joined p out one two three first second third = three_joined out (opening_text policy_name) (identified_text p) (closing_text policy_name) one two three first second third
