-- What the types of a policy's parts keep, and one more policy that is written.
use Rattle.std.proofs.Common.{◌≡◌, ℕ, ◌+◌, ◌<◌, true, List, [], ◌∷◌, ◌++◌, length, take, get_or, All, IfSome, flat_map, sym, ap, ◌∙◌, subst}
use Rattle.std.proofs.lemmas.List.{flat_map_more, take_more}
use Rattle.std.proofs.lemmas.List.Elements.{All-more}
use Rattle.stamp_values.specs.declared.policy.Policy.{Policy}
use Rattle.stamp_values.specs.Letters.{has_permission}
use Rattle.stamp_values.specs.Texts.{is_utf8}
use Rattle.body_forms.specs.KeptPolicies.{IsMoment, HasKeptFields, IsPolicy}
use Rattle.body_forms.specs.WrittenPolicies.{policy_text}

pub kept_fields : (p : Policy) → IfSome p.start IsMoment → IfSome p.expiry IsMoment → IfSome p.letters (λ l. has_permission l ≡ true) → HasKeptFields p
kept_fields p start expiry letters = record { start = start; expiry = expiry; letters = letters }

pub kept_policy : (p : Policy) → is_utf8 p.id ≡ true → HasKeptFields p → IsPolicy p
kept_policy p utf8 fields = record { utf8 = utf8; fields = fields }

pub one_written_more : (ps : List Policy) (i : ℕ) (p : Policy) (start out new : List ℕ) → i < length ps → p ≡ get_or ps i p → out ≡ start ++ flat_map policy_text (take i ps) → new ≡ out ++ policy_text p
    → new ≡ start ++ flat_map policy_text (take (i + 1) ps)
one_written_more ps i p start out new lt is before more =
    more ∙ ap (λ l. l ++ policy_text p) before ∙ flat_map_more policy_text start (take i ps) p
    ∙ ap (λ l. start ++ flat_map policy_text l) (ap (λ q. take i ps ++ q ∷ []) is ∙ sym (take_more ps i p lt))

pub one_kept_more : (ps : List Policy) (i : ℕ) (p : Policy) → i < length ps → p ≡ get_or ps i p → All IsPolicy (take i ps) → IsPolicy p → All IsPolicy (take (i + 1) ps)
one_kept_more ps i p lt is before one = All-more IsPolicy ps i p lt before (subst IsPolicy is one)
