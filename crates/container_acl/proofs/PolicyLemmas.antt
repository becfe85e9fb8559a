-- A policy is found by its id.
use Rattle.std.proofs.Common.{◌≡◌, ◌≢◌, ℕ, Bool, true, false, cond, List, [], ◌∷◌, ◌++◌, Some, None, All, refl, ap, sym, ◌∙◌}
use Rattle.std.proofs.lemmas.List.Elements.{All-nil, All-cons}
use Rattle.std.proofs.lemmas.Slice.Eq.{bytes_eq-Decides}
use Rattle.std.specs.List.{find}
use Rattle.stamp_values.specs.declared.policy.Policy.{Policy}
use Rattle.container_acl.specs.JoinedFields.{has_same_id}

-- the policy is in the list, and has this id
abbrev pub IsFound : List ℕ → List Policy → Policy → Type 0
IsFound id ps p = (front : List Policy) × (rest : List Policy) × (ps ≡ front ++ p ∷ rest) × (p.id ≡ id)

-- what is found in the rest is found in the whole
later : (id : List ℕ) (q : Policy) (qs : List Policy) (p : Policy) → IsFound id qs p → IsFound id (q ∷ qs) p
later id q qs p (front, rest, split, named) = (q ∷ front, rest, ap (λ r. q ∷ r) split, named)

found_by : (id : List ℕ) (q : Policy) (qs : List Policy) (p : Policy) (same : Bool) → has_same_id id q ≡ same → (find (has_same_id id) qs ≡ Some p → IsFound id qs p)
    → cond same (Some q) (find (has_same_id id) qs) ≡ Some p
    → IsFound id (q ∷ qs) p
found_by id q qs p true is more e = let it : q ≡ p = cc in ([], qs, ap (λ r. r ∷ qs) it, ap (λ (r : Policy). r.id) (sym it) ∙ (bytes_eq-Decides q.id id).0 is)
found_by id q qs p false is more e = later id q qs p (more e)

-- a policy that is found is in the list, and has this id
pub policy_found : (id : List ℕ) (ps : List Policy) (p : Policy) → find (has_same_id id) ps ≡ Some p → IsFound id ps p
policy_found id [] p e = absurd (cc)
policy_found id (q ∷ qs) p e = found_by id q qs p _ refl (policy_found id qs p) e

absent_by : (id : List ℕ) (q : Policy) (qs : List Policy) (same : Bool) → has_same_id id q ≡ same → (find (has_same_id id) qs ≡ None → All (λ p. p.id ≢ id) qs)
    → cond same (Some q) (find (has_same_id id) qs) ≡ None
    → All (λ p. p.id ≢ id) (q ∷ qs)
absent_by id q qs true is more e = absurd (cc)
absent_by id q qs false is more e = All-cons (λ (p : Policy). p.id ≢ id) q qs (λ named. let it = (bytes_eq-Decides q.id id).1 named in cc) (more e)

-- if no policy is found, none in the list has this id
pub policy_absent : (id : List ℕ) (ps : List Policy) → find (has_same_id id) ps ≡ None → All (λ p. p.id ≢ id) ps
policy_absent id [] e = All-nil _
policy_absent id (q ∷ qs) e = absent_by id q qs _ refl (policy_absent id qs) e
