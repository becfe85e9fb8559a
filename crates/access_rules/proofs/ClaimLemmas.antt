-- What is read from Authorization is the claim that its value writes.
use Rattle.std.proofs.Common.{◌≡◌, ℕ, List, [], ◌∷◌, Some, Result, Ok, Err, refl, ap, ◌∙◌, subst}
use Rattle.std.specs.Prelude.{IfOk}
use Rattle.std.specs.Result.{result_ok}
use Rattle.shared_key.specs.Authorizations.{Claim, Authorizes, IsAuthorization}
use Rattle.shared_key.specs.Readings.{claim_or_fault}
use Rattle.shared_key.specs.declared.authorization.HeaderFault.{HeaderFault}
use Rattle.shared_key.proofs.Claims.{read_printed, read_clause}
use Rattle.access_rules.specs.Parts.{claim_in}

claim_by : (r : Result Claim HeaderFault) (values : List (List ℕ)) (claim : Claim) → IfOk r (λ c. IsAuthorization values c) → result_ok r ≡ Some claim → IsAuthorization values claim
claim_by (Ok c) values claim h e = let same : c ≡ claim = cc in subst (IsAuthorization values) same h
claim_by (Err f) values claim h e = cc

-- if a claim is read, the header was sent once and its value writes the claim
pub claimed : (values : List (List ℕ)) (claim : Claim) → claim_in values ≡ Some claim → IsAuthorization values claim
claimed [] claim e = cc
claimed (v ∷ []) claim e = claim_by (claim_or_fault v) (v ∷ []) claim (read_clause (v ∷ []) v (claim_or_fault v) refl refl) e
claimed (v ∷ w ∷ vs) claim e = cc

-- if the header was sent once and its value writes a claim, the claim is read
pub claims : (values : List (List ℕ)) (value : List ℕ) (claim : Claim) → values ≡ value ∷ [] → Authorizes value claim → claim_in values ≡ Some claim
claims values value claim once reads = ap claim_in once ∙ ap (λ (r : Result Claim HeaderFault). result_ok r) (read_printed value claim reads)
