-- What is read from the header Authorization (Blob service REST reference, 2012-02-12, Authentication for
-- the Azure Storage Services).
use Rattle.std.specs.Prelude.{ℕ, ◌||◌, if◌then◌else◌, List, [], ◌∷◌, Result, Ok, Err, length, ◌==◌, bytes_eq, codes}
use Rattle.shared_key.specs.Authorizations.{Claim, scheme_of, claim_text, cut_claim}
use Rattle.shared_key.specs.declared.authorization.HeaderFault.{HeaderFault}
use Rattle.shared_key.specs.declared.authorization.HeaderFault.TheVariants as fault

-- the claim, or a fault of form if its account or its signature is empty
abbrev pub claim_or_form : Claim → Result Claim HeaderFault
claim_or_form claim =
    if length claim.account == 0 || length claim.signature == 0 then Err fault.Form else Ok claim

-- the claim that one value gives, or the fault
abbrev pub claim_or_fault : List ℕ → Result Claim HeaderFault
claim_or_fault value =
    if bytes_eq (scheme_of value) (codes "SharedKey") then claim_or_form (cut_claim (claim_text value)) else Err fault.Scheme

-- the claim that the values of the header give, or the fault
abbrev pub authorization_of : List (List ℕ) → Result Claim HeaderFault
authorization_of [] = Err fault.Form
authorization_of (value ∷ []) = claim_or_fault value
authorization_of (value ∷ other ∷ more) = Err fault.Twice
