-- The header Authorization (Blob service REST reference, 2012-02-12, Authentication for the Azure Storage Services:
-- "SharedKey <AccountName>:<Signature>"; RFC 9110, section 11.6.2).
use Rattle.std.specs.Prelude.{◌≡◌, ◌≢◌, ℕ, ◌+◌, false, cond, ◌==◌, List, [], ◌∷◌, ◌++◌, drop, replicate, slice_index, codes, ◌⊎◌}
use Rattle.std.specs.List.{list_any, before_first, after_first, position_or_len}
use Rattle.stamp_values.specs.Ascii.{space, colon}

-- the account whose key signed, and the signature
pub record Claim : Type 0 where
  pub account : List ℕ
  pub signature : List ℕ

-- the text is not empty, has no colon, and does not begin with a space
abbrev pub IsAccountText : List ℕ → Type 0
IsAccountText account =
    (account ≢ []) × (list_any (λ b. b == colon) account ≡ false) × (slice_index account 0 ≢ space)

-- the value of the header writes the claim: `SharedKey`, at least one space, the account, a colon, the signature
abbrev pub Authorizes : List ℕ → Claim → Type 0
Authorizes value claim =
    (spaces : ℕ) × (value ≡ codes "SharedKey" ++ replicate (spaces + 1) space ++ claim.account ++ colon ∷ claim.signature)
    × IsAccountText claim.account × (claim.signature ≢ [])

-- the header was sent once, and its value writes the claim
abbrev pub IsAuthorization : List (List ℕ) → Claim → Type 0
IsAuthorization values claim = (value : List ℕ) × (values ≡ value ∷ []) × Authorizes value claim

-- what comes before the first space
abbrev pub scheme_of : List ℕ → List ℕ
scheme_of value = before_first (λ b. b == space) value

-- the header was sent once, with another scheme
abbrev pub HasOtherScheme : List (List ℕ) → Type 0
HasOtherScheme values = (value : List ℕ) × (values ≡ value ∷ []) × (scheme_of value ≢ codes "SharedKey")

-- the header was not sent, or it was sent once with the right scheme and its value does not write a claim
abbrev pub HasNoClaim : List (List ℕ) → Type 0
HasNoClaim values =
    (values ≡ [])
    ⊎ ((value : List ℕ) × (values ≡ value ∷ []) × (scheme_of value ≡ codes "SharedKey")
    × ((claim : Claim) → Authorizes value claim → ⊥))

-- the text without the spaces at its start
abbrev pub unspaced : List ℕ → List ℕ
unspaced [] = []
unspaced (b ∷ bs) = cond (b == space) (unspaced bs) (b ∷ bs)

-- what comes after the scheme and the spaces after it
abbrev pub claim_text : List ℕ → List ℕ
claim_text value = unspaced (drop (position_or_len (λ b. b == space) value) value)

-- the claim that a text gives: the account comes before the first colon, and the signature comes after it
abbrev pub cut_claim : List ℕ → Claim
cut_claim text =
    record { account = before_first (λ b. b == colon) text; signature = after_first (λ b. b == colon) text }
