-- The signature that a request brings, by itself: neither the container nor the moment matters (Blob service REST reference,
-- 2012-02-12, Authentication for the Azure Storage Services; Delegating Access with a Shared Access Signature).
use Rattle.std.specs.Prelude.{◌≡◌, ◌≢◌, Bool, ◌&&◌, ◌||◌, ◌⊎◌, if◌then◌else◌, IsSome, List, ℕ, [], ◌∷◌, Option, option_map}
use Rattle.stamp_values.specs.declared.signing.Credential.TheVariants.{Shared, Token}
use Rattle.stamp_types.specs.declared.ask.Ask.{Ask}
use Rattle.sas_token.specs.Tokens.{Sent, IsToken}
use Rattle.sas_token.specs.declared.token.Resource.TheVariants.{Blob}
use Rattle.hmac_sign.specs.Signature.{signature_of}
use Rattle.shared_key.specs.Authorizations.{Claim, Authorizes}
use Rattle.access_rules.specs.declared.judgement.SignedBy.{SignedBy}
use Rattle.access_rules.specs.declared.judgement.SignedBy.TheVariants as by
use Rattle.access_rules.specs.declared.keys.Keys.{Keys}
use Rattle.access_rules.specs.Parts.{claim_of, first_alone, keys_for, string_of, is_signed}
use Rattle.access_rules.specs.Rules.{on_key, of_token, some_passes}
use Rattle.access_rules.specs.TokenParts.{names_resource, text_of}

-- the request asks by the key of an account, its claim can be read, the stamp has the keys of the path's account, and one of the two
-- keys gives the signature
abbrev pub has_true_claim : Option Keys → Ask → Bool
has_true_claim keys q =
    on_key q.credential
    && some_passes
    (λ claim. some_passes (λ pair. is_signed pair (string_of q) claim.signature) (keys_for keys q.key.account))
    (claim_of q.credential)

-- the request asks by a token for what it names, the stamp has the keys of the path's account, and one of the two keys gives the
-- signature
abbrev pub has_true_token : Option Keys → Ask → Bool
has_true_token keys q =
    of_token (λ token.
    names_resource q token.resource
    && some_passes (λ pair. is_signed pair (text_of q token) token.signature) (keys_for keys q.key.account)) q

-- the signature that the request brings, by the key of an account or by a token, can be judged, and it is true
abbrev pub has_true_signature : Option Keys → Ask → Bool
has_true_signature keys q = has_true_claim keys q || has_true_token keys q

-- which of the two keys gives the signature that the request brings: the first key, or else the second; neither key, if the signature
-- is false or cannot be judged
abbrev pub signed_by : Option Keys → Ask → SignedBy
signed_by keys q =
    if has_true_signature (option_map first_alone keys) q then by.First
    else (if has_true_signature keys q then by.Second else by.Neither)

-- Authorization was sent once and makes a claim, the pair is of the path's account, and one of its keys gives the signature
pub record IsKeySigned (pair : Keys) (q : Ask) : Type 0 where
  pub value : List ℕ
  pub once : q.credential ≡ Shared (value ∷ [])
  pub claim : Claim
  pub reads : Authorizes value claim
  pub known : pair.account ≡ q.key.account
  pub signed : (claim.signature ≡ signature_of pair.first (string_of q))
      ⊎ (claim.signature ≡ signature_of pair.second (string_of q))

-- the request asks by a token; the pair is of the path's account; the request names a container, and a blob if the token is for a
-- blob; and one of the keys gives the signature
pub record IsTokenSigned (pair : Keys) (q : Ask) : Type 0 where
  pub asks : q.credential ≡ Token
  pub token : Sent
  pub reads : IsToken q.signing.query token
  pub known : pair.account ≡ q.key.account
  pub container : q.key.container ≢ []
  pub blob : token.resource ≡ Blob → IsSome q.blob
  pub signed : (token.signature ≡ signature_of pair.first (text_of q token))
      ⊎ (token.signature ≡ signature_of pair.second (text_of q token))

-- the signature part of the request's own route is true under this pair of keys
abbrev pub IsSigned : Keys → Ask → Type 0
IsSigned pair q = IsKeySigned pair q ⊎ IsTokenSigned pair q
