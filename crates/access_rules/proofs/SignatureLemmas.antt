-- What a signature that is true says, and that it is not false.
use Rattle.std.proofs.Common.{◌≡◌, ◌↔◌, inl, inr, ℕ, Bool, true, false, cond, not, ◌&&◌, ◌||◌, List, [], ◌∷◌, Option, Some, None, refl, sym, ap, ◌∙◌}
use Rattle.std.proofs.lemmas.Slice.Eq.{bytes_eq-Decides}
use Rattle.std.specs.Prelude.{bytes_eq}
use Rattle.stamp_values.specs.declared.signing.Credential.{Credential}
use Rattle.stamp_values.specs.declared.signing.Credential.TheVariants.{Shared, Token, Anonymous}
use Rattle.stamp_types.specs.declared.ask.Ask.{Ask}
use Rattle.hmac_sign.specs.Signature.{signature_of}
use Rattle.sas_token.specs.Tokens.{Sent}
use Rattle.sas_token.proofs.ReadingLemmas.{token_complete, token_sound}
use Rattle.shared_key.specs.Authorizations.{Claim}
use Rattle.access_rules.specs.declared.keys.Keys.{Keys}
use Rattle.access_rules.specs.Parts.{claim_in, keys_for, string_of, is_signed}
use Rattle.access_rules.specs.Rules.{has_false_signature, some_passes}
use Rattle.access_rules.specs.Signatures.{has_true_signature, IsKeySigned, IsTokenSigned, IsSigned}
use Rattle.access_rules.specs.TokenParts.{token_in, names_resource, text_of}
use Rattle.access_rules.proofs.ClaimLemmas.{claimed, claims}
use Rattle.access_rules.proofs.KeyLemmas.{either, of_either}
use Rattle.access_rules.proofs.RouteLaw.{asking}
use Rattle.access_rules.proofs.TokenLemmas.{container_named, blob_named}
use Rattle.access_rules.proofs.TokenRouteLaw.{names_if}

-- ---- a signature that is true is not false

or_false : (b : Bool) → (b || false) ≡ b
or_false true = refl
or_false false = refl

one : (b : Bool) → b ≡ true → not b ≡ false
one true h = refl
one false h = cc

claim_not : (claim : Option Claim) (pair : Option Keys) (signs : Keys → Claim → Bool) → some_passes (λ c. some_passes (λ p. signs p c) pair) claim ≡ true
    → some_passes (λ c. some_passes (λ p. not (signs p c)) pair) claim ≡ false
claim_not None pair signs h = refl
claim_not (Some c) None signs h = refl
claim_not (Some c) (Some p) signs h = one (signs p c) h

token_not : (token : Option Sent) (names : Sent → Bool) (pair : Option Keys) (signs : Keys → Sent → Bool) → some_passes (λ s. names s && some_passes (λ p. signs p s) pair) token ≡ true
    → some_passes (λ s. names s && some_passes (λ p. not (signs p s)) pair) token ≡ false
token_not None names pair signs h = refl
token_not (Some s) names None signs h = none (names s)
  where
    none : (b : Bool) → (b && false) ≡ false
    none true = refl
    none false = refl
token_not (Some s) names (Some p) signs h = both (names s) (signs p s) h
  where
    both : (a b : Bool) → (a && b) ≡ true → (a && not b) ≡ false
    both true b h = one b h
    both false b h = refl

by_credential : (keys : Option Keys) (q : Ask) (credential : Credential) → has_true_signature keys (asking q credential) ≡ true → has_false_signature keys (asking q credential) ≡ false
by_credential keys q (Shared values) h =
    or_false _ ∙ claim_not (claim_in values) (keys_for keys q.key.account) (λ p c. is_signed p (string_of (asking q (Shared values))) c.signature) (sym (or_false _) ∙ h)
by_credential keys q Token h =
    token_not (token_in q) (λ s. names_resource q s.resource) (keys_for keys q.key.account) (λ p s. is_signed p (text_of q s) s.signature) h
by_credential keys q Anonymous h = cc

-- a signature that is true is not false
pub true_not_false : (keys : Option Keys) (q : Ask) → has_true_signature keys q ≡ true → has_false_signature keys q ≡ false
true_not_false keys q h = by_credential keys q q.credential h

-- ---- what it says

some_claim : (claim : Option Claim) (signs : Claim → Bool) → some_passes signs claim ≡ true → (c : Claim) × (claim ≡ Some c) × (signs c ≡ true)
some_claim None signs h = cc
some_claim (Some c) signs h = (c, refl, h)

some_token : (token : Option Sent) (signs : Sent → Bool) → some_passes signs token ≡ true → (s : Sent) × (token ≡ Some s) × (signs s ≡ true)
some_token None signs h = cc
some_token (Some s) signs h = (s, refl, h)

own_pair : (pair : Keys) (own : Bool) (signs : Keys → Bool) → some_passes signs (cond own (Some pair) None) ≡ true → (own ≡ true) × (signs pair ≡ true)
own_pair pair true signs h = (refl, h)
own_pair pair false signs h = cc

two : (a b : Bool) → (a && b) ≡ true → (a ≡ true) × (b ≡ true)
two true b h = (refl, h)
two false b h = cc

key_words : (pair : Keys) (q : Ask) (values : List (List ℕ)) → q.credential ≡ Shared values
    → some_passes (λ c. some_passes (λ p. is_signed p (string_of q) c.signature) (keys_for (Some pair) q.key.account)) (claim_in values) ≡ true → IsKeySigned pair q
key_words pair q values asks h =
    let own = some_claim (claim_in values) (λ c. some_passes (λ p. is_signed p (string_of q) c.signature) (keys_for (Some pair) q.key.account)) h in
    let has = own_pair pair (bytes_eq pair.account q.key.account) (λ p. is_signed p (string_of q) own.0.signature) own.2 in
    let given = claimed values own.0 own.1 in
    record {
      value = given.0;
      once = asks ∙ ap Shared given.1;
      claim = own.0;
      reads = given.2;
      known = (bytes_eq-Decides pair.account q.key.account).0 has.0;
      signed = either own.0.signature (signature_of pair.first (string_of q)) (signature_of pair.second (string_of q)) has.1;
    }

token_words : (pair : Keys) (q : Ask) → q.credential ≡ Token
    → some_passes (λ s. names_resource q s.resource && some_passes (λ p. is_signed p (text_of q s) s.signature) (keys_for (Some pair) q.key.account)) (token_in q) ≡ true → IsTokenSigned pair q
token_words pair q asks h =
    let own = some_token (token_in q) (λ s. names_resource q s.resource && some_passes (λ p. is_signed p (text_of q s) s.signature) (keys_for (Some pair) q.key.account)) h in
    let parts = two (names_resource q own.0.resource) (some_passes (λ p. is_signed p (text_of q own.0) own.0.signature) (keys_for (Some pair) q.key.account)) own.2 in
    let has = own_pair pair (bytes_eq pair.account q.key.account) (λ p. is_signed p (text_of q own.0) own.0.signature) parts.1 in
    record {
      asks = asks;
      token = own.0;
      reads = token_sound q.signing.query own.0 own.1;
      known = (bytes_eq-Decides pair.account q.key.account).0 has.0;
      container = container_named q own.0.resource parts.0;
      blob = blob_named q own.0.resource parts.0;
      signed = either own.0.signature (signature_of pair.first (text_of q own.0)) (signature_of pair.second (text_of q own.0)) has.1;
    }

-- and back
pair_again : (pair : Keys) (own : Bool) (signs : Keys → Bool) → own ≡ true → signs pair ≡ true → some_passes signs (cond own (Some pair) None) ≡ true
pair_again pair own signs is h = ap (λ b. some_passes signs (cond b (Some pair) None)) is ∙ h

key_tests : (pair : Keys) (q : Ask) (values : List (List ℕ)) → q.credential ≡ Shared values → IsKeySigned pair q
    → some_passes (λ c. some_passes (λ p. is_signed p (string_of q) c.signature) (keys_for (Some pair) q.key.account)) (claim_in values) ≡ true
key_tests pair q values asks s =
    let same : values ≡ s.value ∷ [] = let e : Shared values ≡ Shared (s.value ∷ []) = sym asks ∙ s.once in cc in
    ap (some_passes (λ c. some_passes (λ p. is_signed p (string_of q) c.signature) (keys_for (Some pair) q.key.account))) (claims values s.value s.claim same s.reads)
    ∙ pair_again pair (bytes_eq pair.account q.key.account) (λ p. is_signed p (string_of q) s.claim.signature) ((bytes_eq-Decides pair.account q.key.account).1 s.known)
    (of_either s.claim.signature (signature_of pair.first (string_of q)) (signature_of pair.second (string_of q)) s.signed)

token_tests : (pair : Keys) (q : Ask) → IsTokenSigned pair q
    → some_passes (λ s. names_resource q s.resource && some_passes (λ p. is_signed p (text_of q s) s.signature) (keys_for (Some pair) q.key.account)) (token_in q) ≡ true
token_tests pair q s =
    ap (some_passes (λ s. names_resource q s.resource && some_passes (λ p. is_signed p (text_of q s) s.signature) (keys_for (Some pair) q.key.account))) (token_complete q.signing.query s.token s.reads)
    ∙ ap (λ b. b && some_passes (λ p. is_signed p (text_of q s.token) s.token.signature) (keys_for (Some pair) q.key.account)) (names_if q s.token.resource s.container s.blob)
    ∙ pair_again pair (bytes_eq pair.account q.key.account) (λ p. is_signed p (text_of q s.token) s.token.signature) ((bytes_eq-Decides pair.account q.key.account).1 s.known)
    (of_either s.token.signature (signature_of pair.first (text_of q s.token)) (signature_of pair.second (text_of q s.token)) s.signed)

signed_words : (pair : Keys) (q : Ask) (credential : Credential) → has_true_signature (Some pair) (asking q credential) ≡ true → IsSigned pair (asking q credential)
signed_words pair q (Shared values) h = inl (key_words pair (asking q (Shared values)) values refl (sym (or_false _) ∙ h))
signed_words pair q Token h = inr (token_words pair (asking q Token) refl h)
signed_words pair q Anonymous h = cc

signed_tests : (pair : Keys) (q : Ask) (credential : Credential) → IsSigned pair (asking q credential) → has_true_signature (Some pair) (asking q credential) ≡ true
signed_tests pair q (Shared values) (inl s) = or_false _ ∙ key_tests pair (asking q (Shared values)) values refl s
signed_tests pair q (Shared values) (inr s) = let e : Shared values ≡ Token = s.asks in cc
signed_tests pair q Token (inl s) = let e : Token ≡ Shared (s.value ∷ []) = s.once in cc
signed_tests pair q Token (inr s) = token_tests pair (asking q Token) s
signed_tests pair q Anonymous (inl s) = let e : Anonymous ≡ Shared (s.value ∷ []) = s.once in cc
signed_tests pair q Anonymous (inr s) = let e : Anonymous ≡ Token = s.asks in cc

-- the test is true exactly if the signature part of the request's route is true
pub signed_is : (pair : Keys) (q : Ask) → (has_true_signature (Some pair) q ≡ true) ↔ IsSigned pair q
signed_is pair q = (signed_words pair q q.credential, signed_tests pair q q.credential)
