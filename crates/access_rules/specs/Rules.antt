-- The rules of permission, each by itself, and the first rule that holds (Blob service REST reference, 2012-02-12,
-- Authentication for the Azure Storage Services; Delegating Access with a Shared Access Signature; Set Container ACL). Which rules
-- there are, and their order, is the stamp's own.
use Rattle.std.specs.Prelude.{ℕ, Bool, true, false, cond, not, ◌&&◌, ◌||◌, List, [], ◌∷◌, Option, Some, None, is_none, is_some, nat_le, nat_lt, bytes_eq, find}
use Rattle.stamp_values.specs.declared.level.Level.{Level}
use Rattle.stamp_values.specs.declared.acl.Acl.{Acl}
use Rattle.stamp_values.specs.declared.signing.Credential.{Credential}
use Rattle.stamp_values.specs.declared.signing.Credential.TheVariants as credential
use Rattle.stamp_values.specs.declared.policy.Policy.{Policy}
use Rattle.stamp_types.specs.declared.ask.Ask.{Ask}
use Rattle.stamp_types.specs.declared.rule.Rule.{Rule}
use Rattle.stamp_types.specs.declared.rule.Rule.TheVariants.{K1, K2, K3, K4, K5, S1, S2, S3, S4, S5, S6, S7, S8, S9, S10, S11, P1, P2}
use Rattle.sas_token.specs.Tokens.{Sent}
use Rattle.container_acl.specs.JoinedFields.{acl_or_closed, policy_of, start_of, expiry_of, letters_of, names_unknown_policy, gives_twice, lacks_field}
use Rattle.container_acl.specs.PublicAccess.{permits}
use Rattle.access_rules.specs.declared.judgement.Verdict.{Verdict}
use Rattle.access_rules.specs.declared.judgement.Verdict.TheVariants.{Allow, Deny}
use Rattle.access_rules.specs.declared.judgement.Way.{Way}
use Rattle.access_rules.specs.declared.judgement.Way.TheVariants as way
use Rattle.access_rules.specs.declared.keys.Keys.{Keys}
use Rattle.access_rules.specs.Needs.{need_of}
use Rattle.access_rules.specs.Parts.{claim_of, keys_for, date_in, string_of, is_far, is_signed}
use Rattle.access_rules.specs.TokenParts.{token_in, names_resource, text_of, given_once, allows}

-- the request asks by the key of an account
abbrev pub on_key : Credential → Bool
on_key (credential.Shared values) = true
on_key credential.Token = false
on_key credential.Anonymous = false

-- the request asks by a shared access signature
abbrev pub on_token : Credential → Bool
on_token (credential.Shared values) = false
on_token credential.Token = true
on_token credential.Anonymous = false

-- the token by which the request asks: nothing, if it asks by another route, or if its query is not a token
abbrev pub token_asked : Ask → Option Sent
token_asked q = cond (on_token q.credential) (token_in q) None

-- the request asks by public access
abbrev pub on_public : Credential → Bool
on_public (credential.Shared values) = false
on_public credential.Token = false
on_public credential.Anonymous = true

-- the option has a value, and the value passes the test
abbrev pub some_passes : {A : Type 0} → (A → Bool) → Option A → Bool
some_passes test None = false
some_passes test (Some part) = test part

-- the container allows less than the level, or it does not exist
abbrev pub allows_less : Option Acl → Level → Bool
allows_less None need = true
allows_less (Some acl) need = not (permits acl need)

-- the request asks by the key of an account, its claim can be read, the stamp has the keys of the path's account, and neither key
-- gives the signature
abbrev pub has_false_claim : Option Keys → Ask → Bool
has_false_claim keys q =
    on_key q.credential
    && some_passes
    (λ claim. some_passes (λ pair. not (is_signed pair (string_of q) claim.signature)) (keys_for keys q.key.account))
    (claim_of q.credential)

-- the request asks by a token, and this is true of the token
abbrev pub of_token : (Sent → Bool) → Ask → Bool
of_token test q = on_token q.credential && some_passes test (token_in q)

-- the request asks by a token that names no policy, or a policy that the container has, and this is true of the token and of the
-- policy
abbrev pub of_fields : (Sent → Option Policy → Bool) → Option Acl → Ask → Bool
of_fields test acl q =
    of_token (λ token. not (names_unknown_policy (acl_or_closed acl) token) && test token (policy_of (acl_or_closed acl) token)) q

-- the request asks by a token for what it names, the stamp has the keys of the path's account, and neither key gives the signature
abbrev pub has_false_token : Option Keys → Ask → Bool
has_false_token keys q =
    of_token (λ token.
    names_resource q token.resource
    && some_passes (λ pair. not (is_signed pair (text_of q token) token.signature)) (keys_for keys q.key.account)) q

-- The signature that the request brings, by the key of an account or by a token, can be judged, and it is false. Keys and request
-- alone decide this: neither the container nor the moment matters.
abbrev pub has_false_signature : Option Keys → Ask → Bool
has_false_signature keys q = has_false_claim keys q || has_false_token keys q

-- there is a signature to judge: the claim or the token can be read, the token is for what the request names, and the stamp has the
-- keys of the path's account
abbrev pub has_signature : Option Keys → Ask → Bool
has_signature keys q =
    (is_some (claim_of q.credential) || of_token (λ token. names_resource q token.resource) q) && is_some (keys_for keys q.key.account)

-- the rule holds; a rule about a part that is missing does not hold
abbrev pub holds : Option Keys → Option Acl → Ask → ℕ → Rule → Bool
holds keys acl q t K1 = on_key q.credential && is_none (claim_of q.credential)
holds keys acl q t K2 =
    on_key q.credential
    && some_passes
    (λ claim. not (bytes_eq claim.account q.key.account) || is_none (keys_for keys q.key.account))
    (claim_of q.credential)
holds keys acl q t K3 = on_key q.credential && is_none (date_in q.signing.headers)
holds keys acl q t K4 = on_key q.credential && some_passes (is_far t) (date_in q.signing.headers)
holds keys acl q t K5 = has_false_claim keys q
holds keys acl q t S1 = on_token q.credential && is_none (token_in q)
holds keys acl q t S2 = of_token (λ token. is_none (keys_for keys q.key.account)) q
holds keys acl q t S3 = of_token (λ token. not (names_resource q token.resource)) q
holds keys acl q t S4 = has_false_token keys q
holds keys acl q t S5 = of_token (names_unknown_policy (acl_or_closed acl)) q
holds keys acl q t S6 = of_fields gives_twice acl q
holds keys acl q t S7 = of_fields lacks_field acl q
holds keys acl q t S8 = of_fields (λ token policy. some_passes (nat_lt t) (given_once token.start (start_of policy))) acl q
holds keys acl q t S9 =
    of_fields (λ token policy. some_passes (λ expiry. nat_le expiry t) (given_once token.expiry (expiry_of policy))) acl q
holds keys acl q t S10 = of_token (λ token. is_none (need_of q.op q.args.kinds).letter) q
holds keys acl q t S11 =
    of_fields (λ token policy.
    some_passes
    (λ letter. some_passes (λ permissions. not (allows letter permissions)) (given_once token.letters (letters_of policy)))
    (need_of q.op q.args.kinds).letter) acl q
holds keys acl q t P1 = on_public q.credential && is_none (need_of q.op q.args.kinds).level
holds keys acl q t P2 = on_public q.credential && some_passes (allows_less acl) (need_of q.op q.args.kinds).level
holds keys acl q t other = false

-- the rules of permission in their order
abbrev pub access_rules : List Rule
access_rules =
    K1 ∷ K2 ∷ K3 ∷ K4 ∷ K5 ∷ S1 ∷ S2 ∷ S3 ∷ S4 ∷ S5 ∷ S6 ∷ S7 ∷ S8 ∷ S9 ∷ S10 ∷ S11 ∷ P1 ∷ P2 ∷ []

-- the first rule that holds
abbrev pub first_rule : Option Keys → Option Acl → Ask → ℕ → Option Rule
first_rule keys acl q t = find (holds keys acl q t) access_rules

-- the rules of the key route and of the signature route that are judged before the signature is computed
abbrev pub rules_before_signature : List Rule
rules_before_signature = K1 ∷ K2 ∷ K3 ∷ K4 ∷ S1 ∷ S2 ∷ S3 ∷ []

-- the first of these rules that holds; none of them looks at the container
abbrev pub rule_before_signature : Option Keys → Ask → ℕ → Option Rule
rule_before_signature keys q t = find (holds keys None q t) rules_before_signature

-- the signature has to be computed: the request asks by a key or by a token, and no rule before the signature holds
abbrev pub needs_signature : Option Keys → Ask → ℕ → Bool
needs_signature keys q t = not (on_public q.credential) && is_none (rule_before_signature keys q t)

-- the route by which a request asks
abbrev pub way_of : Credential → Way
way_of (credential.Shared values) = way.Shared
way_of credential.Token = way.Token
way_of credential.Anonymous = way.Anonymous

-- the verdict: the first rule refuses the request; without a rule that refuses, the route allows it
abbrev pub verdict_by : Option Rule → Way → Verdict
verdict_by None way = Allow way
verdict_by (Some rule) way = Deny rule

-- the first rule that holds refuses the request; if no rule holds, the request is allowed by its route
abbrev pub verdict_of : Option Keys → Option Acl → Ask → ℕ → Verdict
verdict_of keys acl q t = verdict_by (first_rule keys acl q t) (way_of q.credential)
