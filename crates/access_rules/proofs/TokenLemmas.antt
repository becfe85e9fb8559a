-- The rules of the signature route in their order, and what a request names.
use Rattle.std.proofs.Common.{◌≡◌, ◌≢◌, ℕ, Bool, true, false, cond, not, ◌&&◌, ◌||◌, List, [], ◌∷◌, Option, Some, None, Err, refl, sym, ap, ◌∙◌, nat_le, nat_lt, subst, is_none, is_some}
use Rattle.std.specs.Prelude.{IsSome}
use Rattle.stamp_values.specs.Letters.{Permissions}
use Rattle.stamp_values.specs.declared.acl.Acl.{Acl}
use Rattle.stamp_values.specs.declared.policy.Policy.{Policy}
use Rattle.stamp_values.specs.declared.signing.Credential.{Credential}
use Rattle.stamp_values.specs.declared.signing.Credential.TheVariants.{Token}
use Rattle.stamp_types.specs.declared.ask.Ask.{Ask}
use Rattle.stamp_types.specs.declared.rule.Rule.{Rule}
use Rattle.stamp_types.specs.declared.rule.Rule.TheVariants.{S1, S2, S3, S4, S5, S6, S7, S8, S9, S10, S11}
use Rattle.sas_token.specs.Tokens.{Sent}
use Rattle.sas_token.specs.declared.token.Resource.{Resource}
use Rattle.sas_token.specs.declared.token.Resource.TheVariants.{Container, Blob}
use Rattle.container_acl.specs.JoinedFields.{acl_or_closed, policy_of, start_of, expiry_of, letters_of, both_give, neither_gives, names_unknown_policy, gives_twice, lacks_field, joined, whole, with_policy}
use Rattle.container_acl.specs.declared.fields.FieldFault.TheVariants.{Absent, Both}
use Rattle.access_rules.specs.declared.keys.Keys.{Keys}
use Rattle.access_rules.specs.declared.needs.Letter.{Letter}
use Rattle.access_rules.specs.Needs.{need_of}
use Rattle.access_rules.specs.Parts.{keys_for, is_signed}
use Rattle.access_rules.specs.Rules.{first_rule, on_token, some_passes, token_asked}
use Rattle.access_rules.specs.TokenParts.{token_in, is_named, names_resource, text_of, given_once, allows}
use Rattle.access_rules.specs.TokenRoute.{rule_of_given, token_rule}

-- ---- what a request names

named_is : (name : List ℕ) → is_named name ≡ true → name ≢ []
named_is [] h = cc
named_is (b ∷ bs) h = λ e. cc

named_parts : (q : Ask) (r : Resource) → names_resource q r ≡ true → is_named q.key.container ≡ true
named_parts q Container h = h
named_parts q Blob h = both (is_named q.key.container) (is_some q.blob) h
  where
    both : (a b : Bool) → (a && b) ≡ true → a ≡ true
    both true b h = refl
    both false b h = cc

-- a request that names what a token is for names a container
pub container_named : (q : Ask) (r : Resource) → names_resource q r ≡ true → q.key.container ≢ []
container_named q r h = named_is q.key.container (named_parts q r h)

-- it names a blob, if the token is for a blob
pub blob_named : (q : Ask) (r : Resource) → names_resource q r ≡ true → r ≡ Blob → IsSome q.blob
blob_named q Container h is = cc
blob_named q Blob h is = second (is_named q.key.container) q.blob h
  where
    second : {A : Type 0} (a : Bool) (o : Option A) → (a && is_some o) ≡ true → IsSome o
    second true (Some x) h = refl
    second true None h = cc
    second false o h = cc

-- ---- fields

-- a field that is not given twice is joined as it is given
once_joined : {A : Type 0} (own stored : Option A) → both_give own stored ≡ false → given_once own stored ≡ joined own stored
once_joined None stored once = refl
once_joined (Some own) None once = refl
once_joined (Some own) (Some stored) once = cc

neither_joined : {A : Type 0} (own stored : Option A) → neither_gives own stored ≡ is_none (joined own stored)
neither_joined None stored = refl
neither_joined (Some own) stored = refl

-- none of three holds
none_of : (a b c : Bool) → (a || b || c) ≡ false → (a ≡ false) × (b ≡ false) × (c ≡ false)
none_of false false false e = (refl, refl, refl)
none_of false false true e = cc
none_of false true c e = cc
none_of true b c e = cc

-- the rules on fields, from the fields as they are joined
abbrev fields_tail : Option Letter → ℕ → Option ℕ → Option ℕ → Option Permissions → Bool → Option Rule
fields_tail letter t start expiry letters lacks =
    cond lacks (Some S7)
    (cond (some_passes (nat_lt t) start) (Some S8)
    (cond (some_passes (λ e. nat_le e t) expiry) (Some S9)
    (cond (is_none letter) (Some S10)
    (cond (some_passes (λ l. some_passes (λ p. not (allows l p)) letters) letter) (Some S11) None))))

tail_is : (letter : Option Letter) (t : ℕ) (start expiry : Option ℕ) (letters : Option Permissions)
    → fields_tail letter t start expiry letters (is_none expiry || is_none letters) ≡ rule_of_given letter t (whole start expiry letters)
tail_is letter t start (Some e) (Some l) = refl
tail_is letter t start (Some e) None = refl
tail_is letter t start None letters = refl

-- the rules on what token and policy give, in their order
abbrev given_tail : Option Letter → ℕ → Sent → Option Policy → Bool → Option Rule
given_tail letter t token policy unknown =
    cond unknown (Some S5)
    (cond (not unknown && gives_twice token policy) (Some S6)
    (cond (not unknown && lacks_field token policy) (Some S7)
    (cond (not unknown && some_passes (nat_lt t) (given_once token.start (start_of policy))) (Some S8)
    (cond (not unknown && some_passes (λ e. nat_le e t) (given_once token.expiry (expiry_of policy))) (Some S9)
    (cond (is_none letter) (Some S10)
    (cond (not unknown && some_passes (λ l. some_passes (λ p. not (allows l p)) (given_once token.letters (letters_of policy))) letter) (Some S11) None))))))

module _ (letter : Option Letter) (t : ℕ) (token : Sent) (policy : Option Policy) where
  by_twice : (twice : Bool) → gives_twice token policy ≡ twice
      → cond twice (Some S6) (fields_tail letter t (given_once token.start (start_of policy)) (given_once token.expiry (expiry_of policy)) (given_once token.letters (letters_of policy)) (lacks_field token policy))
      ≡ rule_of_given letter t (cond twice (Err Both) (whole (joined token.start (start_of policy)) (joined token.expiry (expiry_of policy)) (joined token.letters (letters_of policy))))
  by_twice true is = refl
  by_twice false is =
      let once = none_of (both_give token.start (start_of policy)) (both_give token.expiry (expiry_of policy)) (both_give token.letters (letters_of policy)) is in
      (λ i. fields_tail letter t (once_joined token.start (start_of policy) once.0 i) (once_joined token.expiry (expiry_of policy) once.1 i) (once_joined token.letters (letters_of policy) once.2 i)
      (neither_joined token.expiry (expiry_of policy) i || neither_joined token.letters (letters_of policy) i))
      ∙ tail_is letter t (joined token.start (start_of policy)) (joined token.expiry (expiry_of policy)) (joined token.letters (letters_of policy))

  by_unknown : (unknown : Bool) → given_tail letter t token policy unknown ≡ rule_of_given letter t (cond unknown (Err Absent) (with_policy token policy))
  by_unknown true = refl
  by_unknown false = by_twice (gives_twice token policy) refl

-- ---- the order of the rules

-- the resource is judged before the signature
named_first : (names false_one : Bool) (rest : Option Rule) → cond (not names) (Some S3) (cond (names && false_one) (Some S4) rest) ≡ cond (not names) (Some S3) (cond false_one (Some S4) rest)
named_first true false_one rest = refl
named_first false false_one rest = refl

-- a request as it is, but for its credential, which is a token
abbrev by_its_token : Ask → Ask
by_its_token q = record q { credential = Token }

module _ (keys : Option Keys) (acl : Option Acl) (q : Ask) (t : ℕ) where
  abbrev needed : Option Letter
  needed = (need_of q.op q.args.kinds).letter

  abbrev false_one : Sent → Bool
  false_one token = some_passes (λ pair. not (is_signed pair (text_of q token) token.signature)) (keys_for keys q.key.account)

  -- the rules of the route, over the token that the query is
  abbrev route_rule : Option Sent → Option Rule
  route_rule token =
      cond (is_none token) (Some S1)
      (cond (some_passes (λ token. is_none (keys_for keys q.key.account)) token) (Some S2)
      (cond (some_passes (λ token. not (names_resource q token.resource)) token) (Some S3)
      (cond (some_passes (λ token. names_resource q token.resource && false_one token) token) (Some S4)
      (cond (some_passes (names_unknown_policy (acl_or_closed acl)) token) (Some S5)
      (cond (some_passes (λ token. not (names_unknown_policy (acl_or_closed acl) token) && gives_twice token (policy_of (acl_or_closed acl) token)) token) (Some S6)
      (cond (some_passes (λ token. not (names_unknown_policy (acl_or_closed acl) token) && lacks_field token (policy_of (acl_or_closed acl) token)) token) (Some S7)
      (cond (some_passes (λ token. not (names_unknown_policy (acl_or_closed acl) token) && some_passes (nat_lt t) (given_once token.start (start_of (policy_of (acl_or_closed acl) token)))) token) (Some S8)
      (cond (some_passes (λ token. not (names_unknown_policy (acl_or_closed acl) token) && some_passes (λ e. nat_le e t) (given_once token.expiry (expiry_of (policy_of (acl_or_closed acl) token)))) token) (Some S9)
      (cond (some_passes (λ token. is_none needed) token) (Some S10)
      (cond (some_passes (λ token. not (names_unknown_policy (acl_or_closed acl) token) && some_passes (λ l. some_passes (λ p. not (allows l p)) (given_once token.letters (letters_of (policy_of (acl_or_closed acl) token)))) needed) token) (Some S11) None))))))))))

  route_is : (token : Option Sent) → route_rule token ≡ token_rule keys acl q t token
  route_is None = refl
  route_is (Some token) =
      ap (λ rest. cond (is_none (keys_for keys q.key.account)) (Some S2) rest)
      (named_first (names_resource q token.resource) (false_one token) _
      ∙ ap (λ rest. cond (not (names_resource q token.resource)) (Some S3) (cond (false_one token) (Some S4) rest))
      (by_unknown needed t token (policy_of (acl_or_closed acl) token) (names_unknown_policy (acl_or_closed acl) token)))

  first_of_route : first_rule keys acl (by_its_token q) t ≡ route_rule (token_in q)
  first_of_route = refl

-- the first rule that holds of a request that asks by a token
pub first_token_rule : (keys : Option Keys) (acl : Option Acl) (q : Ask) (t : ℕ) → q.credential ≡ Token → first_rule keys acl q t ≡ token_rule keys acl q t (token_in q)
first_token_rule keys acl q t is =
    subst (λ (c : Credential). first_rule keys acl (record q { credential = c }) t ≡ token_rule keys acl q t (token_in q)) (sym is)
    (first_of_route keys acl q t ∙ route_is keys acl q t (token_in q))

-- the token by which a request asks is the token that its query is, if it asks by a token
pub asked_by_token : (q : Ask) → q.credential ≡ Token → token_asked q ≡ token_in q
asked_by_token q is = ap (λ (c : Credential). cond (on_token c) (token_in q) None) is
