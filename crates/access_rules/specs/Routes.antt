-- Who may do what, as each route says it (Blob service REST reference, 2012-02-12, Authentication for the Azure Storage
-- Services: by an account's key; Delegating Access with a Shared Access Signature: by a token; Set Container ACL: by public access).
use Rattle.std.specs.Prelude.{◌≡◌, ◌≢◌, ℕ, ◌≤◌, ◌<◌, List, [], ◌∷◌, Option, Some, None, Ok, ◌⊎◌, IfSome, IsSome, IsTrue}
use Rattle.stamp_values.specs.declared.acl.Acl.{Acl}
use Rattle.stamp_values.specs.declared.level.Level.{Level}
use Rattle.stamp_values.specs.declared.signing.Credential.{Credential}
use Rattle.stamp_values.specs.declared.signing.Credential.TheVariants.{Shared, Token, Anonymous}
use Rattle.stamp_values.specs.Levels.{level_number}
use Rattle.stamp_values.specs.declared.policy.Policy.{Policy}
use Rattle.stamp_types.specs.declared.ask.Ask.{Ask}
use Rattle.sas_token.specs.Tokens.{Sent, IsToken}
use Rattle.sas_token.specs.declared.token.Resource.TheVariants.{Blob}
use Rattle.container_acl.specs.JoinedFields.{policy_with, HaveOneGiver}
use Rattle.container_acl.specs.declared.fields.Fields.{Fields}
use Rattle.hmac_sign.specs.Signature.{signature_of}
use Rattle.moment_text.specs.Http.{http_moment}
use Rattle.shared_key.specs.Authorizations.{Claim, Authorizes}
use Rattle.access_rules.specs.declared.keys.Keys.{Keys}
use Rattle.access_rules.specs.declared.needs.Letter.{Letter}
use Rattle.access_rules.specs.Dates.{AreWithin, IsDateText}
use Rattle.access_rules.specs.Needs.{need_of}
use Rattle.access_rules.specs.Parts.{string_of}
use Rattle.access_rules.specs.TokenParts.{text_of, allows}

-- Authorization was sent once and claims the path's account; the stamp has the keys of this account; the date of the request
-- is at most 900 seconds before or after the moment; and one of the two keys gives the signature
pub record ByKey (keys : Option Keys) (q : Ask) (t : ℕ) : Type 0 where
  pub value : List ℕ
  pub once : q.credential ≡ Shared (value ∷ [])
  pub claim : Claim
  pub reads : Authorizes value claim
  pub own : claim.account ≡ q.key.account
  pub pair : Keys
  pub given : keys ≡ Some pair
  pub known : pair.account ≡ q.key.account
  pub text : List ℕ
  pub dated : IsDateText q.signing.headers text
  pub date : ℕ
  pub names : http_moment text ≡ Ok date
  pub near : AreWithin 900 t date
  pub signed : (claim.signature ≡ signature_of pair.first (string_of q))
      ⊎ (claim.signature ≡ signature_of pair.second (string_of q))

-- if the token names a policy, it is this policy of the container, which exists; a token without an id names no policy
abbrev pub NamesPolicy : Option Acl → Sent → Option Policy → Type 0
NamesPolicy acl token None = token.id ≡ []
NamesPolicy acl token (Some policy) = (token.id ≢ []) × ((has : Acl) × (acl ≡ Some has) × (policy_with has token.id ≡ Some policy))

-- The query is a token; the stamp has the keys of the path's account; the request names a container, and a blob if the token is for a
-- blob; one of the two keys gives the signature; if the token names a policy, the container has it; permissions, start and expiry are
-- each given by the token or by the policy and never by both; the start, if there is one, is not after the moment; the moment is
-- before the expiry; the letter that the operation needs is among the permissions.
pub record ByToken (keys : Option Keys) (acl : Option Acl) (q : Ask) (t : ℕ) : Type 0 where
  pub token : Sent
  pub reads : IsToken q.signing.query token
  pub pair : Keys
  pub given : keys ≡ Some pair
  pub known : pair.account ≡ q.key.account
  pub container : q.key.container ≢ []
  pub blob : token.resource ≡ Blob → IsSome q.blob
  pub signed : (token.signature ≡ signature_of pair.first (text_of q token)) ⊎ (token.signature ≡ signature_of pair.second (text_of q token))
  pub policy : Option Policy
  pub named : NamesPolicy acl token policy
  pub fields : Fields
  pub once : HaveOneGiver token policy fields
  pub started : IfSome fields.start (λ start. start ≤ t)
  pub not_over : t < fields.expiry
  pub letter : Letter
  pub needed : (need_of q.op q.args.kinds).letter ≡ Some letter
  pub allowed : IsTrue (allows letter fields.letters)

-- public access of a level is enough for the operation, and the container exists and has this level or a higher level
pub record ByPublic (acl : Option Acl) (q : Ask) : Type 0 where
  pub need : Level
  pub needed : (need_of q.op q.args.kinds).level ≡ Some need
  pub has : Acl
  pub exists : acl ≡ Some has
  pub enough : level_number need ≤ level_number has.level

-- the route of this credential admits the request
abbrev pub Admits : Option Keys → Option Acl → Credential → Ask → ℕ → Type 0
Admits keys acl (Shared values) q t = ByKey keys q t
Admits keys acl Token q t = ByToken keys acl q t
Admits keys acl Anonymous q t = ByPublic acl q
