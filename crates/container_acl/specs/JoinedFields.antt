-- What a token and the stored policy that it names give together (Blob service REST reference, 2012-02-12, Delegating Access with a
-- Shared Access Signature).
use Rattle.std.specs.Prelude.{◌≡◌, ◌⊎◌, ℕ, Bool, false, not, ◌&&◌, ◌||◌, is_some, is_none, if◌then◌else◌, List, [], Option, Some, None, bytes_eq, find, Result, Ok, Err}
use Rattle.std.specs.Option.{option_and_then}
use Rattle.stamp_values.specs.Acls.{closed_acl}
use Rattle.stamp_values.specs.Letters.{Permissions}
use Rattle.stamp_values.specs.declared.acl.Acl.{Acl}
use Rattle.stamp_values.specs.declared.policy.Policy.{Policy}
use Rattle.sas_token.specs.Tokens.{Sent}
use Rattle.container_acl.specs.declared.fields.Fields.{Fields}
use Rattle.container_acl.specs.declared.fields.FieldFault.{FieldFault}
use Rattle.container_acl.specs.declared.fields.FieldFault.TheVariants.{Absent, Both, Lacks}

-- what the container says; a container that does not exist says what a closed container says, and has no policies
abbrev pub acl_or_closed : Option Acl → Acl
acl_or_closed None = closed_acl
acl_or_closed (Some acl) = acl

-- the id of the policy has exactly these bytes
abbrev pub has_same_id : List ℕ → Policy → Bool
has_same_id id p = bytes_eq p.id id

-- the policy whose id has exactly these bytes
abbrev pub policy_with : Acl → List ℕ → Option Policy
policy_with acl id = find (has_same_id id) acl.policies

-- the policy of a token: the one that its id names. There is none if the token has no id, or if the container does not have the policy
abbrev pub policy_of : Acl → Sent → Option Policy
policy_of acl t = if bytes_eq t.id [] then None else policy_with acl t.id

-- the start that the policy gives, if there is a policy
abbrev pub start_of : Option Policy → Option ℕ
start_of policy = option_and_then (λ p. p.start) policy

-- the expiry that the policy gives, if there is a policy
abbrev pub expiry_of : Option Policy → Option ℕ
expiry_of policy = option_and_then (λ p. p.expiry) policy

-- the permissions that the policy gives, if there is a policy
abbrev pub letters_of : Option Policy → Option Permissions
letters_of policy = option_and_then (λ p. p.letters) policy

-- token and policy both give the field
abbrev pub both_give : {A : Type 0} → Option A → Option A → Bool
both_give own stored = is_some own && is_some stored

-- neither token nor policy gives the field
abbrev pub neither_gives : {A : Type 0} → Option A → Option A → Bool
neither_gives own stored = is_none own && is_none stored

-- the token names a policy that the container does not have
abbrev pub names_unknown_policy : Acl → Sent → Bool
names_unknown_policy acl t = not (bytes_eq t.id []) && is_none (policy_with acl t.id)

-- token and policy both give the start, the expiry or the permissions
abbrev pub gives_twice : Sent → Option Policy → Bool
gives_twice t policy =
    both_give t.start (start_of policy) || both_give t.expiry (expiry_of policy) || both_give t.letters (letters_of policy)

-- neither token nor policy gives the expiry, or neither gives the permissions
abbrev pub lacks_field : Sent → Option Policy → Bool
lacks_field t policy = neither_gives t.expiry (expiry_of policy) || neither_gives t.letters (letters_of policy)

-- the cause of this fault exists
abbrev pub has_cause : FieldFault → Acl → Sent → Bool
has_cause Absent acl t = names_unknown_policy acl t
has_cause Both acl t = gives_twice t (policy_of acl t)
has_cause Lacks acl t = lacks_field t (policy_of acl t)

-- the cause of a fault that comes before this fault exists
abbrev pub has_earlier_cause : FieldFault → Acl → Sent → Bool
has_earlier_cause Absent acl t = false
has_earlier_cause Both acl t = has_cause Absent acl t
has_earlier_cause Lacks acl t = has_cause Absent acl t || has_cause Both acl t

-- what the token gives, or else what the policy gives
abbrev pub joined : {A : Type 0} → Option A → Option A → Option A
joined (Some own) stored = Some own
joined None stored = stored

-- the fields with this start: the expiry and the permissions have to be given
abbrev pub whole : Option ℕ → Option ℕ → Option Permissions → Result Fields FieldFault
whole start (Some e) (Some l) = Ok (record { start = start; expiry = e; letters = l })
whole start (Some e) None = Err Lacks
whole start None letters = Err Lacks

-- the fields of a token with its policy, or of a token without a policy
abbrev pub with_policy : Sent → Option Policy → Result Fields FieldFault
with_policy t policy =
    if gives_twice t policy then Err Both
    else whole (joined t.start (start_of policy)) (joined t.expiry (expiry_of policy)) (joined t.letters (letters_of policy))

-- the fields of a token in a container, or the first fault whose cause exists
abbrev pub fields_with : Acl → Sent → Result Fields FieldFault
fields_with acl t = if names_unknown_policy acl t then Err Absent else with_policy t (policy_of acl t)

-- the field is the token's own or the policy's own, and the other one does not give it
abbrev pub HasOneGiver : {A : Type 0} → Option A → Option A → Option A → Type 0
HasOneGiver own stored field = ((own ≡ field) × (stored ≡ None)) ⊎ ((own ≡ None) × (stored ≡ field))

-- each of the three fields is given by the token or by its policy, and not by both
pub record HaveOneGiver (t : Sent) (policy : Option Policy) (f : Fields) : Type 0 where
  pub start : HasOneGiver t.start (start_of policy) f.start
  pub expiry : HasOneGiver t.expiry (expiry_of policy) (Some f.expiry)
  pub letters : HasOneGiver t.letters (letters_of policy) (Some f.letters)
