-- The body of Set Container ACL (Blob service REST reference, 2012-02-12, Set Container ACL): SignedIdentifiers round any number of
-- SignedIdentifier, each with an Id and at most one AccessPolicy, which has a Start, an Expiry and a Permission, each at most once.
use Rattle.std.specs.Prelude.{ℕ, Bool, true, false, if◌then◌else◌, List, [], ◌∷◌, Option, Some, None, option_map, option_and_then, codes, ◌≡◌}
use Rattle.body_forms.specs.declared.access_policy.Field.{Field}
use Rattle.body_forms.specs.declared.access_policy.Field.TheVariants.{Start, Expiry, Permission}
use Rattle.xml_text.specs.Bodies.{IsBody}
use Rattle.xml_text.specs.Texts.{Token}
use Rattle.xml_text.specs.Elements.{IsTextElement, IsElementOf, IsRoot}

-- the name of the root
abbrev pub policies_name : List ℕ
policies_name = codes "SignedIdentifiers"

-- the name of a policy's element
abbrev pub policy_name : List ℕ
policy_name = codes "SignedIdentifier"

-- the name of the element that has a policy's id
abbrev pub id_name : List ℕ
id_name = codes "Id"

-- the name of the element that has a policy's start, expiry and permissions
abbrev pub access_name : List ℕ
access_name = codes "AccessPolicy"

-- the name of a field's element
abbrev pub field_name : Field → List ℕ
field_name Start = codes "Start"
field_name Expiry = codes "Expiry"
field_name Permission = codes "Permission"

-- there is no element
abbrev pub is_nil : {A : Type 0} → List A → Bool
is_nil [] = true
is_nil (a ∷ more) = false

-- the one value, or `absent` if there is no value; nothing if there are more values
abbrev pub at_most_one : {A : Type 0} → A → List A → Option A
at_most_one absent [] = Some absent
at_most_one absent (a ∷ []) = Some a
at_most_one absent (a ∷ b ∷ more) = None

-- the one value; nothing if there is no value or if there are more values
abbrev pub exactly_one : {A : Type 0} → List A → Option A
exactly_one [] = None
exactly_one (a ∷ []) = Some a
exactly_one (a ∷ b ∷ more) = None

-- ---- AccessPolicy

-- a field and its text
pub record Given : Type 0 where
  pub field : Field
  pub value : List ℕ

-- the tokens are the element of a field
abbrev pub IsGiven : Given → List Token → Type 0
IsGiven g tokens = IsTextElement (field_name g.field) g.value tokens

-- whether two fields are the same
abbrev pub is_field : Field → Field → Bool
is_field Start Start = true
is_field Start Expiry = false
is_field Start Permission = false
is_field Expiry Start = false
is_field Expiry Expiry = true
is_field Expiry Permission = false
is_field Permission Start = false
is_field Permission Expiry = false
is_field Permission Permission = true

-- the texts of this field
unfoldable pub values : Field → List Given → List (List ℕ)
values field [] = []
values field (g ∷ gs) = if is_field g.field field then g.value ∷ values field gs else values field gs

-- the texts of the three fields; the text is empty if the field is absent
pub record Access : Type 0 where
  pub start : List ℕ
  pub expiry : List ℕ
  pub permission : List ℕ

-- what the fields give, if no field is given twice
unfoldable pub access_of : List Given → Option Access
access_of gs =
    option_and_then (λ start.
    option_and_then (λ expiry.
    option_map (λ permission. record { start = start; expiry = expiry; permission = permission })
    (at_most_one [] (values Permission gs)))
    (at_most_one [] (values Expiry gs)))
    (at_most_one [] (values Start gs))

-- the tokens are an AccessPolicy with these texts
abbrev pub IsAccess : Access → List Token → Type 0
IsAccess a tokens = (gs : List Given) × IsElementOf access_name IsGiven gs tokens × (access_of gs ≡ Some a)

-- ---- SignedIdentifier

-- an element inside a policy's element: its id, or what it gives
pub data Part : Type 0 where
  id : List ℕ → Part
  access : Access → Part

-- the tokens are this part
abbrev pub IsPart : Part → List Token → Type 0
IsPart (id t) tokens = IsTextElement id_name t tokens
IsPart (access a) tokens = IsAccess a tokens

-- the ids among the parts
unfoldable pub ids : List Part → List (List ℕ)
ids [] = []
ids (id t ∷ parts) = t ∷ ids parts
ids (access a ∷ parts) = ids parts

-- what is given among the parts
unfoldable pub accesses : List Part → List Access
accesses [] = []
accesses (id t ∷ parts) = accesses parts
accesses (access a ∷ parts) = a ∷ accesses parts

-- no field
abbrev pub no_access : Access
no_access = record { start = []; expiry = []; permission = [] }

-- a policy as it was sent, by its texts
pub record Sent : Type 0 where
  pub id_text : List ℕ
  pub given : Access

-- the policy of these parts, if it has one id and at most one AccessPolicy
unfoldable pub sent_of : List Part → Option Sent
sent_of parts =
    option_and_then (λ t. option_map (λ a. record { id_text = t; given = a }) (at_most_one no_access (accesses parts)))
    (exactly_one (ids parts))

-- the tokens are a policy's element
abbrev pub IsSent : Sent → List Token → Type 0
IsSent p tokens = (parts : List Part) × IsElementOf policy_name IsPart parts tokens × (sent_of parts ≡ Some p)

-- ---- SignedIdentifiers

-- the tokens are a list of these policies
abbrev pub AreSent : List Sent → List Token → Type 0
AreSent ps tokens = IsElementOf policies_name IsSent ps tokens

-- the text is a list of these policies, with white space alone before and after the root
abbrev pub AreSentText : List ℕ → List Sent → Type 0
AreSentText s ps = IsRoot (AreSent ps) s

-- the body is a list of these policies
abbrev pub ArePoliciesBody : List ℕ → List Sent → Type 0
ArePoliciesBody body policies = IsBody (λ rest. AreSentText rest policies) body
