-- The reading of stored policies as a function.
use Rattle.std.specs.Prelude.{ℕ, List, Option, Some, None, option_map, if◌then◌else◌, bytes_eq, codes}
use Rattle.body_forms.specs.declared.access_policy.Access as code_access
use Rattle.body_forms.specs.declared.access_policy.Field.{Field}
use Rattle.body_forms.specs.declared.access_policy.Field.TheVariants.{Start, Expiry, Permission}
use Rattle.body_forms.specs.declared.access_policy.Given as code_given
use Rattle.body_forms.specs.declared.sent_policies.Part as code_part
use Rattle.body_forms.specs.declared.sent_policies.Part.TheVariants as part
use Rattle.body_forms.specs.declared.sent_policies.Sent as code_sent
use Rattle.xml_text.specs.Tokens.{Tag}
use Rattle.body_forms.specs.Policies.{policies_name, policy_name, id_name, access_name, Given, Access, access_of, Part, id, access, Sent, sent_of}
use Rattle.xml_text.specs.FrontReading.{body_of}
use Rattle.xml_text.specs.Reading.{Read, ◌>>=◌}
use Rattle.xml_text.specs.ElementReading.{value_of, content_at, inner_at, made_at, root_of}

-- a field of the code, as a field
abbrev pub given_view : code_given.Given → Given
given_view g = record { field = g.field; value = value_of g.written.now }

-- what a policy of the code gives
abbrev pub access_view : code_access.Access → Access
access_view a =
    record { start = value_of a.start.now; expiry = value_of a.expiry.now; permission = value_of a.permission.now }

-- a part of the code, as a part
abbrev pub part_view : code_part.Part → Part
part_view (part.Id written) = id (value_of written.now)
part_view (part.Given a) = access (access_view a)

-- a policy of the code, as it was sent
abbrev pub sent_view : code_sent.Sent → Sent
sent_view p = record { id_text = value_of p.id.now; given = access_view p.given }

-- the field that an element of this name is
abbrev pub field_of : List ℕ → Option Field
field_of name =
    if bytes_eq name (codes "Start") then Some Start
    else if bytes_eq name (codes "Expiry") then Some Expiry
    else if bytes_eq name (codes "Permission") then Some Permission
    else None

-- the field that begins with this tag
unfoldable pub given_at : Tag → List ℕ → Read Given
given_at tag t =
    field_of tag.name
    >>= (λ field. option_map (λ x. (record { field = field; value = x.0 }, x.1)) (content_at tag.kind tag.name t))

-- the AccessPolicy that begins with this tag
unfoldable pub access_at : Tag → List ℕ → Read Access
access_at tag t = made_at access_of (inner_at access_name given_at tag t)

-- the part of a policy that begins with this tag
unfoldable pub part_at : Tag → List ℕ → Read Part
part_at tag t =
    if bytes_eq tag.name id_name then option_map (λ x. (id x.0, x.1)) (content_at tag.kind tag.name t)
    else option_map (λ a. (access a.0, a.1)) (access_at tag t)

-- the policy that begins with this tag
unfoldable pub sent_at : Tag → List ℕ → Read Sent
sent_at tag t = made_at sent_of (inner_at policy_name part_at tag t)

-- the policies of the list that the text is
abbrev pub policies_of : List ℕ → Option (List Sent)
policies_of t = root_of (inner_at policies_name sent_at) t

-- the policies of the list that the body is
abbrev pub body_policies : List ℕ → Option (List Sent)
body_policies body = body_of policies_of body
