-- What the texts of stored policies say, and which texts are bad (Blob service REST reference, 2012-02-12, Set Container ACL).
use Rattle.std.specs.Prelude.{◌≡◌, ◌≢◌, ◌⊎◌, ℕ, Bool, true, false, not, ◌&&◌, ◌||◌, if◌then◌else◌, nat_lt, List, [], ◌∷◌, length, map, Option, Some, None, is_none, Result, Ok, Err}
use Rattle.std.specs.List.{list_any}
use Rattle.stamp_values.specs.declared.policy.Policy.{Policy}
use Rattle.stamp_values.specs.Letters.{letters_of}
use Rattle.stamp_values.specs.Limits.{policies_limit}
use Rattle.stamp_values.specs.Names.{is_policy_id}
use Rattle.stamp_values.specs.Policies.{has_distinct_ids}
use Rattle.stamp_values.specs.Texts.{is_utf8}
use Rattle.moment_text.specs.declared.fault.TimeFault.{TimeFault}
use Rattle.moment_text.specs.IsoReader.{iso_moment}
use Rattle.body_forms.specs.declared.body_fault.BodyFault.{BodyFault}
use Rattle.body_forms.specs.declared.body_fault.BodyFault.TheVariants as fault
use Rattle.body_forms.specs.declared.policies.Values as code
use Rattle.body_forms.specs.Policies.{is_nil, Sent, ArePoliciesBody}
use Rattle.body_forms.specs.PolicyReading.{body_policies}

-- the texts of the code, as a policy that was sent
abbrev pub values_view : code.Values → Sent
values_view v =
    record { id_text = v.id.items; given = record { start = v.start.items; expiry = v.expiry.items; permission = v.permission.items } }

-- the text is a good id of a policy
unfoldable pub is_good_id : List ℕ → Bool
is_good_id t = is_utf8 t && is_policy_id t

-- the moment, if there is one
abbrev pub moment_read : Result ℕ TimeFault → Option ℕ
moment_read (Ok moment) = Some moment
moment_read (Err e) = None

-- the moment that a text names
unfoldable pub moment_of : List ℕ → Option ℕ
moment_of t = moment_read (iso_moment t)

-- the text is given, and names no moment
unfoldable pub is_bad_time : List ℕ → Bool
is_bad_time t = not (is_nil t) && is_none (moment_of t)

-- the text is given, and is not letters of permissions in their order
unfoldable pub are_bad_letters : List ℕ → Bool
are_bad_letters t = not (is_nil t) && is_none (letters_of t)

-- the policy that the texts say; what is empty is absent
unfoldable pub policy_of : Sent → Policy
policy_of s =
    record { id = s.id_text; start = moment_of s.given.start; expiry = moment_of s.given.expiry; letters = letters_of s.given.permission }

-- the id is bad
unfoldable pub has_bad_id : Sent → Bool
has_bad_id s = not (is_good_id s.id_text)

-- the permissions are bad
unfoldable pub has_bad_letters : Sent → Bool
has_bad_letters s = are_bad_letters s.given.permission

-- a time is bad
unfoldable pub has_bad_time : Sent → Bool
has_bad_time s = is_bad_time s.given.start || is_bad_time s.given.expiry

-- an id is bad, or two ids are equal
abbrev pub have_bad_ids : List Sent → Bool
have_bad_ids ss = list_any has_bad_id ss || not (has_distinct_ids (map policy_of ss))

-- there are more policies than a container may have
abbrev pub are_too_many : List Sent → Bool
are_too_many ss = nat_lt policies_limit (length ss)

-- the policies that were sent, or the first fault of them: too many, then the ids, the permissions and the times
unfoldable pub judged : List Sent → Result (List Policy) BodyFault
judged ss =
    if are_too_many ss then Err fault.TooMany
    else if have_bad_ids ss then Err fault.Id
    else if list_any has_bad_letters ss then Err fault.Letters
    else if list_any has_bad_time ss then Err fault.Time
    else Ok (map policy_of ss)

-- the same of what was read, if it has its form
abbrev pub judged_form : Option (List Sent) → Result (List Policy) BodyFault
judged_form None = Err fault.Form
judged_form (Some ss) = judged ss

-- what a body says as stored policies: the policies, or the fault of the body; a body of no bytes is no policies
abbrev pub policies_reading : List ℕ → Result (List Policy) BodyFault
policies_reading [] = Ok []
policies_reading (b ∷ bs) = judged_form (body_policies (b ∷ bs))

-- ---- what the answers of a reader say

-- no fault has a cause in the list of policies
abbrev pub HasNoFault : List Sent → Type 0
HasNoFault ss = (are_too_many ss ≡ false) × (have_bad_ids ss ≡ false) × (list_any has_bad_letters ss ≡ false) × (list_any has_bad_time ss ≡ false)

-- the fault has a cause in the list of policies, and no fault before it has one
abbrev pub IsFirstFault : BodyFault → List Sent → Type 0
IsFirstFault fault.TooMany ss = are_too_many ss ≡ true
IsFirstFault fault.Id ss = (are_too_many ss ≡ false) × (have_bad_ids ss ≡ true)
IsFirstFault fault.Letters ss = (are_too_many ss ≡ false) × (have_bad_ids ss ≡ false) × (list_any has_bad_letters ss ≡ true)
IsFirstFault fault.Time ss =
    (are_too_many ss ≡ false) × (have_bad_ids ss ≡ false) × (list_any has_bad_letters ss ≡ false) × (list_any has_bad_time ss ≡ true)
IsFirstFault other ss = ⊥

-- the body says these policies: it is a list of policies without a fault whose texts say them, or it has no bytes and there are no policies
abbrev pub SaysPolicies : List ℕ → List Policy → Type 0
SaysPolicies body ps =
    ((body ≡ []) × (ps ≡ []))
    ⊎ ((sent : List Sent) × ArePoliciesBody body sent × HasNoFault sent × (ps ≡ map policy_of sent))

-- the body has the fault: it is not a list of policies, or it is a list of policies whose first fault this is; any body is read if memory is left
abbrev pub SaysFault : List ℕ → BodyFault → Type 0
SaysFault body fault.Form = (body ≢ []) × ((sent : List Sent) → ArePoliciesBody body sent → ⊥)
SaysFault body fault.NoMemory = Unit {0}
SaysFault body other = (sent : List Sent) × ArePoliciesBody body sent × IsFirstFault other sent
