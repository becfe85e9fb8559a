-- Stored policies are read as they were written, and what is read as stored policies is a list of these policies.
use Rattle.std.proofs.Common.{◌≡◌, ◌++◌, ℕ, Bool, true, false, cond, List, Some, None, refl, sym, ap, ◌∙◌, subst}
use Rattle.std.specs.Prelude.{codes, bytes_eq, option_map}
use Rattle.std.proofs.lemmas.Option.{option_and_then_some, same_Some}
use Rattle.std.proofs.lemmas.Slice.Eq.{bytes_eq-Decides}
use Rattle.body_forms.specs.declared.access_policy.Field.{Field}
use Rattle.body_forms.specs.declared.access_policy.Field.TheVariants.{Start, Expiry, Permission}
use Rattle.xml_text.specs.Tokens.{Tag, IsTag}
use Rattle.xml_text.specs.Texts.{Token, AreTokens}
use Rattle.xml_text.specs.Elements.{IsElementOf}
use Rattle.body_forms.specs.Policies.{ArePoliciesBody, policies_name, policy_name, id_name, access_name, field_name, Given, IsGiven, Access, access_of, IsAccess, Part, id, access, IsPart, Sent, sent_of, IsSent, AreSent, AreSentText}
use Rattle.xml_text.specs.ElementReading.{content_at, inner_at}
use Rattle.body_forms.specs.PolicyReading.{field_of, given_at, access_at, part_at, sent_at, policies_of, body_policies}
use Rattle.xml_text.proofs.Sound.{mapped_some}
use Rattle.xml_text.proofs.FrontLemmas.{body_sound, body_read}
use Rattle.xml_text.proofs.ElementsSound.{RestRead, content_sound, inner_sound, inner_name, made_sound, root_sound}
use Rattle.xml_text.proofs.ElementsComplete.{IsRead, content_read, inner_read, made_read, root_read}

-- ---- fields

field_read : (field : Field) → field_of (field_name field) ≡ Some field
field_read Start = refl
field_read Expiry = refl
field_read Permission = refl

field_sound : (name : List ℕ) (f : Field) → field_of name ≡ Some f → name ≡ field_name f
field_sound name f e =
    let third = λ (b : Bool). cond b (Some Permission) None in
    let second = λ (b : Bool). cond b (Some Expiry) (third (bytes_eq name (codes "Permission"))) in
    elim (bytes_eq name (codes "Start")) as (λ b. bytes_eq name (codes "Start") ≡ b → cond b (Some Start) (second (bytes_eq name (codes "Expiry"))) ≡ Some f → name ≡ field_name f) [
      | true ↦ λ h is. (bytes_eq-Decides name (codes "Start")).0 h ∙ ap field_name (same_Some Start f is)
      | false ↦ λ _ is.
          elim (bytes_eq name (codes "Expiry")) as (λ b. bytes_eq name (codes "Expiry") ≡ b → second b ≡ Some f → name ≡ field_name f) [
            | true ↦ λ h is. (bytes_eq-Decides name (codes "Expiry")).0 h ∙ ap field_name (same_Some Expiry f is)
            | false ↦ λ _ is.
                elim (bytes_eq name (codes "Permission")) as (λ b. bytes_eq name (codes "Permission") ≡ b → third b ≡ Some f → name ≡ field_name f) [
                  | true ↦ λ h is. (bytes_eq-Decides name (codes "Permission")).0 h ∙ ap field_name (same_Some Permission f is)
                  | false ↦ λ _ is. cc
                ] refl is
          ] refl is
    ] refl e

given_sound : (g : Tag) (front t r : List ℕ) (a : Given) → IsTag g front → given_at g t ≡ Some (a, r) → RestRead IsGiven a front t r
unfolding given_at
given_sound g front t r a first h =
    option_and_then_some (λ (field : Field). option_map (λ (x : List ℕ × List ℕ). let p : Given × List ℕ = (record { field = field; value = x.0 }, x.1) in p) (content_at g.kind g.name t)) (field_of g.name) (a, r) h λ field is h₁.
    mapped_some _ (content_at g.kind g.name t) (a, r) h₁ λ x read same.
    let name = field_sound g.name field is in
    let content = ap (λ n. content_at g.kind n t) (sym name) ∙ read in
    let (tokens, s, one, are, whole) = content_sound g.kind (field_name field) front t x.1 x.0 (subst (λ n. IsTag (record { kind = g.kind; name = n }) front) name first) content in
    subst (λ (q : Given × List ℕ). RestRead IsGiven q.0 front t q.1) same (tokens, s, one, are, whole)

given_read : (a : Given) (tokens : List Token) (s r : List ℕ) → IsGiven a tokens → AreTokens tokens s → IsRead Given given_at a s r
unfolding given_at
given_read a tokens s r is are =
    let (kind, front, back, first, other, whole, read) = content_read (field_name a.field) a.value tokens s r is are in
    (record { kind = kind; name = field_name a.field }, front, back, first, other, whole, rw (field_read a.field, read) refl)

-- ---- AccessPolicy

access_sound : (g : Tag) (front t r : List ℕ) (a : Access) → IsTag g front → access_at g t ≡ Some (a, r) → RestRead IsAccess a front t r
unfolding access_at
access_sound g front t r a first h =
    made_sound (List Given) Access access_of (inner_at access_name given_at) (IsElementOf access_name IsGiven) (inner_sound Given access_name given_at IsGiven given_sound) g front t r a first h

access_read : (a : Access) (tokens : List Token) (s r : List ℕ) → IsAccess a tokens → AreTokens tokens s → IsRead Access access_at a s r
unfolding access_at
access_read a tokens s r is are =
    made_read (List Given) Access access_of (inner_at access_name given_at) (IsElementOf access_name IsGiven) (inner_read Given access_name given_at IsGiven given_read) a tokens s r is are

access_tag : (g : Tag) (t r : List ℕ) (a : Access) → access_at g t ≡ Some (a, r) → g.name ≡ access_name
unfolding access_at
access_tag g t r a h =
    option_and_then_some (λ (q : List Given × List ℕ). option_map (λ (b : Access). let p : Access × List ℕ = (b, q.1) in p) (access_of q.0)) (inner_at access_name given_at g t) (a, r) h λ q read h₁.
    inner_name Given access_name given_at g t q.1 q.0 read

-- ---- parts

abbrev as_id : List ℕ × List ℕ → Part × List ℕ
as_id x = (id x.0, x.1)

abbrev as_access : Access × List ℕ → Part × List ℕ
as_access a = (access a.0, a.1)

id_sound : (g : Tag) (front t r v : List ℕ) → IsTag g front → g.name ≡ id_name → content_at g.kind g.name t ≡ Some (v, r) → RestRead IsPart (id v) front t r
id_sound g front t r v first name read =
    content_sound g.kind id_name front t r v (subst (λ n. IsTag (record { kind = g.kind; name = n }) front) name first) (ap (λ n. content_at g.kind n t) (sym name) ∙ read)

part_sound : (g : Tag) (front t r : List ℕ) (p : Part) → IsTag g front → part_at g t ≡ Some (p, r) → RestRead IsPart p front t r
unfolding part_at
part_sound g front t r p first h =
    elim (bytes_eq g.name id_name) as (λ b. bytes_eq g.name id_name ≡ b → cond b (option_map as_id (content_at g.kind g.name t)) (option_map as_access (access_at g t)) ≡ Some (p, r) → RestRead IsPart p front t r) [
      | true ↦ λ is e. mapped_some as_id (content_at g.kind g.name t) (p, r) e λ x read same.
          subst (λ (q : Part × List ℕ). RestRead IsPart q.0 front t q.1) same (id_sound g front t x.1 x.0 first ((bytes_eq-Decides g.name id_name).0 is) read)
      | false ↦ λ _ e. mapped_some as_access (access_at g t) (p, r) e λ x read same.
          subst (λ (q : Part × List ℕ). RestRead IsPart q.0 front t q.1) same (access_sound g front t x.1 x.0 first read)
    ] refl h

part_read : (p : Part) (tokens : List Token) (s r : List ℕ) → IsPart p tokens → AreTokens tokens s → IsRead Part part_at p s r
unfolding part_at
part_read (id v) tokens s r is are =
    let (kind, front, back, first, other, whole, read) = content_read id_name v tokens s r is are in
    (record { kind = kind; name = id_name }, front, back, first, other, whole, ap (λ o. option_map as_id o) read)
part_read (access a) tokens s r is are =
    let (g, front, back, first, other, whole, read) = access_read a tokens s r is are in
    let no_id : bytes_eq g.name id_name ≡ false = ap (λ n. bytes_eq n id_name) (access_tag g (back ++ r) r a read) in
    (g, front, back, first, other, whole, rw (no_id, read) refl)

-- ---- policies

sent_sound : (g : Tag) (front t r : List ℕ) (p : Sent) → IsTag g front → sent_at g t ≡ Some (p, r) → RestRead IsSent p front t r
unfolding sent_at
sent_sound g front t r p first h =
    made_sound (List Part) Sent sent_of (inner_at policy_name part_at) (IsElementOf policy_name IsPart) (inner_sound Part policy_name part_at IsPart part_sound) g front t r p first h

sent_read : (p : Sent) (tokens : List Token) (s r : List ℕ) → IsSent p tokens → AreTokens tokens s → IsRead Sent sent_at p s r
unfolding sent_at
sent_read p tokens s r is are =
    made_read (List Part) Sent sent_of (inner_at policy_name part_at) (IsElementOf policy_name IsPart) (inner_read Part policy_name part_at IsPart part_read) p tokens s r is are

list_sound : (t : List ℕ) (ps : List Sent) → policies_of t ≡ Some ps → AreSentText t ps
list_sound t ps h = root_sound (List Sent) (inner_at policies_name sent_at) AreSent (inner_sound Sent policies_name sent_at IsSent sent_sound) t ps h

list_read : (t : List ℕ) (ps : List Sent) → AreSentText t ps → policies_of t ≡ Some ps
list_read t ps is = root_read (List Sent) (inner_at policies_name sent_at) AreSent (inner_read Sent policies_name sent_at IsSent sent_read) t ps is

-- ---- the body

pub policies_sound : (body : List ℕ) (ps : List Sent) → body_policies body ≡ Some ps → ArePoliciesBody body ps
policies_sound body ps h = body_sound (List Sent) policies_of (λ ps t. AreSentText t ps) list_sound body ps h

pub policies_read : (body : List ℕ) (ps : List Sent) → ArePoliciesBody body ps → body_policies body ≡ Some ps
policies_read body ps is = body_read (List Sent) (inner_at policies_name sent_at) (λ ps t. AreSentText t ps) list_read body ps is

pub one_list : (body : List ℕ) (one other : List Sent) → ArePoliciesBody body one → ArePoliciesBody body other → one ≡ other
one_list body one other is too = same_Some one other (sym (policies_read body one is) ∙ policies_read body other too)

pub no_policies : (body : List ℕ) (ps : List Sent) → body_policies body ≡ None → ArePoliciesBody body ps → ⊥
no_policies body ps none is = let read = policies_read body ps is in cc
