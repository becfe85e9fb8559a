-- Stored policies that are written are a list of policies in the grammar.
use Rattle.std.proofs.Common.{◌≡◌, ℕ, List, [], ◌∷◌, ◌++◌, map, codes, Option, Some, None, IfSome, All, true, refl, sym, ap, ◌∙◌, subst, inl, inr, append_assoc, append-nil}
use Rattle.std.specs.Prelude.{option_map}
use Rattle.std.specs.List.{flat_map, list_all}
use Rattle.std.proofs.lemmas.Bool.{and_parts}
use Rattle.std.proofs.lemmas.List.Elements.{All-head, All-tail}
use Rattle.stamp_values.specs.declared.policy.Policy.{Policy}
use Rattle.stamp_values.specs.Ascii.{space}
use Rattle.stamp_values.specs.Letters.{letters_text}
use Rattle.stamp_values.specs.Texts.{is_clean, is_utf8}
use Rattle.stamp_values.specs.Names.{is_policy_id, is_within}
use Rattle.stamp_values.specs.Texts.{char_count}
use Rattle.stamp_values.proofs.Utf8Lemmas.{utf8_passes}
use Rattle.body_forms.specs.declared.access_policy.Field.{Field}
use Rattle.body_forms.specs.declared.access_policy.Field.TheVariants.{Start, Expiry, Permission}
use Rattle.xml_text.specs.Bodies.{are_controls_white}
use Rattle.xml_text.specs.Tokens.{is_name}
use Rattle.xml_text.specs.Elements.{HasNoWhiteEnds}
use Rattle.body_forms.specs.Policies.{ArePoliciesBody, policies_name, policy_name, id_name, access_name, field_name, Given, IsGiven, values, Access, access_of, IsAccess, Part, id, access, IsPart, ids, accesses, Sent, sent_of, IsSent, AreSent}
use Rattle.body_forms.specs.PolicyValues.{is_good_id}
use Rattle.xml_text.specs.WrittenElements.{opening_text, closing_text, prolog_text, element_text, given_text}
use Rattle.body_forms.specs.WrittenPolicies.{moment_text, fields_text, access_text, identified_text, policy_text, policies_text}
use Rattle.xml_text.proofs.Utf8Texts.{passes_text}
use Rattle.xml_text.proofs.TrimmedTexts.{is_dark, dark_trimmed, dark_clean, all_visible}
use Rattle.body_forms.proofs.TrimmedValues.{dark_moment, dark_letters}
use Rattle.xml_text.proofs.SoundTexts.{IsSound, sound-nil, sound-append, is_shown_name, inner_sound, element_sound, prolog_sound}
use Rattle.xml_text.proofs.WrittenTexts.{IsUtf8-visible}
use Rattle.xml_text.proofs.WrittenElements.{IsWritten, AreWritten, text_written, none_written, one_written, element_written, root_written}

-- ---- the texts of a policy

-- the text, or no text
abbrev pub text_if : Option (List ℕ) → List ℕ
text_if None = []
text_if (Some t) = t

abbrev pub start_text : Policy → Option (List ℕ)
start_text p = option_map moment_text p.start

abbrev pub expiry_text : Policy → Option (List ℕ)
expiry_text p = option_map moment_text p.expiry

abbrev pub permission_text : Policy → Option (List ℕ)
permission_text p = option_map letters_text p.letters

abbrev pub given_of : Policy → Access
given_of p = record { start = text_if (start_text p); expiry = text_if (expiry_text p); permission = text_if (permission_text p) }

-- the policy as it is sent if it is written
abbrev pub sent_by : Policy → Sent
sent_by p = record { id_text = p.id; given = given_of p }

-- a text that is given has bytes from the hyphen to z alone
abbrev IsDark : List ℕ → Type 0
IsDark t = list_all is_dark t ≡ true

dark_time : (o : Option ℕ) → IfSome (option_map moment_text o) IsDark
dark_time None = tt
dark_time (Some m) = dark_moment m

dark_permission : (p : Policy) → IfSome (permission_text p) IsDark
dark_permission p = elim p.letters as (λ o. IfSome (option_map letters_text o) IsDark) [
  | None ↦ tt
  | Some l ↦ dark_letters l
]

-- ---- fields

-- the field, if there is a text
abbrev field_if : Field → Option (List ℕ) → List Given → List Given
field_if field None gs = gs
field_if field (Some t) gs = record { field = field; value = t } ∷ gs

named_field : (field : Field) → is_name (field_name field) ≡ true
named_field Start = refl
named_field Expiry = refl
named_field Permission = refl

field_written : (field : Field) (o : Option (List ℕ)) (gs : List Given) (s : List ℕ) → IfSome o IsDark → AreWritten Given IsGiven gs s → AreWritten Given IsGiven (field_if field o gs) (given_text (field_name field) o ++ s)
field_written field None gs s dark are = are
field_written field (Some t) gs s dark are =
    one_written Given IsGiven (record { field = field; value = t }) gs (element_text (field_name field) t) s (text_written (field_name field) t t (named_field field) (sym (dark_trimmed t dark))) are

abbrev fields_of : Policy → List Given
fields_of p = field_if Start (start_text p) (field_if Expiry (expiry_text p) (field_if Permission (permission_text p) []))

three : (a b c : List ℕ) → a ++ (b ++ (c ++ [])) ≡ (a ++ b) ++ c
three a b c = ap (λ l. a ++ (b ++ l)) (append-nil c) ∙ sym (append_assoc a b c)

fields_written : (p : Policy) → AreWritten Given IsGiven (fields_of p) (fields_text p)
unfolding fields_text
fields_written p =
    subst (AreWritten Given IsGiven (fields_of p)) (three (given_text (codes "Start") (start_text p)) (given_text (codes "Expiry") (expiry_text p)) (given_text (codes "Permission") (permission_text p)))
    (field_written Start (start_text p) (field_if Expiry (expiry_text p) (field_if Permission (permission_text p) [])) _ (dark_time p.start)
    (field_written Expiry (expiry_text p) (field_if Permission (permission_text p) []) _ (dark_time p.expiry)
    (field_written Permission (permission_text p) [] [] (dark_permission p) (none_written Given IsGiven))))

access_is : (a b c : Option (List ℕ)) → access_of (field_if Start a (field_if Expiry b (field_if Permission c []))) ≡ Some (record { start = text_if a; expiry = text_if b; permission = text_if c })
unfolding access_of values
access_is None None None = refl
access_is None None (Some c) = refl
access_is None (Some b) None = refl
access_is None (Some b) (Some c) = refl
access_is (Some a) None None = refl
access_is (Some a) None (Some c) = refl
access_is (Some a) (Some b) None = refl
access_is (Some a) (Some b) (Some c) = refl

access_written : (p : Policy) → IsWritten Access IsAccess (given_of p) (access_text p)
unfolding access_text
access_written p =
    let (tokens, is, are) = element_written Given access_name IsGiven (fields_of p) (fields_text p) refl (fields_written p) in
    (tokens, (fields_of p, is, access_is (start_text p) (expiry_text p) (permission_text p)), are)

-- ---- policies

parts_written : (p : Policy) → HasNoWhiteEnds p.id → AreWritten Part IsPart (id p.id ∷ access (given_of p) ∷ []) (identified_text p)
unfolding identified_text
parts_written p trimmed =
    subst (AreWritten Part IsPart (id p.id ∷ access (given_of p) ∷ [])) (ap (λ l. element_text id_name p.id ++ l) (append-nil (access_text p)))
    (one_written Part IsPart (id p.id) (access (given_of p) ∷ []) (element_text id_name p.id) (access_text p ++ []) (text_written id_name p.id p.id refl (sym trimmed))
    (one_written Part IsPart (access (given_of p)) [] (access_text p) [] (access_written p) (none_written Part IsPart)))

sent_is : (t : List ℕ) (a : Access) → sent_of (id t ∷ access a ∷ []) ≡ Some (record { id_text = t; given = a })
unfolding sent_of ids accesses
sent_is t a = refl

sent_written : (p : Policy) → HasNoWhiteEnds p.id → IsWritten Sent IsSent (sent_by p) (policy_text p)
unfolding policy_text
sent_written p trimmed =
    let (tokens, is, are) = element_written Part policy_name IsPart (id p.id ∷ access (given_of p) ∷ []) (identified_text p) refl (parts_written p trimmed) in
    (tokens, (id p.id ∷ access (given_of p) ∷ [], is, sent_is p.id (given_of p)), are)

-- the id of the policy has no white space at its ends
abbrev pub Trimmed : Policy → Type 0
Trimmed p = HasNoWhiteEnds p.id

all_written : (ps : List Policy) → All Trimmed ps → AreWritten Sent IsSent (map sent_by ps) (flat_map policy_text ps)
all_written [] trimmed = none_written Sent IsSent
all_written (p ∷ ps) trimmed =
    one_written Sent IsSent (sent_by p) (map sent_by ps) (policy_text p) (flat_map policy_text ps) (sent_written p (All-head Trimmed p ps trimmed)) (all_written ps (All-tail Trimmed p ps trimmed))

-- ---- characters

-- the id of the policy is good
abbrev pub HasGoodId : Policy → Type 0
HasGoodId p = is_good_id p.id ≡ true

dark_sound : (name t : List ℕ) → is_shown_name name → IsDark t → IsSound (element_text name t)
dark_sound name t shown dark = element_sound name t shown (IsUtf8-visible t (all_visible t dark)) (dark_clean t dark)

given_sound : (name : List ℕ) (o : Option (List ℕ)) → is_shown_name name → IfSome o IsDark → IsSound (given_text name o)
given_sound name None shown dark = sound-nil
given_sound name (Some t) shown dark = dark_sound name t shown dark

start_shown : is_shown_name (codes "Start")
unfolding opening_text closing_text
start_shown = (refl, refl)

expiry_shown : is_shown_name (codes "Expiry")
unfolding opening_text closing_text
expiry_shown = (refl, refl)

permission_shown : is_shown_name (codes "Permission")
unfolding opening_text closing_text
permission_shown = (refl, refl)

id_shown : is_shown_name id_name
unfolding opening_text closing_text
id_shown = (refl, refl)

access_shown : is_shown_name access_name
unfolding opening_text closing_text
access_shown = (refl, refl)

policy_shown : is_shown_name policy_name
unfolding opening_text closing_text
policy_shown = (refl, refl)

policies_shown : is_shown_name policies_name
unfolding opening_text closing_text
policies_shown = (refl, refl)

fields_sound : (p : Policy) → IsSound (fields_text p)
unfolding fields_text
fields_sound p =
    sound-append (given_text (codes "Start") (start_text p) ++ given_text (codes "Expiry") (expiry_text p)) (given_text (codes "Permission") (permission_text p))
    (sound-append (given_text (codes "Start") (start_text p)) (given_text (codes "Expiry") (expiry_text p)) (given_sound (codes "Start") (start_text p) start_shown (dark_time p.start)) (given_sound (codes "Expiry") (expiry_text p) expiry_shown (dark_time p.expiry)))
    (given_sound (codes "Permission") (permission_text p) permission_shown (dark_permission p))

access_sound : (p : Policy) → IsSound (access_text p)
unfolding access_text
access_sound p = inner_sound access_name (fields_text p) access_shown (fields_sound p)

id_sound : (t : List ℕ) → is_good_id t ≡ true → IsSound (element_text id_name t)
unfolding is_good_id
id_sound t good =
    let (utf8, is) = and_parts (is_utf8 t) (is_policy_id t) good in
    element_sound id_name t id_shown (passes_text t utf8) (and_parts (is_within 1 64 (char_count t)) (is_clean t) is).1

identified_sound : (p : Policy) → is_good_id p.id ≡ true → IsSound (identified_text p)
unfolding identified_text
identified_sound p good = sound-append (element_text id_name p.id) (access_text p) (id_sound p.id good) (access_sound p)

policy_sound : (p : Policy) → is_good_id p.id ≡ true → IsSound (policy_text p)
unfolding policy_text
policy_sound p good = inner_sound policy_name (identified_text p) policy_shown (identified_sound p good)

all_sound : (ps : List Policy) → All HasGoodId ps → IsSound (flat_map policy_text ps)
all_sound [] are = sound-nil
all_sound (p ∷ ps) are = sound-append (policy_text p) (flat_map policy_text ps) (policy_sound p (All-head HasGoodId p ps are)) (all_sound ps (All-tail HasGoodId p ps are))

-- ---- the body

-- the root as it is written
abbrev root_text : List Policy → List ℕ
root_text ps = opening_text policies_name ++ flat_map policy_text ps ++ closing_text policies_name

whole : (a b c d : List ℕ) → a ++ b ++ c ++ d ≡ a ++ (b ++ c ++ d)
whole a b c d = simp append_assoc refl

policies_whole : (ps : List Policy) → policies_text ps ≡ prolog_text ++ root_text ps
unfolding policies_text
policies_whole ps = whole prolog_text (opening_text policies_name) (flat_map policy_text ps) (closing_text policies_name)

body_sound : (ps : List Policy) → All HasGoodId ps → IsSound (policies_text ps)
body_sound ps are =
    subst IsSound (sym (policies_whole ps)) (sound-append prolog_text (root_text ps) prolog_sound (inner_sound policies_name (flat_map policy_text ps) policies_shown (all_sound ps are)))

is_prolog : prolog_text ≡ codes "<?xml" ++ (space ∷ (codes "version=\"1.0\" encoding=\"utf-8\"" ++ codes "?>"))
unfolding prolog_text
is_prolog = refl

-- policies are written as a list of these policies, if no id has white space at its ends
pub policies_written : (ps : List Policy) → All HasGoodId ps → All Trimmed ps → ArePoliciesBody (policies_text ps) (map sent_by ps)
policies_written ps are trimmed =
    let sound = body_sound ps are in
    let root = element_written Sent policies_name IsSent (map sent_by ps) (flat_map policy_text ps) refl (all_written ps trimmed) in
    record {
      utf8 = utf8_passes (policies_text ps) sound.utf8;
      clean = ap are_controls_white (sym (append-nil (policies_text ps))) ∙ sound.clean [] refl refl;
      mark = [];
      prolog = prolog_text;
      rest = root_text ps;
      is_mark = inl refl;
      is_prolog = inr (inr (space, codes "version=\"1.0\" encoding=\"utf-8\"", refl, refl, is_prolog));
      root = root_written (AreSent (map sent_by ps)) (root_text ps) root;
      whole = policies_whole ps;
    }
