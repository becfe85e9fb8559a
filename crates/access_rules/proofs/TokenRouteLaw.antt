-- No rule of the signature route holds if and only if a token admits the request.
use Rattle.std.proofs.Common.{◌≡◌, ◌≢◌, ◌↔◌, ℕ, ◌≤◌, ◌<◌, arith, Bool, true, false, cond, not, ◌&&◌, ◌||◌, List, [], ◌∷◌, Option, Some, None, Result, Ok, Err, refl, sym, ap, ◌∙◌, inl, inr, nat_le, nat_lt, is_none, is_some, bytes_eq}
use Rattle.std.proofs.lemmas.Bool.Decides.{nat_tests}
use Rattle.std.proofs.lemmas.Slice.Eq.{bytes_eq-Decides}
use Rattle.std.specs.Prelude.{IfSome, IsSome, IsTrue}
use Rattle.stamp_values.specs.Letters.{Permissions}
use Rattle.stamp_values.specs.declared.acl.Acl.{Acl}
use Rattle.stamp_values.specs.declared.policy.Policy.{Policy}
use Rattle.stamp_values.specs.declared.signing.Credential.TheVariants.{Token}
use Rattle.stamp_types.specs.declared.ask.Ask.{Ask}
use Rattle.stamp_types.specs.declared.rule.Rule.{Rule}
use Rattle.stamp_types.specs.declared.rule.Rule.TheVariants.{S2, S3, S4, S8, S9, S10, S11}
use Rattle.hmac_sign.specs.Signature.{signature_of}
use Rattle.sas_token.specs.Tokens.{Sent}
use Rattle.sas_token.specs.declared.token.Resource.{Resource}
use Rattle.sas_token.specs.declared.token.Resource.TheVariants.{Container, Blob}
use Rattle.sas_token.proofs.ReadingLemmas.{token_complete, token_sound}
use Rattle.container_acl.specs.JoinedFields.{acl_or_closed, policy_with, policy_of, start_of, expiry_of, letters_of, names_unknown_policy, both_give, joined, whole, with_policy, fields_with, HasOneGiver, HaveOneGiver}
use Rattle.container_acl.specs.declared.fields.Fields.{Fields}
use Rattle.container_acl.specs.declared.fields.FieldFault.{FieldFault}
use Rattle.container_acl.specs.declared.fields.FieldFault.TheVariants.{Absent, Both, Lacks}
use Rattle.container_acl.proofs.FieldLemmas.{one_giver_each}
use Rattle.access_rules.specs.declared.keys.Keys.{Keys}
use Rattle.access_rules.specs.declared.needs.Letter.{Letter}
use Rattle.access_rules.specs.Needs.{need_of}
use Rattle.access_rules.specs.Parts.{keys_for, is_signed}
use Rattle.access_rules.specs.Routes.{ByToken, NamesPolicy}
use Rattle.access_rules.specs.Rules.{first_rule, some_passes}
use Rattle.access_rules.specs.TokenParts.{token_in, is_named, names_resource, text_of, allows}
use Rattle.access_rules.specs.TokenRoute.{rule_of_letter, rule_of_fields, rule_of_given, rule_of_token, token_rule}
use Rattle.access_rules.proofs.KeyLemmas.{keys_found, found_keys, either, of_either}
use Rattle.access_rules.proofs.TokenLemmas.{container_named, blob_named, first_token_rule}

-- ---- the policy that a token names

-- the policy that was looked up is the one that the token names, if it is known
named_by : (acl : Option Acl) (token : Sent) (unnamed : Bool) (found : Option Policy)
    → bytes_eq token.id [] ≡ unnamed → policy_with (acl_or_closed acl) token.id ≡ found → (not unnamed && is_none found) ≡ false
    → NamesPolicy acl token (cond unnamed None found)
named_by acl token true found is look known = (bytes_eq-Decides token.id []).0 is
named_by acl token false None is look known = cc
named_by None token false (Some policy) is look known = let none : None ≡ Some policy = look in cc
named_by (Some has) token false (Some policy) is look known = (λ empty. let wrong : false ≡ true = sym is ∙ (bytes_eq-Decides token.id []).1 empty in cc, (has, refl, look))

names_it : (acl : Option Acl) (token : Sent) → names_unknown_policy (acl_or_closed acl) token ≡ false → NamesPolicy acl token (policy_of (acl_or_closed acl) token)
names_it acl token known = named_by acl token (bytes_eq token.id []) (policy_with (acl_or_closed acl) token.id) refl refl known

-- a token that names a policy in this sense names it by the look-up, and it is known
record IsKnown (acl : Option Acl) (token : Sent) (policy : Option Policy) : Type 0 where
  known : names_unknown_policy (acl_or_closed acl) token ≡ false
  policy_is : policy_of (acl_or_closed acl) token ≡ policy

not_equal : (id : List ℕ) → id ≢ [] → bytes_eq id [] ≡ false
not_equal id some = by_case (bytes_eq id []) refl
  where
    by_case : (b : Bool) → bytes_eq id [] ≡ b → b ≡ false
    by_case true is = absurd (some ((bytes_eq-Decides id []).0 is))
    by_case false is = refl

known_by : (acl : Option Acl) (token : Sent) (policy : Option Policy) → NamesPolicy acl token policy → IsKnown acl token policy
known_by acl token None empty =
    let is : bytes_eq token.id [] ≡ true = (bytes_eq-Decides token.id []).1 empty in record {
      known = ap (λ b. not b && is_none (policy_with (acl_or_closed acl) token.id)) is;
      policy_is = ap (λ b. cond b None (policy_with (acl_or_closed acl) token.id)) is;
    }
known_by acl token (Some policy) named =
    let is : bytes_eq token.id [] ≡ false = not_equal token.id named.0 in
    let look : policy_with (acl_or_closed acl) token.id ≡ Some policy = ap (λ (a : Option Acl). policy_with (acl_or_closed a) token.id) named.1.1 ∙ named.1.2 in record {
      known = (λ i. not (is i) && is_none (look i));
      policy_is = (λ i. cond (is i) None (look i));
    }

-- ---- the fields

-- a field that has one giver is not given twice, and is what both give together
record IsJoined {A : Type 0} (own stored field : Option A) : Type 0 where
  once : both_give own stored ≡ false
  joined_is : joined own stored ≡ field

and_false : (b : Bool) → (b && false) ≡ false
and_false true = refl
and_false false = refl

joined_nothing : {A : Type 0} (own : Option A) → joined own None ≡ own
joined_nothing None = refl
joined_nothing (Some own) = refl

joined_by : {A : Type 0} (own stored field : Option A) → HasOneGiver own stored field → IsJoined own stored field
joined_by own stored field (inl h) = record {
  once = ap (λ s. is_some own && is_some s) h.1 ∙ and_false (is_some own);
  joined_is = ap (joined own) h.1 ∙ joined_nothing own ∙ h.0;
}
joined_by own stored field (inr h) = record {
  once = ap (λ o. is_some o && is_some stored) h.0;
  joined_is = ap (λ o. joined o stored) h.0 ∙ h.1;
}

-- a token whose fields have one giver each has these fields
fields_again : (acl : Acl) (token : Sent) (policy : Option Policy) (f : Fields) → names_unknown_policy acl token ≡ false → policy_of acl token ≡ policy → HaveOneGiver token policy f
    → fields_with acl token ≡ Ok f
fields_again acl token policy f known is h =
    let start = joined_by token.start (start_of policy) f.start h.start in
    let expiry = joined_by token.expiry (expiry_of policy) (Some f.expiry) h.expiry in
    let letters = joined_by token.letters (letters_of policy) (Some f.letters) h.letters in
    (λ i. cond (known i) (Err Absent) (with_policy token (is i)))
    ∙ (λ i. cond (start.once i || expiry.once i || letters.once i) (Err Both) (whole (start.joined_is i) (expiry.joined_is i) (letters.joined_is i)))

-- the fields of a token that names its policy
pub given_by : (acl : Option Acl) (token : Sent) (policy : Option Policy) (f : Fields) → NamesPolicy acl token policy → HaveOneGiver token policy f → fields_with (acl_or_closed acl) token ≡ Ok f
given_by acl token policy f named once =
    let known = known_by acl token policy named in fields_again (acl_or_closed acl) token policy f known.known known.policy_is once

-- ---- times and letters

-- what holds of fields if no rule on them holds
record Passes (letter : Option Letter) (t : ℕ) (f : Fields) : Type 0 where
  started : IfSome f.start (λ start. start ≤ t)
  not_over : t < f.expiry
  the_letter : Letter
  needed : letter ≡ Some the_letter
  allowed : IsTrue (allows the_letter f.letters)

start_passes : (start : Option ℕ) (t : ℕ) → some_passes (nat_lt t) start ≡ false → IfSome start (λ start. start ≤ t)
start_passes None t h = tt
start_passes (Some start) t h = grind (arith, nat_tests)

passes_start : (start : Option ℕ) (t : ℕ) → IfSome start (λ start. start ≤ t) → some_passes (nat_lt t) start ≡ false
passes_start None t h = refl
passes_start (Some start) t h = grind (arith, nat_tests)

letter_passes : (letter : Option Letter) (p : Permissions) → cond (is_none letter) (Some S10) (cond (some_passes (λ l. not (allows l p)) letter) (Some S11) None) ≡ None
    → (l : Letter) × (letter ≡ Some l) × (allows l p ≡ true)
letter_passes None p h = cc
letter_passes (Some l) p h = (l, refl, pass (allows l p) h)
  where
    pass : (b : Bool) → cond (not b) (Some S11) None ≡ None → b ≡ true
    pass true h = refl
    pass false h = cc

three_pass : (a b : Bool) (rest : Option Rule) → cond a (Some S8) (cond b (Some S9) rest) ≡ None → (a ≡ false) × (b ≡ false) × (rest ≡ None)
three_pass true b rest h = cc
three_pass false true rest h = cc
three_pass false false rest h = (refl, refl, h)

fields_pass : (letter : Option Letter) (t : ℕ) (f : Fields) → rule_of_fields letter t f ≡ None → Passes letter t f
fields_pass letter t f h =
    let tests = three_pass (some_passes (nat_lt t) f.start) (nat_le f.expiry t) (rule_of_letter letter f) h in
    let own = letter_passes letter f.letters tests.2 in record {
      started = start_passes f.start t tests.0;
      not_over = over tests.1;
      the_letter = own.0;
      needed = own.1;
      allowed = own.2;
    }
  where
    over : nat_le f.expiry t ≡ false → t < f.expiry
    over h = grind (arith, nat_tests)

pass_fields : (letter : Option Letter) (t : ℕ) (f : Fields) → Passes letter t f → rule_of_fields letter t f ≡ None
pass_fields letter t f p =
    let late : nat_le f.expiry t ≡ false = over p.not_over in
    (λ i. cond (passes_start f.start t p.started i) (Some S8) (cond (late i) (Some S9) (rule_of_letter (p.needed i) f)))
    ∙ ap (λ b. cond (not b) (Some S11) None) p.allowed
  where
    over : t < f.expiry → nat_le f.expiry t ≡ false
    over h = grind (arith, nat_tests)

-- no rule on what is given holds only of fields
given_ok : (letter : Option Letter) (t : ℕ) (r : Result Fields FieldFault) → rule_of_given letter t r ≡ None → (f : Fields) × (r ≡ Ok f) × (rule_of_fields letter t f ≡ None)
given_ok letter t (Ok f) h = (f, refl, h)
given_ok letter t (Err Absent) h = cc
given_ok letter t (Err Both) h = cc
given_ok letter t (Err Lacks) h = cc

-- fields come of a known policy
known_if_given : (acl : Acl) (token : Sent) (f : Fields) → fields_with acl token ≡ Ok f → names_unknown_policy acl token ≡ false
known_if_given acl token f h = by_case (names_unknown_policy acl token) h
  where
    by_case : (b : Bool) → cond b (Err Absent) (with_policy token (policy_of acl token)) ≡ Ok f → b ≡ false
    by_case true e = cc
    by_case false e = refl

-- ---- the rules before the fields

record BeforePasses (pair : Option Keys) (names : Bool) (signed : Keys → Bool) (rest : Option Rule) : Type 0 where
  the_pair : Keys
  paired : pair ≡ Some the_pair
  named : names ≡ true
  signs : signed the_pair ≡ true
  left : rest ≡ None

before_passes : (pair : Option Keys) (names : Bool) (signed : Keys → Bool) (rest : Option Rule)
    → cond (is_none pair) (Some S2) (cond (not names) (Some S3) (cond (some_passes (λ p. not (signed p)) pair) (Some S4) rest)) ≡ None → BeforePasses pair names signed rest
before_passes None names signed rest h = cc
before_passes (Some p) false signed rest h = cc
before_passes (Some p) true signed rest h =
    let last = signs (signed p) h in record { the_pair = p; paired = refl; named = refl; signs = last.0; left = last.1 }
  where
    signs : (b : Bool) → cond (not b) (Some S4) rest ≡ None → (b ≡ true) × (rest ≡ None)
    signs true h = (refl, h)
    signs false h = cc

passes_before : (pair : Option Keys) (names : Bool) (signed : Keys → Bool) (rest : Option Rule) → BeforePasses pair names signed rest
    → cond (is_none pair) (Some S2) (cond (not names) (Some S3) (cond (some_passes (λ p. not (signed p)) pair) (Some S4) rest)) ≡ None
passes_before pair names signed rest p =
    (λ i. cond (is_none (p.paired i)) (Some S2) (cond (not (p.named i)) (Some S3) (cond (some_passes (λ k. not (signed k)) (p.paired i)) (Some S4) rest)))
    ∙ ap (λ b. cond (not b) (Some S4) rest) p.signs ∙ p.left

-- a request that names a container, and a blob if the token is for a blob, names what the token is for
is_named-some : (name : List ℕ) → name ≢ [] → is_named name ≡ true
is_named-some [] some = absurd (some refl)
is_named-some (b ∷ bs) some = refl

is_some-there : {A : Type 0} (o : Option A) → IsSome o → is_some o ≡ true
is_some-there None there = cc
is_some-there (Some x) there = refl

pub names_if : (q : Ask) (r : Resource) → q.key.container ≢ [] → (r ≡ Blob → IsSome q.blob) → names_resource q r ≡ true
names_if q Container some blob = is_named-some q.key.container some
names_if q Blob some blob = (λ i. is_named-some q.key.container some i && is_some-there q.blob (blob refl) i)

-- ---- the route

module _ (keys : Option Keys) (acl : Option Acl) (q : Ask) (t : ℕ) where
  abbrev letter : Option Letter
  letter = (need_of q.op q.args.kinds).letter

  abbrev signs : Sent → Keys → Bool
  signs token pair = is_signed pair (text_of q token) token.signature

  in_words : (token : Sent) → token_in q ≡ Some token → rule_of_token keys acl q t token ≡ None → ByToken keys acl q t
  in_words token read h =
      let before = before_passes (keys_for keys q.key.account) (names_resource q token.resource) (signs token) _ h in
      let given = given_ok letter t (fields_with (acl_or_closed acl) token) before.left in
      let found = keys_found keys q.key.account before.the_pair before.paired in
      let known = known_if_given (acl_or_closed acl) token given.0 given.1 in
      let pass = fields_pass letter t given.0 given.2 in record {
        token = token;
        reads = token_sound q.signing.query token read;
        pair = before.the_pair;
        given = found.0;
        known = found.1;
        container = container_named q token.resource before.named;
        blob = blob_named q token.resource before.named;
        signed = either token.signature (signature_of before.the_pair.first (text_of q token)) (signature_of before.the_pair.second (text_of q token)) before.signs;
        policy = policy_of (acl_or_closed acl) token;
        named = names_it acl token known;
        fields = given.0;
        once = one_giver_each (acl_or_closed acl) token given.0 given.1;
        started = pass.started;
        not_over = pass.not_over;
        letter = pass.the_letter;
        needed = pass.needed;
        allowed = pass.allowed;
      }

  by_sent : (token : Option Sent) → token_in q ≡ token → token_rule keys acl q t token ≡ None → ByToken keys acl q t
  by_sent None read h = cc
  by_sent (Some token) read h = in_words token read h

  in_tests : ByToken keys acl q t → token_rule keys acl q t (token_in q) ≡ None
  in_tests b =
      let fields = given_by acl b.token b.policy b.fields b.named b.once in
      ap (token_rule keys acl q t) (token_complete q.signing.query b.token b.reads)
      ∙ passes_before (keys_for keys q.key.account) (names_resource q b.token.resource) (signs b.token) _ (record {
        the_pair = b.pair;
        paired = found_keys keys q.key.account b.pair b.given b.known;
        named = names_if q b.token.resource b.container b.blob;
        signs = of_either b.token.signature (signature_of b.pair.first (text_of q b.token)) (signature_of b.pair.second (text_of q b.token)) b.signed;
        left = ap (rule_of_given letter t) fields
            ∙ pass_fields letter t b.fields (record { started = b.started; not_over = b.not_over; the_letter = b.letter; needed = b.needed; allowed = b.allowed });
      })

-- no rule holds of a request that asks by a token if and only if the token admits it
pub by_token : (keys : Option Keys) (acl : Option Acl) (q : Ask) (t : ℕ) → q.credential ≡ Token → (first_rule keys acl q t ≡ None) ↔ ByToken keys acl q t
by_token keys acl q t asks = (
  λ h. by_sent keys acl q t (token_in q) refl (sym (first_token_rule keys acl q t asks) ∙ h),
  λ b. first_token_rule keys acl q t asks ∙ in_tests keys acl q t b,
)
