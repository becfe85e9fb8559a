-- Stored policies are read as they were written.
use Rattle.std.proofs.Common.{◌≡◌, inl, inr, ℕ, ◌+◌, ◌*◌, ◌<◌, ◌≤◌, Bool, true, false, not, ◌&&◌, ◌||◌, nat_le, nat_lt, List, [], ◌∷◌, length, map, Option, Some, None, IfSome, IfOk, IsTrue, Result, Ok, Err, All, refl, sym, ap, ◌∙◌, subst, arith}
use Rattle.std.specs.Prelude.{option_map, is_none}
use Rattle.std.specs.List.{list_any, list_all}
use Rattle.std.specs.Int.{IsInRange}
use Rattle.std.proofs.lemmas.Bool.{and_parts}
use Rattle.std.proofs.lemmas.Bool.Decides.{nat_tests}
use Rattle.std.proofs.lemmas.List.Elements.{All-nil, All-cons, All-head, All-tail}
use Rattle.std.proofs.lemmas.Option.{option_and_then_some, same_Some}
use Rattle.httpdate.specs.Calendar.{days_in_month, days_from_civil}
use Rattle.httpdate.proofs.CalendarLemmas.{days_from_civil_bound}
use Rattle.stamp_values.specs.declared.policy.Policy.{Policy}
use Rattle.stamp_values.specs.Letters.{Permissions, has_permission, letters_text, letters_of}
use Rattle.stamp_values.specs.Limits.{policies_limit}
use Rattle.stamp_values.specs.Names.{is_policy_id}
use Rattle.stamp_values.specs.Policies.{has_distinct_ids, is_policies}
use Rattle.stamp_values.specs.Texts.{is_utf8}
use Rattle.moment_text.specs.declared.fault.TimeFault.{TimeFault}
use Rattle.moment_text.specs.IsoReader.{iso_time, iso_moment}
use Rattle.moment_text.proofs.IsoMoment.{iso_moment_is}
use Rattle.moment_text.proofs.TimeLemmas.{iso_moment-iso_text}
use Rattle.xml_text.specs.Texts.{Token}
use Rattle.xml_text.specs.Elements.{AreElements, IsElementOf, IsTextElement, HasNoWhiteEnds}
use Rattle.body_forms.specs.Policies.{is_nil, at_most_one, exactly_one, id_name, policies_name, policy_name, ArePoliciesBody, Access, no_access, Part, id, access, IsPart, ids, accesses, Sent, sent_of, IsSent}
use Rattle.body_forms.specs.PolicyValues.{is_good_id, moment_read, moment_of, is_bad_time, are_bad_letters, policy_of, has_bad_id, has_bad_letters, has_bad_time, have_bad_ids, are_too_many, policies_reading, HasNoFault}
use Rattle.body_forms.specs.KeptPolicies.{last_moment, IsMoment, IsPolicy, ArePolicies}
use Rattle.body_forms.specs.WrittenPolicies.{moment_text, policies_text}
use Rattle.stamp_values.proofs.LetterLemmas.{letters_of-letters_text, letters_taken}
use Rattle.body_forms.proofs.PolicyLemmas.{policies_read}
use Rattle.body_forms.proofs.PolicyFaults.{says_policies, reading_is, good_judged}
use Rattle.body_forms.proofs.PolicyValueLemmas.{mapped_length, not_false, ids_decide}
use Rattle.xml_text.proofs.Sound.{mapped_some}
use Rattle.xml_text.proofs.TrimmedTexts.{ends_cut_once}
use Rattle.body_forms.proofs.WrittenPolicyLemmas.{text_if, sent_by, HasGoodId, Trimmed, policies_written}

and_false : (a b : Bool) → b ≡ false → (a && b) ≡ false
and_false true b h = h
and_false false b h = refl

-- ---- what the texts of a written policy say

no_moment : moment_of [] ≡ None
unfolding moment_of iso_time
no_moment = refl

moment_written : (m : ℕ) → IsMoment m → moment_of (moment_text m) ≡ Some m
unfolding moment_of
moment_written m h = ap moment_read (iso_moment-iso_text m h)

moment_again : (o : Option ℕ) → IfSome o IsMoment → moment_of (text_if (option_map moment_text o)) ≡ o
moment_again None h = no_moment
moment_again (Some m) h = moment_written m h

no_letters : letters_of [] ≡ None
unfolding letters_of
no_letters = refl

letters_again : (o : Option Permissions) → IfSome o (λ l. has_permission l ≡ true) → letters_of (text_if (option_map letters_text o)) ≡ o
letters_again None h = no_letters
letters_again (Some l) h = letters_of-letters_text l h

policy_again : (p : Policy) → IsPolicy p → policy_of (sent_by p) ≡ p
unfolding policy_of
policy_again p is = λ i. record { id = p.id; start = moment_again p.start is.fields.start i; expiry = moment_again p.expiry is.fields.expiry i; letters = letters_again p.letters is.fields.letters i }

all_again : (ps : List Policy) → All IsPolicy ps → map policy_of (map sent_by ps) ≡ ps
all_again [] are = refl
all_again (p ∷ ps) are =
    let one = policy_again p (All-head IsPolicy p ps are) in
    let more = all_again ps (All-tail IsPolicy p ps are) in
    λ i. one i ∷ more i

-- ---- they are not bad

good_time : (o : Option ℕ) → IfSome o IsMoment → is_bad_time (text_if (option_map moment_text o)) ≡ false
unfolding is_bad_time
good_time None h = refl
good_time (Some m) h = and_false (not (is_nil (moment_text m))) (is_none (moment_of (moment_text m))) (ap is_none (moment_written m h))

good_times : (p : Policy) → IsPolicy p → has_bad_time (sent_by p) ≡ false
unfolding has_bad_time
good_times p is = rw (good_time p.start is.fields.start, good_time p.expiry is.fields.expiry) refl

good_permissions : (o : Option Permissions) → IfSome o (λ l. has_permission l ≡ true) → are_bad_letters (text_if (option_map letters_text o)) ≡ false
unfolding are_bad_letters
good_permissions None h = refl
good_permissions (Some l) h = and_false (not (is_nil (letters_text l))) (is_none (letters_of (letters_text l))) (ap is_none (letters_of-letters_text l h))

good_letters : (p : Policy) → IsPolicy p → has_bad_letters (sent_by p) ≡ false
unfolding has_bad_letters
good_letters p is = good_permissions p.letters is.fields.letters

good_id : (p : Policy) → HasGoodId p → has_bad_id (sent_by p) ≡ false
unfolding has_bad_id
good_id p is = ap not is

none_bad : (P : Policy → Type 0) (is_bad : Sent → Bool) → ((p : Policy) → P p → is_bad (sent_by p) ≡ false) → (ps : List Policy) → All P ps → list_any is_bad (map sent_by ps) ≡ false
none_bad P is_bad good [] are = refl
none_bad P is_bad good (p ∷ ps) are = rw (good p (All-head P p ps are), none_bad P is_bad good ps (All-tail P p ps are)) refl

last_of : (a b c : Bool) → (a && b && c) ≡ true → c ≡ true
last_of true true c h = h
last_of true false c h = cc
last_of false b c h = cc

first_of : (a b c : Bool) → (a && b && c) ≡ true → a ≡ true
first_of true b c h = refl
first_of false b c h = cc

distinct : (ps : List Policy) → is_policies ps ≡ true → has_distinct_ids ps ≡ true
distinct ps h = last_of (nat_le (length ps) policies_limit) (list_all (λ p. is_policy_id p.id) ps) (has_distinct_ids ps) h

number : (ps : List Policy) → is_policies ps ≡ true → are_too_many (map sent_by ps) ≡ false
number ps h =
    let few = first_of (nat_le (length ps) policies_limit) (list_all (λ p. is_policy_id p.id) ps) (has_distinct_ids ps) h in
    let same = mapped_length sent_by ps in
    grind (arith, nat_tests)

middle_of : (a b c : Bool) → (a && b && c) ≡ true → b ≡ true
middle_of true true c h = refl
middle_of true false c h = cc
middle_of false b c h = cc

both : (a b : Bool) → a ≡ true → b ≡ true → (a && b) ≡ true
both a b h k = rw (h, k) refl

all_good : (ps : List Policy) → list_all (λ p. is_policy_id p.id) ps ≡ true → All IsPolicy ps → All HasGoodId ps
unfolding is_good_id
all_good [] good are = All-nil HasGoodId
all_good (p ∷ ps) good are =
    let (one, more) = and_parts (is_policy_id p.id) (list_all (λ p. is_policy_id p.id) ps) good in
    All-cons HasGoodId p ps (both (is_utf8 p.id) (is_policy_id p.id) (All-head IsPolicy p ps are).utf8 one) (all_good ps more (All-tail IsPolicy p ps are))

-- the ids are good
ids_are_good : (ps : List Policy) → is_policies ps ≡ true → All IsPolicy ps → All HasGoodId ps
ids_are_good ps few are = all_good ps (middle_of (nat_le (length ps) policies_limit) (list_all (λ p. is_policy_id p.id) ps) (has_distinct_ids ps) few) are

ids_good : (ps : List Policy) → is_policies ps ≡ true → All IsPolicy ps → have_bad_ids (map sent_by ps) ≡ false
ids_good ps few are = rw (none_bad HasGoodId has_bad_id good_id ps (ids_are_good ps few are), all_again ps are, distinct ps few) refl

no_fault : (ps : List Policy) → is_policies ps ≡ true → All IsPolicy ps → HasNoFault (map sent_by ps)
no_fault ps few are = (number ps few, ids_good ps few are, none_bad IsPolicy has_bad_letters good_letters ps are, none_bad IsPolicy has_bad_time good_times ps are)

-- any policies, if no id has white space at its ends
pub any_read_again : (ps : List Policy) → ArePolicies ps → All Trimmed ps → policies_reading (policies_text ps) ≡ Ok ps
any_read_again ps (few, are) trimmed =
    reading_is (policies_text ps) (map sent_by ps) (policies_read (policies_text ps) (map sent_by ps) (policies_written ps (ids_are_good ps few are) trimmed)) ∙ good_judged (map sent_by ps) (no_fault ps few are) ∙ ap Ok (all_again ps are)

-- ---- policies that were read are policies

ranges : (y m d hour minute second days : ℕ) → (nat_le 1970 y && nat_le y 9999 && nat_le 1 m && nat_le m 12 && nat_le 1 d && nat_le d days && nat_lt hour 24 && nat_lt minute 60 && nat_lt second 60) ≡ true
    → (IsInRange 1970 9999 y × IsInRange 1 12 m × IsInRange 1 days d) × ((hour < 24) × (minute < 60) × (second < 60))
ranges y m d hour minute second days h = (
  ((grind (arith, nat_tests), grind (arith, nat_tests)), (grind (arith, nat_tests), grind (arith, nat_tests)), (grind (arith, nat_tests), grind (arith, nat_tests))),
  (grind (arith, nat_tests), grind (arith, nat_tests), grind (arith, nat_tests)),
)

within : (days hour minute second fraction : ℕ) → days < 2_932_897 → hour < 24 → minute < 60 → second < 60 → fraction < 10_000_000 → (days * 86_400 + hour * 3_600 + minute * 60 + second) * 10_000_000 + fraction ≤ last_moment
within days hour minute second fraction a b c d e = omega (arith, a, b, c, d, e)

moment_read_in : (Q : ℕ → Type 0) → ((m : ℕ) → Q m → IsMoment m) → (r : Result ℕ TimeFault) → IfOk r Q → IfSome (moment_read r) IsMoment
moment_read_in Q in_range (Ok m) h = in_range m h
moment_read_in Q in_range (Err e) h = tt

moment_in : (t : List ℕ) → IfSome (moment_of t) IsMoment
unfolding moment_of
moment_in t =
    moment_read_in _ (λ m q.
    let (shape, time, written, inside, same) = q in
    let (date, clock) = ranges time.year time.month time.day time.hour time.minute time.second (days_in_month time.year time.month) inside in
    let days = days_from_civil_bound time.year time.month time.day date in
    subst IsMoment (sym same) (within (days_from_civil time.year time.month time.day) time.hour time.minute time.second time.fraction days clock.0 clock.1 clock.2 written.fits.fraction_fits))
    (iso_moment t) (iso_moment_is t).read

letters_in_of : (t : List ℕ) (o : Option Permissions) → letters_of t ≡ o → IfSome o (λ l. has_permission l ≡ true)
letters_in_of t None h = tt
letters_in_of t (Some l) h = (letters_taken t l h).1

kept_policy : (s : Sent) → has_bad_id s ≡ false → IsPolicy (policy_of s)
unfolding policy_of has_bad_id is_good_id
kept_policy s good = record {
  utf8 = (and_parts (is_utf8 s.id_text) (is_policy_id s.id_text) (not_false (is_utf8 s.id_text && is_policy_id s.id_text) good)).0;
  fields = record {
    start = moment_in s.given.start;
    expiry = moment_in s.given.expiry;
    letters = letters_in_of s.given.permission (letters_of s.given.permission) refl;
  };
}

neither : (a b : Bool) → (a || b) ≡ false → (a ≡ false) × (b ≡ false)
neither true b h = (cc, cc)
neither false b h = (refl, h)

kept_policies : (ss : List Sent) → list_any has_bad_id ss ≡ false → All IsPolicy (map policy_of ss)
kept_policies [] good = All-nil IsPolicy
kept_policies (s ∷ ss) good =
    let (one, more) = neither (has_bad_id s) (list_any has_bad_id ss) good in
    All-cons IsPolicy (policy_of s) (map policy_of ss) (kept_policy s one) (kept_policies ss more)

-- ---- their ids have no white space at their ends

abbrev Matches : (A : Type 0) → (A → List Token → Type 0) → (A → Type 0) → Type 0
Matches A IsOne P = (a : A) (tokens : List Token) → IsOne a tokens → P a

elements_all : (A : Type 0) (IsOne : A → List Token → Type 0) (P : A → Type 0) → Matches A IsOne P → (some : List A) (tokens : List Token) → AreElements IsOne some tokens → All P some
elements_all A IsOne P each [] tokens are = All-nil P
elements_all A IsOne P each (a ∷ some) tokens (front, gap, back, is, white, are, whole) = All-cons P a some (each a front is) (elements_all A IsOne P each some back are)

inner_all : (A : Type 0) (name : List ℕ) (IsOne : A → List Token → Type 0) (P : A → Type 0) → Matches A IsOne P → (some : List A) (tokens : List Token) → IsElementOf name IsOne some tokens → All P some
inner_all A name IsOne P each some tokens (inl (gap, inside, white, are, whole)) = elements_all A IsOne P each some inside are
inner_all A name IsOne P each some tokens (inr (whole, none)) = subst (All P) (sym none) (All-nil P)

text_trimmed : (name t : List ℕ) (tokens : List Token) → IsTextElement name t tokens → HasNoWhiteEnds t
text_trimmed name t tokens (inl (x, whole, value)) = subst HasNoWhiteEnds (sym value) (ends_cut_once x)
text_trimmed name t tokens (inr (whole, none)) = subst HasNoWhiteEnds (sym none) refl

abbrev PartTrimmed : Part → Type 0
PartTrimmed (id t) = HasNoWhiteEnds t
PartTrimmed (access a) = Unit {0}

part_trimmed : (part : Part) (tokens : List Token) → IsPart part tokens → PartTrimmed part
part_trimmed (id t) tokens is = text_trimmed id_name t tokens is
part_trimmed (access a) tokens is = tt

ids_trimmed : (parts : List Part) → All PartTrimmed parts → All HasNoWhiteEnds (ids parts)
unfolding ids
ids_trimmed [] are = All-nil HasNoWhiteEnds
ids_trimmed (id t ∷ parts) are = All-cons HasNoWhiteEnds t (ids parts) (All-head PartTrimmed (id t) parts are) (ids_trimmed parts (All-tail PartTrimmed (id t) parts are))
ids_trimmed (access a ∷ parts) are = ids_trimmed parts (All-tail PartTrimmed (access a) parts are)

only_trimmed : (ts : List (List ℕ)) (t : List ℕ) → All HasNoWhiteEnds ts → exactly_one ts ≡ Some t → HasNoWhiteEnds t
only_trimmed [] t are is = cc
only_trimmed (x ∷ []) t are is = subst HasNoWhiteEnds (same_Some x t is) (All-head HasNoWhiteEnds x [] are)
only_trimmed (x ∷ y ∷ more) t are is = cc

abbrev SentTrimmed : Sent → Type 0
SentTrimmed s = HasNoWhiteEnds s.id_text

sent_trimmed : (s : Sent) (tokens : List Token) → IsSent s tokens → SentTrimmed s
unfolding sent_of
sent_trimmed s tokens (parts, is, made) =
    let trimmed = ids_trimmed parts (inner_all Part policy_name IsPart PartTrimmed part_trimmed parts tokens is) in
    option_and_then_some (λ (t : List ℕ). option_map (λ (a : Access). let p : Sent = record { id_text = t; given = a } in p) (at_most_one no_access (accesses parts))) (exactly_one (ids parts)) s made λ t one more.
    mapped_some (λ (a : Access). let p : Sent = record { id_text = t; given = a } in p) (at_most_one no_access (accesses parts)) s more λ a found same.
    subst SentTrimmed same (only_trimmed (ids parts) t trimmed one)

body_trimmed : (body : List ℕ) (sent : List Sent) → ArePoliciesBody body sent → All SentTrimmed sent
body_trimmed body sent b =
    let (before, tokens, root, after, white, is, are, white₂, whole) = b.root in
    inner_all Sent policies_name IsSent SentTrimmed sent_trimmed sent tokens is

policies_trimmed : (ss : List Sent) → All SentTrimmed ss → All Trimmed (map policy_of ss)
unfolding policy_of
policies_trimmed [] are = All-nil Trimmed
policies_trimmed (s ∷ ss) are = All-cons Trimmed (policy_of s) (map policy_of ss) (All-head SentTrimmed s ss are) (policies_trimmed ss (All-tail SentTrimmed s ss are))

-- ---- so they are read again

good_policies : (ss : List Sent) → HasNoFault ss → ArePolicies (map policy_of ss)
good_policies ss (few, ids_are, letters_are, times_are) =
    let good = (neither (list_any has_bad_id ss) (not (has_distinct_ids (map policy_of ss))) ids_are).0 in
    let is = not_false (is_policies (map policy_of ss)) (sym (ids_decide ss few good) ∙ ids_are) in
    (is, kept_policies ss good)

-- policies that were read
pub read_again : (body : List ℕ) (ps : List Policy) → policies_reading body ≡ Ok ps → policies_reading (policies_text ps) ≡ Ok ps
read_again body ps h = elim (says_policies body ps h) [
  | inl (none, no_policies) ↦ subst (λ qs. policies_reading (policies_text qs) ≡ Ok qs) (sym no_policies) (any_read_again [] (refl, All-nil IsPolicy) (All-nil Trimmed))
  | inr (sent, is, good, same) ↦
      subst (λ qs. policies_reading (policies_text qs) ≡ Ok qs) (sym same) (any_read_again (map policy_of sent) (good_policies sent good) (policies_trimmed sent (body_trimmed body sent is)))
]

-- what was written of policies of the code
pub again_if_ok : {V E : Type 0} (items : V → List ℕ) (ps qs : List Policy) (r : Result V E) → qs ≡ ps → IsTrue (is_policies ps) → IfOk r (λ v. items v ≡ policies_text qs) → IfOk r (λ v. All IsPolicy qs)
    → IfOk r (λ v. All Trimmed ps → policies_reading (items v) ≡ Ok ps)
again_if_ok items ps qs (Ok v) same few written kept = λ trimmed. ap policies_reading (written ∙ ap policies_text same) ∙ any_read_again ps (few, subst (All IsPolicy) same kept) trimmed
again_if_ok items ps qs (Err e) same few written kept = tt
