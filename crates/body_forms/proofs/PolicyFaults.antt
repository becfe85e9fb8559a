-- What each answer of the reader of stored policies says.
use Rattle.std.proofs.Common.{◌≡◌, ◌≢◌, inl, inr, ℕ, Bool, true, false, ◌&&◌, cond, nat_lt, List, [], ◌∷◌, length, map, Option, Some, None, Result, Ok, Err, refl, sym, ap, ◌∙◌, subst}
use Rattle.std.specs.Prelude.{option_and_then}
use Rattle.std.proofs.lemmas.Option.{none-some}
use Rattle.stamp_values.specs.Texts.{is_utf8}
use Rattle.xml_text.specs.Bodies.{are_controls_white}
use Rattle.xml_text.specs.FrontReading.{after_mark, after_prolog}
use Rattle.xml_text.specs.Reading.{tag_at}
use Rattle.xml_text.specs.ElementReading.{root_of}
use Rattle.std.specs.List.{list_any}
use Rattle.stamp_values.specs.declared.policy.Policy.{Policy}
use Rattle.stamp_values.specs.Limits.{policies_limit}
use Rattle.body_forms.specs.declared.body_fault.BodyFault.{BodyFault}
use Rattle.body_forms.specs.declared.body_fault.BodyFault.TheVariants as fault
use Rattle.body_forms.specs.PolicyReading.{policies_of, body_policies}
use Rattle.body_forms.specs.Outcomes.{FaultOf}
use Rattle.body_forms.specs.Policies.{Sent, ArePoliciesBody}
use Rattle.body_forms.specs.PolicyValues.{policy_of, has_bad_letters, has_bad_time, have_bad_ids, are_too_many, judged, judged_form, policies_reading, HasNoFault, IsFirstFault, SaysPolicies, SaysFault}
use Rattle.body_forms.proofs.PolicyLemmas.{policies_sound, no_policies}

-- the first of the four faults, by the tests
abbrev chosen : Bool → Bool → Bool → Bool → List Policy → Result (List Policy) BodyFault
chosen many ids letters times ps = cond many (Err fault.TooMany) (cond ids (Err fault.Id) (cond letters (Err fault.Letters) (cond times (Err fault.Time) (Ok ps))))

-- ---- the first fault

-- no test passes
abbrev NonePasses : Bool → Bool → Bool → Bool → Type 0
NonePasses many ids letters times = (many ≡ false) × (ids ≡ false) × (letters ≡ false) × (times ≡ false)

-- the first test that passes is of this fault
abbrev IsFirst : BodyFault → Bool → Bool → Bool → Bool → Type 0
IsFirst fault.TooMany many ids letters times = many ≡ true
IsFirst fault.Id many ids letters times = (many ≡ false) × (ids ≡ true)
IsFirst fault.Letters many ids letters times = (many ≡ false) × (ids ≡ false) × (letters ≡ true)
IsFirst fault.Time many ids letters times = (many ≡ false) × (ids ≡ false) × (letters ≡ false) × (times ≡ true)
IsFirst other many ids letters times = ⊥

none_passes : (many ids letters times : Bool) (ps qs : List Policy) → chosen many ids letters times ps ≡ Ok qs → NonePasses many ids letters times × (qs ≡ ps)
none_passes true ids letters times ps qs h = absurd (cc)
none_passes false true letters times ps qs h = absurd (cc)
none_passes false false true times ps qs h = absurd (cc)
none_passes false false false true ps qs h = absurd (cc)
none_passes false false false false ps qs h = ((refl, refl, refl, refl), cc)

is_first : (many ids letters times : Bool) (ps : List Policy) (f : BodyFault) → chosen many ids letters times ps ≡ Err f → IsFirst f many ids letters times
is_first true ids letters times ps f h = let same : fault.TooMany ≡ f = cc in subst (λ e. IsFirst e true ids letters times) same refl
is_first false true letters times ps f h = let same : fault.Id ≡ f = cc in subst (λ e. IsFirst e false true letters times) same (refl, refl)
is_first false false true times ps f h = let same : fault.Letters ≡ f = cc in subst (λ e. IsFirst e false false true times) same (refl, refl, refl)
is_first false false false true ps f h = let same : fault.Time ≡ f = cc in subst (λ e. IsFirst e false false false true) same (refl, refl, refl, refl)
is_first false false false false ps f h = absurd (cc)

first_chosen : (f : BodyFault) (many ids letters times : Bool) (ps : List Policy) → IsFirst f many ids letters times → chosen many ids letters times ps ≡ Err f
first_chosen fault.Form many ids letters times ps is = absurd is
first_chosen fault.TooMany many ids letters times ps is = rw is refl
first_chosen fault.Id many ids letters times ps (a, b) = rw (a, b) refl
first_chosen fault.Letters many ids letters times ps (a, b, c) = rw (a, b, c) refl
first_chosen fault.Time many ids letters times ps (a, b, c, d) = rw (a, b, c, d) refl
first_chosen fault.NoMemory many ids letters times ps is = absurd is

-- what is judged good has no fault
pub judged_good : (ss : List Sent) (ps : List Policy) → judged ss ≡ Ok ps → HasNoFault ss × (ps ≡ map policy_of ss)
unfolding judged
judged_good ss ps h = none_passes (are_too_many ss) (have_bad_ids ss) (list_any has_bad_letters ss) (list_any has_bad_time ss) (map policy_of ss) ps h

pub good_judged : (ss : List Sent) → HasNoFault ss → judged ss ≡ Ok (map policy_of ss)
unfolding judged
good_judged ss (a, b, c, d) = rw (a, b, c, d) refl

first_fault : (ss : List Sent) (f : BodyFault) → judged ss ≡ Err f → IsFirstFault f ss
unfolding judged
first_fault ss fault.Form h = is_first (are_too_many ss) (have_bad_ids ss) (list_any has_bad_letters ss) (list_any has_bad_time ss) (map policy_of ss) fault.Form h
first_fault ss fault.TooMany h = is_first (are_too_many ss) (have_bad_ids ss) (list_any has_bad_letters ss) (list_any has_bad_time ss) (map policy_of ss) fault.TooMany h
first_fault ss fault.Id h = is_first (are_too_many ss) (have_bad_ids ss) (list_any has_bad_letters ss) (list_any has_bad_time ss) (map policy_of ss) fault.Id h
first_fault ss fault.Letters h = is_first (are_too_many ss) (have_bad_ids ss) (list_any has_bad_letters ss) (list_any has_bad_time ss) (map policy_of ss) fault.Letters h
first_fault ss fault.Time h = is_first (are_too_many ss) (have_bad_ids ss) (list_any has_bad_letters ss) (list_any has_bad_time ss) (map policy_of ss) fault.Time h
first_fault ss fault.NoMemory h = is_first (are_too_many ss) (have_bad_ids ss) (list_any has_bad_letters ss) (list_any has_bad_time ss) (map policy_of ss) fault.NoMemory h

pub fault_judged : (f : BodyFault) (ss : List Sent) → IsFirstFault f ss → judged ss ≡ Err f
unfolding judged
fault_judged fault.Form ss is = absurd is
fault_judged fault.TooMany ss is = first_chosen fault.TooMany (are_too_many ss) (have_bad_ids ss) (list_any has_bad_letters ss) (list_any has_bad_time ss) (map policy_of ss) is
fault_judged fault.Id ss is = first_chosen fault.Id (are_too_many ss) (have_bad_ids ss) (list_any has_bad_letters ss) (list_any has_bad_time ss) (map policy_of ss) is
fault_judged fault.Letters ss is = first_chosen fault.Letters (are_too_many ss) (have_bad_ids ss) (list_any has_bad_letters ss) (list_any has_bad_time ss) (map policy_of ss) is
fault_judged fault.Time ss is = first_chosen fault.Time (are_too_many ss) (have_bad_ids ss) (list_any has_bad_letters ss) (list_any has_bad_time ss) (map policy_of ss) is
fault_judged fault.NoMemory ss is = absurd is

-- ---- the body

no_form : (many ids letters times : Bool) (ps : List Policy) → chosen many ids letters times ps ≡ Err fault.Form → ⊥
no_form true ids letters times ps h = cc
no_form false true letters times ps h = cc
no_form false false true times ps h = cc
no_form false false false true ps h = cc
no_form false false false false ps h = cc

judged_no_form : (ss : List Sent) → judged ss ≡ Err fault.Form → ⊥
unfolding judged
judged_no_form ss h = no_form (nat_lt policies_limit (length ss)) (have_bad_ids ss) (list_any has_bad_letters ss) (list_any has_bad_time ss) (map policy_of ss) h

-- no bytes are not a list of policies
nothing_read : (b : Bool) → cond b (option_and_then policies_of (after_prolog (after_mark []))) None ≡ None
unfolding root_of tag_at
nothing_read true = refl
nothing_read false = refl

-- a list of policies is read as its policies, or as the first fault of them
pub reading_is : (body : List ℕ) (ss : List Sent) → body_policies body ≡ Some ss → policies_reading body ≡ judged ss
reading_is [] ss read = let none = nothing_read (is_utf8 [] && are_controls_white []) in absurd (none-some ss (sym none ∙ read))
reading_is (b ∷ bs) ss read = ap judged_form read

-- the list of policies that a body is, if the reading is not of form
sent_of_body : (body : List ℕ) (o : Option (List Sent)) (r : Result (List Policy) BodyFault) → body_policies body ≡ o → judged_form o ≡ r → r ≢ Err fault.Form
    → (sent : List Sent) × ArePoliciesBody body sent × (judged sent ≡ r)
sent_of_body body None r read h other = absurd (other (sym h))
sent_of_body body (Some ss) r read h other = (ss, policies_sound body ss read, h)

not_formed : (body : List ℕ) (o : Option (List Sent)) → body_policies body ≡ o → judged_form o ≡ Err fault.Form → (sent : List Sent) → ArePoliciesBody body sent → ⊥
not_formed body None read h sent is = no_policies body sent read is
not_formed body (Some ss) read h sent is = judged_no_form ss h

pub says_policies : (body : List ℕ) (ps : List Policy) → policies_reading body ≡ Ok ps → SaysPolicies body ps
says_policies [] ps h = inl (refl, cc)
says_policies (b ∷ bs) ps h =
    let (sent, is, made) = sent_of_body (b ∷ bs) (body_policies (b ∷ bs)) (Ok ps) refl h (λ e. cc) in
    let (good, same) = judged_good sent ps made in
    inr (sent, is, good, same)

other_fault : (body : List ℕ) (f : BodyFault) → (f ≡ fault.Form → ⊥) → policies_reading body ≡ Err f → (sent : List Sent) × ArePoliciesBody body sent × IsFirstFault f sent
other_fault [] f other h = cc
other_fault (b ∷ bs) f other h =
    let (sent, is, made) = sent_of_body (b ∷ bs) (body_policies (b ∷ bs)) (Err f) refl h (λ e. other (cc)) in
    (sent, is, first_fault sent f made)

form_fault : (body : List ℕ) → policies_reading body ≡ Err fault.Form → SaysFault body fault.Form
form_fault [] h = cc
form_fault (b ∷ bs) h = (λ e. cc, not_formed (b ∷ bs) (body_policies (b ∷ bs)) refl h)

pub says_fault : (body : List ℕ) (f : BodyFault) → FaultOf (policies_reading body) f → SaysFault body f
says_fault body fault.Form h = form_fault body h
says_fault body fault.TooMany h = other_fault body fault.TooMany (λ e. cc) h
says_fault body fault.Id h = other_fault body fault.Id (λ e. cc) h
says_fault body fault.Letters h = other_fault body fault.Letters (λ e. cc) h
says_fault body fault.Time h = other_fault body fault.Time (λ e. cc) h
says_fault body fault.NoMemory h = tt
