-- A query is one token at most, and not a token if it has a fault.
use Rattle.std.proofs.Common.{◌≡◌, ℕ, Bool, true, false, ◌||◌, List, [], ◌∷◌, Option, Some, None, Result, Ok, Err, MatchResult, codes, refl, sym, ap, ◌∙◌, inl, inr, unwrap_or, bytes_eq, if◌then◌else◌}
use Rattle.stamp_values.specs.Fields.{first_value}
use Rattle.stamp_values.specs.Letters.{Permissions, letters_text, permissions_in}
use Rattle.stamp_values.proofs.LetterLemmas.{permissions_in-letters_text}
use Rattle.stamp_values.specs.declared.signing.Field.{Field}
use Rattle.sas_token.specs.declared.fault.TokenFault.{TokenFault}
use Rattle.sas_token.specs.declared.fault.TokenFault.TheVariants.{Twice, Missing, Version, Resource as OtherResource, Letters, Time, Header, NoMemory}
use Rattle.sas_token.specs.declared.token.Resource.{Resource}
use Rattle.sas_token.specs.declared.token.Resource.TheVariants.{Container, Blob}
use Rattle.sas_token.specs.Tokens.{Sent, IsToken, HasCause, fault_order, IsFirst, IsFault, GivesLetters, GivesTime, are_visible, is_served, overrides_for, overrides_twice, resource_letter}

pub same_letters : (text : List ℕ) (a b : Option Permissions) → GivesLetters text a → GivesLetters text b → a ≡ b
same_letters text None None h k = refl
same_letters text None (Some b) h k = absurd (k.0 h)
same_letters text (Some a) None h k = absurd (h.0 k)
same_letters text (Some a) (Some b) h k =
    ap Some (sym (permissions_in-letters_text a) ∙ ap permissions_in (sym h.1 ∙ k.1) ∙ permissions_in-letters_text b)

pub same_time : (text : List ℕ) (a b : Option ℕ) → GivesTime text a → GivesTime text b → a ≡ b
same_time text None None h k = refl
same_time text None (Some b) h k = absurd (k.0 h)
same_time text (Some a) None h k = absurd (h.0 k)
same_time text (Some a) (Some b) h k = let e = h.1 in let f = k.1 in cc

-- the kind of the resource whose letter is the text
abbrev resource_in : List ℕ → Resource
resource_in text = if bytes_eq text (codes "b") then Blob else Container

resource_in-resource_letter : (r : Resource) → resource_in (resource_letter r) ≡ r
resource_in-resource_letter Container = refl
resource_in-resource_letter Blob = refl

same_resource : (a b : Resource) → resource_letter a ≡ resource_letter b → a ≡ b
same_resource a b e = sym (resource_in-resource_letter a) ∙ ap resource_in e ∙ resource_in-resource_letter b

some_is : {A : Type 0} (o : Option A) (a b : A) → o ≡ Some a → o ≡ Some b → a ≡ b
some_is o a b e f = cc

-- a query is one token at most
pub one_token : (q : List Field) (t u : Sent) → IsToken q t → IsToken q u → t ≡ u
one_token q t u a b =
    let permissions = a.permissions ∙ sym b.permissions in
    let start_text = a.start_text ∙ sym b.start_text in
    let expiry_text = a.expiry_text ∙ sym b.expiry_text in
    let version = some_is _ t.version u.version a.version b.version in
    let resource = same_resource t.resource u.resource (some_is _ (resource_letter t.resource) (resource_letter u.resource) a.resource b.resource) in
    let signature = some_is _ t.signature u.signature a.signature b.signature in
    let letters = same_letters u.permissions t.letters u.letters (rw permissions at a.letters) b.letters in
    let start = same_time u.start_text t.start u.start (rw start_text at a.start) b.start in
    let expiry = same_time u.expiry_text t.expiry u.expiry (rw expiry_text at a.expiry) b.expiry in
    let id = a.id ∙ sym b.id in
    let overrides = a.overrides ∙ ap (overrides_for q) version ∙ sym b.overrides in
    λ i. record {
      version = version i;
      resource = resource i;
      permissions = permissions i;
      start_text = start_text i;
      expiry_text = expiry_text i;
      id = id i;
      signature = signature i;
      letters = letters i;
      start = start i;
      expiry = expiry i;
      overrides = overrides i;
    }

-- a token has no cause of a fault
no_cause : (q : List Field) (t : Sent) → IsToken q t → (f : TokenFault) → ¬ HasCause q f
no_cause q t a Twice h =
    let sent : overrides_twice q (unwrap_or (first_value q (codes "sv")) []) ≡ overrides_twice q t.version = ap (λ o. overrides_twice q (unwrap_or o [])) a.version in
    let e : false ≡ true = sym (λ i. a.once i || (sent ∙ a.overrides_once) i) ∙ h in cc
no_cause q t a Missing (inl h) = let e = a.version in cc
no_cause q t a Missing (inr (inl h)) = let e = a.resource in cc
no_cause q t a Missing (inr (inr h)) = let e = a.signature in cc
no_cause q t a Version h = let e : true ≡ false = sym (ap (λ o. is_served (unwrap_or o [])) a.version ∙ a.served) ∙ h in cc
no_cause q t a OtherResource h = h t.resource (ap (λ o. unwrap_or o []) a.resource)
no_cause q t a Letters h = h t.letters (rw a.permissions at a.letters)
no_cause q t a Time (inl h) = h t.start (rw a.start_text at a.start)
no_cause q t a Time (inr h) = h t.expiry (rw a.expiry_text at a.expiry)
no_cause q t a Header h =
    let e : true ≡ false = sym (ap (λ o. are_visible (overrides_for q (unwrap_or o []))) a.version ∙ ap are_visible (sym a.overrides) ∙ a.visible) ∙ h in cc
no_cause q t a NoMemory h = h

no_first : (P : TokenFault → Type 0) → ((f : TokenFault) → ¬ P f) → (fs : List TokenFault) (f : TokenFault) → ¬ IsFirst P fs f
no_first P none [] f h = h
no_first P none (g ∷ gs) f (inl h) = none g h.0
no_first P none (g ∷ gs) f (inr h) = no_first P none gs f h.1

-- a query with a fault is not a token
pub no_token : (q : List Field) (t : Sent) (f : TokenFault) → IsToken q t → ¬ IsFault q f
no_token q t f a h = no_first (HasCause q) (no_cause q t a) fault_order f h

-- no two faults are the first
first_fault : (P : TokenFault → Type 0) (fs : List TokenFault) (f g : TokenFault) → IsFirst P fs f → IsFirst P fs g → f ≡ g
first_fault P [] f g h k = absurd h
first_fault P (e ∷ es) f g (inl h) (inl k) = h.1 ∙ sym k.1
first_fault P (e ∷ es) f g (inl h) (inr k) = absurd (k.0 h.0)
first_fault P (e ∷ es) f g (inr h) (inl k) = absurd (h.0 k.0)
first_fault P (e ∷ es) f g (inr h) (inr k) = first_fault P es f g h.1 k.1

-- a query has one fault at most
pub one_fault : (q : List Field) (f g : TokenFault) → IsFault q f → IsFault q g → f ≡ g
one_fault q f g h k = first_fault (HasCause q) fault_order f g h k

-- a token is what is read
pub token_read : (q : List Field) (r : Result Sent TokenFault) (t : Sent) → MatchResult r (IsToken q) (IsFault q) → IsToken q t → r ≡ Ok t
token_read q (Ok u) t h a = ap Ok (one_token q u t h a)
token_read q (Err f) t h a = absurd (no_token q t f a h)
