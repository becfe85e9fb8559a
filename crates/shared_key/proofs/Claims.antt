-- What is read from one value is the claim that the value writes.
use Rattle.std.proofs.Common.{◌≡◌, ◌≢◌, ◌↔◌, ℕ, zero, suc, ◌+◌, ◌<◌, ◌≤◌, true, false, cond, List, [], ◌∷◌, ◌++◌, length, get_or, drop, refl, sym, ap, ◌∙◌, arith, eqb-true, rules, subst, ◌⊎◌, inl, inr, Ok, Err, Result}
use Rattle.std.proofs.lemmas.Bool.{cases_order}
use Rattle.std.specs.Prelude.{◌==◌, replicate, slice_index, codes, bytes_eq, IfOk}
use Rattle.std.specs.List.{list_any, position_or_len}
use Rattle.std.proofs.lemmas.List.{append_assoc, take-append-drop, drop_all, get_or-drop}
use Rattle.std.proofs.lemmas.Slice.Eq.{bytes_eq-Decides}
use Rattle.std.proofs.lemmas.List.Sums.{passes_at_first}
use Rattle.shared_key.specs.Authorizations.{Claim, Authorizes, IsAuthorization, HasOtherScheme, HasNoClaim, scheme_of, claim_text, cut_claim, unspaced}
use Rattle.shared_key.specs.Readings.{claim_or_form, claim_or_fault, authorization_of}
use Rattle.shared_key.specs.declared.authorization.HeaderFault.{HeaderFault}
use Rattle.shared_key.specs.declared.authorization.HeaderFault.TheVariants as fault
use Rattle.shared_key.proofs.Cuts.{position_at, before_at, after_at, none_before, whole_from_cut, spaces_of, unspaced-head, unspaced-replicate}

abbrev shared_key : List ℕ
shared_key = codes "SharedKey"

-- a text that is not empty has a length
some_length : (xs : List ℕ) → xs ≢ [] → (length xs == 0) ≡ false
some_length [] h = absurd (h refl)
some_length (x ∷ xs) h = search rules

no_length : (xs : List ℕ) → (length xs == 0) ≡ false → xs ≢ []
no_length [] h e = cc
no_length (x ∷ xs) h e = cc

head_stays : (xs ys : List ℕ) → xs ≢ [] → slice_index (xs ++ ys) 0 ≡ slice_index xs 0
head_stays [] ys h = absurd (h refl)
head_stays (x ∷ xs) ys h = refl

nested : (s r a g : List ℕ) → s ++ r ++ a ++ g ≡ s ++ (r ++ (a ++ g))
nested s r a g = simp append_assoc

regrouped : (n : ℕ) (a g : List ℕ) → shared_key ++ replicate (n + 1) 32 ++ a ++ 58 ∷ g ≡ shared_key ++ (32 ∷ (replicate n 32 ++ (a ++ 58 ∷ g)))
regrouped n a g =
    let next : n + 1 ≡ suc n = omega arith in
    ap (λ k. shared_key ++ replicate k 32 ++ a ++ 58 ∷ g) next ∙ nested shared_key (replicate (suc n) 32) a (58 ∷ g)

text_of : (n : ℕ) (t : List ℕ) → slice_index t 0 ≢ 32 → claim_text (shared_key ++ (32 ∷ (replicate n 32 ++ t))) ≡ t
text_of n t h =
    let at = position_at 32 shared_key (replicate n 32 ++ t) refl in
    ap (λ k. unspaced (drop k (shared_key ++ (32 ∷ (replicate n 32 ++ t))))) at ∙ unspaced-replicate (suc n) t h

cut_of : (a g : List ℕ) → list_any (λ b. b == 58) a ≡ false → cut_claim (a ++ 58 ∷ g) ≡ record { account = a; signature = g }
cut_of a g none = λ i. record { account = before_at 58 a g none i; signature = after_at 58 a g none i }

claim_or_form_ok : (claim : Claim) → claim.account ≢ [] → claim.signature ≢ [] → claim_or_form claim ≡ Ok claim
claim_or_form_ok claim a g = rw (some_length claim.account a, some_length claim.signature g) refl

-- a value that writes a claim is read as the claim
pub read_printed : (value : List ℕ) (claim : Claim) → Authorizes value claim → claim_or_fault value ≡ Ok claim
read_printed value claim printed =
    let n = printed.0 in
    let account = printed.2 in
    let t = claim.account ++ 58 ∷ claim.signature in
    let is : value ≡ shared_key ++ (32 ∷ (replicate n 32 ++ t)) = printed.1 ∙ regrouped n claim.account claim.signature in
    let head : slice_index t 0 ≢ 32 = λ e. account.2 (sym (head_stays claim.account (58 ∷ claim.signature) account.0) ∙ e) in
    let scheme = before_at 32 shared_key (replicate n 32 ++ t) refl in
    let text : cut_claim (claim_text (shared_key ++ (32 ∷ (replicate n 32 ++ t)))) ≡ claim = ap cut_claim (text_of n t head) ∙ cut_of claim.account claim.signature account.1 in
    ap claim_or_fault is
    ∙ ap (λ s. cond (bytes_eq s shared_key) (claim_or_form (cut_claim (claim_text (shared_key ++ (32 ∷ (replicate n 32 ++ t)))))) (Err fault.Scheme)) scheme
    ∙ ap claim_or_form text ∙ claim_or_form_ok claim account.0 printed.3

inside_by : {i n : ℕ} → (i ≡ n) ⊎ ((i < n) ⊎ (n < i)) → (n ≤ i → ⊥) → i < n
inside_by (inl e) never = absurd (never (omega arith))
inside_by (inr (inl l)) never = l
inside_by (inr (inr g)) never = absurd (never (omega arith))

-- if the claim text is not empty, there is at least one space before it
has_space_before : (value : List ℕ) (n : ℕ) → scheme_of value ≡ shared_key → claim_text value ≢ [] → drop (position_or_len (λ b. b == 32) value) value ≡ replicate n 32 ++ claim_text value → (m : ℕ) × (n ≡ m + 1)
has_space_before value zero scheme some is =
    let at = position_or_len (λ b. b == 32) value in
    let inside : at < length value = inside_by (cases_order at (length value)) (λ short. some (sym is ∙ drop_all at value short)) in
    let byte = eqb-true (get_or value at 0) 32 (passes_at_first (λ b. b == 32) value 0 inside) in
    let first : slice_index (claim_text value) 0 ≡ get_or value at 0 =
    ap (λ l. slice_index l 0) (sym is) ∙ get_or-drop at value 0 0 ∙ ap (λ k. get_or value k 0) (omega arith) in
    absurd (unspaced-head (drop at value) (first ∙ byte))
has_space_before value (suc m) scheme some is = (m, omega arith)

no_text : (text : List ℕ) → (cut_claim text).account ≢ [] → text ≢ []
no_text text some none = some (ap (λ t. (cut_claim t).account) none)

-- a value that is read writes the claim that is read
pub printed_from_cut : (value : List ℕ) → scheme_of value ≡ shared_key → (cut_claim (claim_text value)).account ≢ [] → (cut_claim (claim_text value)).signature ≢ [] → Authorizes value (cut_claim (claim_text value))
printed_from_cut value scheme account signature =
    let at = position_or_len (λ b. b == 32) value in
    let text = claim_text value in
    let claim = cut_claim text in
    let spaces = spaces_of (drop at value) in
    let some = has_space_before value spaces.0 scheme (no_text text account) spaces.1 in
    let parts = whole_from_cut 58 text signature in
    let whole : value ≡ shared_key ++ (replicate (some.0 + 1) 32 ++ (claim.account ++ 58 ∷ claim.signature)) =
    sym (take-append-drop at value) ∙ ap (λ (s : List ℕ). s ++ drop at value) scheme ∙ ap (λ (r : List ℕ). shared_key ++ r) spaces.1
    ∙ ap (λ n. shared_key ++ (replicate n 32 ++ text)) some.1 ∙ ap (λ (t : List ℕ). shared_key ++ (replicate (some.0 + 1) 32 ++ t)) parts in
    let head : slice_index claim.account 0 ≢ 32 = λ e.
    unspaced-head (drop at value) (ap (λ t. slice_index t 0) parts ∙ head_stays claim.account (58 ∷ claim.signature) account ∙ e) in
    (some.0, whole ∙ sym (nested shared_key (replicate (some.0 + 1) 32) claim.account (58 ∷ claim.signature)), (account, none_before 58 text, head), signature)

-- a text is empty, or it is not
empty_or_not : (xs : List ℕ) → ((length xs == 0) ≡ true) ⊎ (xs ≢ [])
empty_or_not [] = inl refl
empty_or_not (x ∷ xs) = inr (λ e. cc)

-- what a value can be: its scheme, and what is read from it
data Outcome (value : List ℕ) : Type 0 where
  other_scheme : scheme_of value ≢ shared_key → claim_or_fault value ≡ Err fault.Scheme → Outcome value
  no_claim : scheme_of value ≡ shared_key → claim_or_fault value ≡ Err fault.Form → Outcome value
  a_claim : scheme_of value ≡ shared_key → Authorizes value (cut_claim (claim_text value)) → claim_or_fault value ≡ Ok (cut_claim (claim_text value)) → Outcome value

no_account : (claim : Claim) → (length claim.account == 0) ≡ true → claim_or_form claim ≡ Err fault.Form
no_account claim none = rw none refl

no_signature : (claim : Claim) → claim.account ≢ [] → (length claim.signature == 0) ≡ true → claim_or_form claim ≡ Err fault.Form
no_signature claim a none = rw (some_length claim.account a, none) refl

right_scheme : (value : List ℕ) → scheme_of value ≡ shared_key → claim_or_fault value ≡ claim_or_form (cut_claim (claim_text value))
right_scheme value scheme = ap (λ s. cond (bytes_eq s shared_key) (claim_or_form (cut_claim (claim_text value))) (Err fault.Scheme)) scheme

claimed : (value : List ℕ) → scheme_of value ≡ shared_key → Outcome value
claimed value scheme =
    let claim = cut_claim (claim_text value) in
    let read = right_scheme value scheme in
    elim (empty_or_not claim.account) [
      | inl none ↦ no_claim scheme (read ∙ no_account claim none)
      | inr account ↦ elim (empty_or_not claim.signature) [
        | inl none ↦ no_claim scheme (read ∙ no_signature claim account none)
        | inr signature ↦ a_claim scheme (printed_from_cut value scheme account signature) (read ∙ claim_or_form_ok claim account signature)
      ]
    ]

outcome : (value : List ℕ) → Outcome value
outcome value =
    let same = bytes_eq-Decides (scheme_of value) shared_key in
    elim (bytes_eq (scheme_of value) shared_key) as (λ b. bytes_eq (scheme_of value) shared_key ≡ b → Outcome value) [
      | true ↦ λ h. claimed value (same.0 h)
      | false ↦ λ h. other_scheme (λ e. let yes = same.1 e in cc) (ap (λ b. cond b (claim_or_form (cut_claim (claim_text value))) (Err fault.Scheme)) h)
    ] refl

prints : (value : List ℕ) (claim : Claim) → claim_or_fault value ≡ Ok claim → Outcome value → Authorizes value claim
prints value claim is (other_scheme s r) = cc
prints value claim is (no_claim s r) = cc
prints value claim is (a_claim s printed r) = let same : cut_claim (claim_text value) ≡ claim = cc in subst (Authorizes value) same printed

has_other_scheme : (value : List ℕ) → claim_or_fault value ≡ Err fault.Scheme → Outcome value → scheme_of value ≢ shared_key
has_other_scheme value is (other_scheme s r) = s
has_other_scheme value is (no_claim s r) = cc
has_other_scheme value is (a_claim s printed r) = cc

refused_scheme : (value : List ℕ) → scheme_of value ≢ shared_key → Outcome value → claim_or_fault value ≡ Err fault.Scheme
refused_scheme value other (other_scheme s r) = r
refused_scheme value other (no_claim s r) = absurd (other s)
refused_scheme value other (a_claim s printed r) = absurd (other s)

has_scheme : (value : List ℕ) → claim_or_fault value ≡ Err fault.Form → Outcome value → scheme_of value ≡ shared_key
has_scheme value is (other_scheme s r) = cc
has_scheme value is (no_claim s r) = s
has_scheme value is (a_claim s printed r) = cc

refused_form : (value : List ℕ) → scheme_of value ≡ shared_key → ((claim : Claim) → Authorizes value claim → ⊥) → Outcome value → claim_or_fault value ≡ Err fault.Form
refused_form value scheme none (other_scheme s r) = absurd (s scheme)
refused_form value scheme none (no_claim s r) = r
refused_form value scheme none (a_claim s printed r) = absurd (none _ printed)

-- if the header was sent once
module _ (values : List (List ℕ)) (value : List ℕ) (result : Result Claim HeaderFault) (once : values ≡ value ∷ []) (is : result ≡ claim_or_fault value) where
  only : (other : List ℕ) → values ≡ other ∷ [] → other ≡ value
  only other too = cc

  if_ok : (r : Result Claim HeaderFault) → r ≡ claim_or_fault value → IfOk r (λ claim. IsAuthorization values claim)
  if_ok (Ok claim) e = (value, once, prints value claim (sym e) (outcome value))
  if_ok (Err f) e = tt

  pub value_clause : result ≡ authorization_of values
  value_clause = is ∙ ap authorization_of (sym once)

  pub read_clause : IfOk result (λ claim. IsAuthorization values claim)
  read_clause = if_ok result is

  pub complete_clause : (claim : Claim) → IsAuthorization values claim → result ≡ Ok claim
  complete_clause claim given = is ∙ ap claim_or_fault (sym (only given.0 given.1)) ∙ read_printed given.0 claim given.2

  pub scheme_clause : (result ≡ Err fault.Scheme) ↔ HasOtherScheme values
  scheme_clause = (
    λ e. (value, once, has_other_scheme value (sym is ∙ e) (outcome value)),
    λ given. is ∙ ap claim_or_fault (sym (only given.0 given.1)) ∙ refused_scheme given.0 given.2 (outcome given.0),
  )

  form_back : HasNoClaim values → result ≡ Err fault.Form
  form_back (inl none) = cc
  form_back (inr given) = is ∙ ap claim_or_fault (sym (only given.0 given.1)) ∙ refused_form given.0 given.2 given.3 (outcome given.0)

  pub form_clause : (result ≡ Err fault.Form) ↔ HasNoClaim values
  form_clause =
      (λ e. inr (value, once, has_scheme value (sym is ∙ e) (outcome value), λ claim printed. let read = read_printed value claim printed in cc), form_back)

-- a list with one member
pub one_member : {X : Type 0} (xs : List X) (x : X) → length xs < 2 → 1 ≤ length xs → x ≡ get_or xs 0 x → xs ≡ x ∷ []
one_member [] x short some is = absurd (omega arith)
one_member (y ∷ []) x short some is = λ i. sym is i ∷ []
one_member (y ∷ z ∷ zs) x short some is = absurd (omega arith)
