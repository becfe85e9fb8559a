-- Names that were sent twice.
use Rattle.std.proofs.Common.{◌≡◌, ℕ, Bool, true, false, not, ◌&&◌, ◌||◌, List, [], ◌∷◌, bytes_eq, cond, refl, sym, ap, ◌∙◌}
use Rattle.std.proofs.lemmas.Slice.Eq.{bytes_eq-Decides}
use Rattle.std.specs.List.{list_any}
use Rattle.stamp_values.specs.Fields.{is_sent, is_sent_twice, standard_names}
use Rattle.stamp_values.specs.declared.signing.Field.{Field}
use Rattle.stamp_values.proofs.FieldLemmas.{is_sent_twice_none, is_sent_twice_cons}
use Rattle.request_form.specs.HeadFields.{is_own_name, is_meta}
use Rattle.request_form.specs.HeadRules.{has_own_twice, has_standard_twice, is_own_twice}

-- if a name that passes was sent twice, some field has a name that passes
named_passes : (p : List ℕ → Bool) (name : List ℕ) → p name ≡ true → (fs : List Field) → is_sent_twice fs name ≡ true → list_any (λ f. p f.name) fs ≡ true
named_passes p name passes [] twice = sym (is_sent_twice_none name) ∙ twice
named_passes p name passes (f ∷ fs) twice = by_name (bytes_eq f.name name) refl (named_passes p name passes fs)
  where
    later : (b : Bool) → list_any (λ g. p g.name) fs ≡ true → (b || list_any (λ g. p g.name) fs) ≡ true
    later true e = refl
    later false e = e

    by_name : (b : Bool) → bytes_eq f.name name ≡ b → (is_sent_twice fs name ≡ true → list_any (λ g. p g.name) fs ≡ true) → list_any (λ g. p g.name) (f ∷ fs) ≡ true
    by_name true e others = ap (λ b. b || list_any (λ g. p g.name) fs) (ap p ((bytes_eq-Decides f.name name).0 e) ∙ passes)
    by_name false e others =
        later (p f.name)
        (others (ap (λ b. cond b (is_sent fs name) (is_sent_twice fs name)) (sym e) ∙ sym (is_sent_twice_cons f fs name) ∙ twice))

-- no name was sent twice
never_twice : (fields : List Field) → list_any (λ f. is_sent_twice fields f.name) fields ≡ false → (name : List ℕ) → is_sent_twice fields name ≡ false
never_twice fields none name = by_case (is_sent_twice fields name) refl
  where
    by_case : (b : Bool) → is_sent_twice fields name ≡ b → b ≡ false
    by_case true e = sym (named_passes (is_sent_twice fields) name e fields e) ∙ none
    by_case false e = refl

-- no element passes
none_of : {X : Type 0} (p : X → Bool) → ((x : X) → p x ≡ false) → (xs : List X) → list_any p xs ≡ false
none_of p fails [] = refl
none_of p fails (x ∷ xs) = ap (λ b. b || list_any p xs) (fails x) ∙ none_of p fails xs

last_false : (a b : Bool) → (a && b && false) ≡ false
last_false true true = refl
last_false true false = refl
last_false false b = refl

no_standard_twice : (fields : List Field) → list_any (λ f. is_sent_twice fields f.name) fields ≡ false → has_standard_twice fields ≡ false
unfolding has_standard_twice
no_standard_twice fields none = none_of (is_sent_twice fields) (never_twice fields none) standard_names

no_own_twice : (fields : List Field) → list_any (λ f. is_sent_twice fields f.name) fields ≡ false → has_own_twice fields ≡ false
unfolding has_own_twice
no_own_twice fields none =
    none_of (λ f. is_own_twice fields f.name)
    (λ f. ap (λ b. is_own_name f.name && not (is_meta f.name) && b) (never_twice fields none f.name) ∙ last_false (is_own_name f.name) (not (is_meta f.name))) fields

-- if no name was sent twice, no header was sent twice that may be sent once
pub no_bad_twice : (fields : List Field) → list_any (λ f. is_sent_twice fields f.name) fields ≡ false → (has_standard_twice fields || has_own_twice fields) ≡ false
no_bad_twice fields none = ap (λ b. b || has_own_twice fields) (no_standard_twice fields none) ∙ no_own_twice fields none
