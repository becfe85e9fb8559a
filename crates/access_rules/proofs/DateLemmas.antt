-- The text of the date of a request.
use Rattle.std.proofs.Common.{◌≡◌, ℕ, inl, inr, Bool, true, false, cond, ◌||◌, List, [], ◌∷◌, Option, Some, None, refl, ap, ◌∙◌}
use Rattle.std.specs.Prelude.{codes, find}
use Rattle.std.specs.Option.{option_map, option_or}
use Rattle.stamp_values.specs.Fields.{first_value, has_name, is_sent}
use Rattle.stamp_values.specs.declared.signing.Field.{Field}
use Rattle.access_rules.specs.Dates.{IsDateText}
use Rattle.access_rules.specs.Parts.{date_text}

-- a header without a value was not sent
unsent : (name : List ℕ) (headers : List Field) → first_value headers name ≡ None → is_sent headers name ≡ false
unsent name [] none = refl
unsent name (h ∷ headers) none = by (has_name name h) none (unsent name headers)
  where
    by : (b : Bool) → option_map (λ (f : Field). f.value) (cond b (Some h) (find (has_name name) headers)) ≡ None → (first_value headers name ≡ None → is_sent headers name ≡ false)
        → (b || is_sent headers name) ≡ false
    by true none more = cc
    by false none more = more none

-- a header that was not sent has no value
without_value : (name : List ℕ) (headers : List Field) → is_sent headers name ≡ false → first_value headers name ≡ None
without_value name [] none = refl
without_value name (h ∷ headers) none = by (has_name name h) none (without_value name headers)
  where
    by : (b : Bool) → (b || is_sent headers name) ≡ false → (is_sent headers name ≡ false → first_value headers name ≡ None)
        → option_map (λ (f : Field). f.value) (cond b (Some h) (find (has_name name) headers)) ≡ None
    by true none more = cc
    by false none more = more none

-- the text that the code judges is the date of the request
pub is_date_text : (headers : List Field) (text : List ℕ) → date_text headers ≡ Some text → IsDateText headers text
is_date_text headers text is = by (first_value headers (codes "x-ms-date")) refl is
  where
    by : (own : Option (List ℕ)) → first_value headers (codes "x-ms-date") ≡ own → option_or own (first_value headers (codes "date")) ≡ Some text → IsDateText headers text
    by None unset is = inr (unsent (codes "x-ms-date") headers unset, is)
    by (Some own) set is = inl (set ∙ is)

-- the date of the request is the text that the code judges
pub date_text_is : (headers : List Field) (text : List ℕ) → IsDateText headers text → date_text headers ≡ Some text
date_text_is headers text (inl set) = ap (λ own. option_or own (first_value headers (codes "date"))) set
date_text_is headers text (inr unset) =
    ap (λ own. option_or own (first_value headers (codes "date"))) (without_value (codes "x-ms-date") headers unset.0) ∙ unset.1
