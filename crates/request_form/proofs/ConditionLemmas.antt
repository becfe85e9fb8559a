-- Conditions that are ETags.
use Rattle.std.proofs.Common.{◌≡◌, ◌<◌, ◌/◌, ◌%◌, ◌^◌, ℕ, zero, suc, Bool, true, false, cond, List, [], ◌∷◌, ◌++◌, take, drop, bytes_eq, codes, refl, sym, ap, subst, ◌∙◌, arith}
use Rattle.std.proofs.Math.Arith.{mod-mul}
use Rattle.std.proofs.Math.Nat.{one-le-pow, pow-suc}
use Rattle.std.proofs.Math.Seq.{take-append_seam}
use Rattle.std.proofs.lemmas.Int.Digits.{digits_value_push}
use Rattle.std.proofs.lemmas.Slice.Eq.{bytes_eq-Decides}
use Rattle.std.proofs.lemmas.Str.{digit_value-digit_char}
use Rattle.std.specs.Char.{digit_char, digit_value}
use Rattle.std.specs.Str.Parse.{digits_value}
use Rattle.stamp_values.proofs.EtagLemmas.{length-hex_digits}
use Rattle.stamp_values.specs.Ascii.{quote}
use Rattle.stamp_values.specs.Etags.{etag_text, hex_digits}
use Rattle.stamp_values.specs.declared.condition.Condition.TheVariants.{Any, Count, Never}
use Rattle.request_form.specs.HeadConditions.{condition_named, etag_number}

-- the digits of a number write its remainder
digits_write : (places n : ℕ) → digits_value 16 (hex_digits places n) ≡ n % 16 ^ places
unfolding hex_digits
digits_write zero n = omega arith
digits_write (suc places) n =
    let digit : digit_value (digit_char (n % 16)) ≡ n % 16 = digit_value-digit_char (n % 16) (omega arith) in
    let rest = digits_write places (n / 16) in
    rw (digits_value_push 16 (hex_digits places (n / 16)) (digit_char (n % 16)), digit, rest, pow-suc 16 places)
    (sym (mod-mul n {m = 16 ^ places} {c = 16} (omega (arith, one-le-pow places 16 (omega arith))) (omega arith)))

-- the digits of an ETag write the count's remainder by 2^64
number_of_etag : (count : ℕ) → etag_number (etag_text count) ≡ count % 2 ^ 64
number_of_etag count =
    let front : take 16 (drop 3 (etag_text count)) ≡ hex_digits 16 count =
    ap (λ (k : ℕ). take k (hex_digits 16 count ++ quote ∷ [])) (sym (length-hex_digits 16 count)) ∙ take-append_seam (hex_digits 16 count) (quote ∷ []) in
    ap (λ (ds : List ℕ). digits_value 16 ds) front ∙ digits_write 16 count

-- the ETag of a count asks for that count
pub count_named : (count : ℕ) → count < 2 ^ 64 → condition_named (etag_text count) ≡ Count count
unfolding condition_named
count_named count small =
    let number : etag_number (etag_text count) ≡ count = number_of_etag count ∙ omega arith in
    let same = (bytes_eq-Decides (etag_text count) (etag_text count)).1 refl in
    rw (number, same) refl

-- a value that asks for a count is the ETag of that count
pub named_count : (v : List ℕ) (count : ℕ) → condition_named v ≡ Count count → (v ≡ etag_text count) × (count < 2 ^ 64)
unfolding condition_named
named_count v count named = by_star (bytes_eq v (codes "*")) named
  where
    is_etag : v ≡ etag_text (etag_number v) → etag_number v < 2 ^ 64
    is_etag same =
        let number : etag_number v ≡ etag_number v % 2 ^ 64 = ap etag_number same ∙ number_of_etag (etag_number v) in
        omega (arith, number)

    by_text : (b : Bool) → bytes_eq v (etag_text (etag_number v)) ≡ b → cond b (Count (etag_number v)) Never ≡ Count count → (v ≡ etag_text count) × (count < 2 ^ 64)
    by_text true e named =
        let number : etag_number v ≡ count = cc in
        let same = (bytes_eq-Decides v (etag_text (etag_number v))).0 e in
        let both : (v ≡ etag_text (etag_number v)) × (etag_number v < 2 ^ 64) = (same, is_etag same) in
        subst (λ (n : ℕ). (v ≡ etag_text n) × (n < 2 ^ 64)) number both
    by_text false e named = absurd (cc)

    by_star : (b : Bool) → cond b Any (cond (bytes_eq v (etag_text (etag_number v))) (Count (etag_number v)) Never) ≡ Count count → (v ≡ etag_text count) × (count < 2 ^ 64)
    by_star true named = absurd (cc)
    by_star false named = by_text (bytes_eq v (etag_text (etag_number v))) refl named

-- a value that is neither an ETag nor a star asks for no blob
pub never_named : (v : List ℕ) → bytes_eq v (codes "*") ≡ false → ((count : ℕ) → count < 2 ^ 64 → v ≡ etag_text count → ⊥) → condition_named v ≡ Never
unfolding condition_named
never_named v other none = rw other (by_text (bytes_eq v (etag_text (etag_number v))) refl)
  where
    by_text : (b : Bool) → bytes_eq v (etag_text (etag_number v)) ≡ b → cond b (Count (etag_number v)) Never ≡ Never
    by_text true e =
        let same = (bytes_eq-Decides v (etag_text (etag_number v))).0 e in
        let number : etag_number v ≡ etag_number v % 2 ^ 64 = ap etag_number same ∙ number_of_etag (etag_number v) in
        absurd (none (etag_number v) (omega (arith, number)) same)
    by_text false e = refl

-- a star asks for any blob
pub star_named : (v : List ℕ) → bytes_eq v (codes "*") ≡ true → condition_named v ≡ Any
unfolding condition_named
star_named v is = rw is refl
