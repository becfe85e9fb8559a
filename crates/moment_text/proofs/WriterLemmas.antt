-- Numbers that are written with zeros before them are the digits of the definition.
use Rattle.std.proofs.Common.{◌≡◌, ℕ, zero, suc, ◌+◌, ◌-◌, ◌/◌, ◌%◌, ◌^◌, ◌<◌, ◌≤◌, ◌==◌, false, [], ◌∷◌, ◌++◌, length, take, drop, replicate, refl, ap, ◌∙◌, arith, append_assoc, pow-suc, ◌⊎◌, inl, inr}
use Rattle.std.proofs.lemmas.Bool.{cases_order}
use Rattle.std.proofs.Math.Nat.{sub-zero}
use Rattle.std.proofs.lemmas.Fmt.{decimal_digit, decimal_step}
use Rattle.std.proofs.lemmas.List.{append-nil, length-append, replicate_more, take_all, drop_all}
use Rattle.std.specs.Fmt.{format_spec, decimal, padded_integral, styled_decimal, char_count}
use Rattle.moment_text.specs.Iso.{digits_of}

-- the digits of zero are zeros
digits_of-zero : (k : ℕ) → digits_of k 0 ≡ replicate k 48
unfolding digits_of
digits_of-zero zero = refl
digits_of-zero (suc k) =
    let next : k + 1 ≡ suc k = omega arith in
    rw (digits_of-zero k) (replicate_more k 48 ∙ ap (λ j. replicate j 48) next)

-- a number is below another or not
below_or_not : (n m : ℕ) → (n < m) ⊎ (m ≤ n)
below_or_not n m = elim (cases_order n m) [ inl same ↦ inr (omega arith) | inr (inl less) ↦ inl less | inr (inr more) ↦ inr (omega arith) ]

-- a number of two digits or more needs more than one place
one_place : (n : ℕ) (k : ℕ) → n < 10 ^ suc k → 10 ≤ n → 0 < k
one_place n zero small large = absurd (omega arith)
one_place n (suc k) small large = omega arith

-- zeros before a number, so that both have k bytes, are its last k digits
zeros_before : (k n : ℕ) → 0 < k → n < 10 ^ k → n < 2 ^ 64 → replicate (k - length (decimal n)) 48 ++ decimal n ≡ digits_of k n
unfolding digits_of
zeros_before zero n some a b = absurd (omega arith)
zeros_before (suc k) n some a b = elim (below_or_not n 10) [
  | inl small ↦
      let front : n / 10 ≡ 0 = omega arith in
      let last : n % 10 ≡ n = omega arith in
      let left : suc k - 1 ≡ k = omega arith in
      rw (decimal_digit n small, front, last, left, digits_of-zero k)
  | inr large ↦
      let power = pow-suc 10 k in
      let before = zeros_before k (n / 10) (one_place n k a large) (omega (arith, power)) (omega arith) in
      let long = length-append (decimal (n / 10)) ((48 + n % 10) ∷ []) in
      let left : suc k - length (decimal (n / 10) ++ (48 + n % 10) ∷ []) ≡ k - length (decimal (n / 10)) = omega arith in
      rw (decimal_step n large b, left, ← append_assoc, before)
]

-- a number that is written in a width, with zeros before it
pub styled_digits : (k n : ℕ) → (k == 0) ≡ false → 0 < k → n < 10 ^ k → n < 2 ^ 64 → styled_decimal (format_spec 32 0 4 k (2 ^ 64 - 1)) n ≡ digits_of k n
unfolding padded_integral char_count
styled_digits k n wide some a b = rw (wide, sub-zero, sub-zero, append-nil) (zeros_before k n some a b)

-- the number is written in two digits
pub two_digits : (n : ℕ) → n < 100 → styled_decimal (format_spec 32 0 4 2 (2 ^ 64 - 1)) n ≡ digits_of 2 n
two_digits n small = styled_digits 2 n refl (omega arith) small (omega arith)

-- the number is written in four digits
pub four_digits : (n : ℕ) → n < 10_000 → styled_decimal (format_spec 32 0 4 4 (2 ^ 64 - 1)) n ≡ digits_of 4 n
four_digits n small = styled_digits 4 n refl (omega arith) small (omega arith)

-- the number is written in seven digits
pub seven_digits : (n : ℕ) → n < 10_000_000 → styled_decimal (format_spec 32 0 4 7 (2 ^ 64 - 1)) n ≡ digits_of 7 n
seven_digits n small = styled_digits 7 n refl (omega arith) small (omega arith)

-- so many digits are written
pub length-digits_of : (k n : ℕ) → length (digits_of k n) ≡ k
unfolding digits_of
length-digits_of zero n = refl
length-digits_of (suc k) n = omega (arith, length-append (digits_of k (n / 10)) ((48 + n % 10) ∷ []), length-digits_of k (n / 10))

-- all seven digits are taken
pub all_seven : (n : ℕ) → take 7 (digits_of 7 n) ≡ digits_of 7 n
all_seven n = take_all 7 (digits_of 7 n) (omega (arith, length-digits_of 7 n))

-- no digit comes after seven digits
pub none_after_seven : (n : ℕ) → drop 7 (digits_of 7 n) ≡ []
none_after_seven n = drop_all 7 (digits_of 7 n) (omega (arith, length-digits_of 7 n))
