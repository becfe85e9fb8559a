-- Digits of any number: their comparison, and their number cut to 64 bits.
use Rattle.std.proofs.Common.{◌≡◌, ◌≤◌, ◌<◌, ◌+◌, ◌*◌, ◌-◌, ℕ, List, length, take, get_or, true, arith, rules, min}
use Rattle.std.specs.List.{list_all}
use Rattle.std.specs.Char.{digit_value}
use Rattle.std.specs.Int.{IsInRange}
use Rattle.std.specs.Str.Parse.{digits_value}
use Rattle.std.proofs.lemmas.Bool.Decides.{nat_tests}
use Rattle.std.proofs.lemmas.Int.Digits.{digits_value_more}
use Rattle.std.proofs.lemmas.Str.Parse.{IsDigitsTest, IsNumeralModel, numerals_by_value, digit_at}
use Rattle.stamp_values.specs.Names.{is_digit}
use Rattle.request_form.specs.HeadRanges.{number_within}

-- the test of digits is a test of the library
is_test : IsDigitsTest (λ ds. list_all is_digit ds ≡ true)
is_test = search rules

-- these digits are the digits of the library's numerals
pub own : IsNumeralModel (λ ds. list_all is_digit ds ≡ true) (digits_value 10)
own = numerals_by_value (λ ds. list_all is_digit ds ≡ true) is_test

-- each byte of digits is a digit
pub digit_in : (ds : List ℕ) (i : ℕ) → list_all is_digit ds ≡ true → i < length ds → IsInRange 48 57 (get_or ds i 0)
digit_in ds i digits inside = digit_at ds i (own.to ds digits) inside

-- one digit more
pub more : (ds : List ℕ) (i : ℕ) → list_all is_digit ds ≡ true → i < length ds
    → digits_value 10 (take (i + 1) ds) ≡ digits_value 10 (take i ds) * 10 + (get_or ds i 0 - 48)
more ds i digits inside =
    let digit = digit_in ds i digits inside in
    let value : digit_value (get_or ds i 0) ≡ get_or ds i 0 - 48 = grind (arith, nat_tests) in
    omega (arith, digits_value_more 10 ds i inside, value)

-- one digit more, by its place from the right
pub more_from_right : (ds : List ℕ) (place : ℕ) → list_all is_digit ds ≡ true → place < length ds
    → digits_value 10 (take (length ds - place) ds) ≡ digits_value 10 (take (length ds - (place + 1)) ds) * 10 + (get_or ds (length ds - 1 - place) 0 - 48)
more_from_right ds place digits inside =
    let next : length ds - place ≡ length ds - 1 - place + 1 = omega arith in
    let this : length ds - (place + 1) ≡ length ds - 1 - place = omega arith in
    rw (next, this) (more ds (length ds - 1 - place) digits (omega arith))

-- cutting at each step is cutting at the end
cut_more : (m v d : ℕ) → d ≤ m → min (min (min v m * 10) m + d) m ≡ min (v * 10 + d) m
cut_more m v d small = omega (arith)

-- the number of digits, cut to 64 bits, with one digit more
pub within_more : (ds : List ℕ) (i : ℕ) → list_all is_digit ds ≡ true → i < length ds
    → min (min (number_within (take i ds) * 10) 18_446_744_073_709_551_615 + (get_or ds i 0 - 48)) 18_446_744_073_709_551_615 ≡ number_within (take (i + 1) ds)
within_more ds i digits inside =
    let digit = digit_in ds i digits inside in
    rw (more ds i digits inside) (cut_more 18_446_744_073_709_551_615 (digits_value 10 (take i ds)) (get_or ds i 0 - 48) (omega (arith, digit)))
