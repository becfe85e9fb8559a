-- Numbers of up to 19 digits.
use Rattle.std.proofs.Common.{◌≡◌, ◌≤◌, ◌<◌, ◌+◌, ◌*◌, ◌-◌, ℕ, List, length, take, get_or, true, arith}
use Rattle.std.specs.List.{list_all}
use Rattle.std.specs.Int.{IsInRange}
use Rattle.std.specs.Str.Parse.{digits_value}
use Rattle.std.proofs.lemmas.Bool.{and_parts}
use Rattle.std.proofs.lemmas.Bool.Decides.{nat_tests}
use Rattle.std.proofs.lemmas.Str.Parse.{digits_value_short, digits_value-take-le}
use Rattle.stamp_values.specs.Names.{is_digit, is_within}
use Rattle.request_form.specs.HeadFields.{is_number}
use Rattle.request_form.proofs.DigitLemmas.{own}
use Rattle.request_form.proofs.DigitLemmas as digits

-- the bytes of a number are digits
all_digits : (ds : List ℕ) → is_number ds ≡ true → list_all is_digit ds ≡ true
unfolding is_number
all_digits ds number = (and_parts (is_within 1 19 (length ds)) (list_all is_digit ds) number).1

-- a number has at most 19 digits
short : (ds : List ℕ) → is_number ds ≡ true → length ds ≤ 19
unfolding is_number
short ds number = let within = (and_parts (is_within 1 19 (length ds)) (list_all is_digit ds) number).0 in grind (arith, nat_tests)

-- each byte of a number is a digit
pub digit_in : (ds : List ℕ) (i : ℕ) → is_number ds ≡ true → i < length ds → IsInRange 48 57 (get_or ds i 0)
digit_in ds i number inside = digits.digit_in ds i (all_digits ds number) inside

-- one digit more
pub more : (ds : List ℕ) (i : ℕ) → is_number ds ≡ true → i < length ds
    → digits_value 10 (take (i + 1) ds) ≡ digits_value 10 (take i ds) * 10 + (get_or ds i 0 - 48)
more ds i number inside = digits.more ds i (all_digits ds number) inside

-- the first digits have a number below 10^19
pub fits : (ds : List ℕ) (i : ℕ) → is_number ds ≡ true → digits_value 10 (take i ds) < 10_000_000_000_000_000_000
fits ds i number =
    let whole = digits_value_short own ds 19 (all_digits ds number) (short ds number) in
    omega (arith, whole, digits_value-take-le 10 ds i (omega arith))
