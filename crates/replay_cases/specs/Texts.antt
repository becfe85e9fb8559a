-- The bytes that the texts of a file of cases mean (this product's own choice; docs/cases.md has the table).
use Rattle.std.specs.Prelude.{ℕ, ◌+◌, ◌-◌, ◌*◌, ◌==◌, nat_lt, if◌then◌else◌, List, [], ◌∷◌, Option, Some, None}
use Rattle.std.specs.Option.{option_map, option_and_then}
use Rattle.stamp_values.specs.Ascii.{carriage_return, digit_zero, line_feed, space, tab}

-- the codes of characters
abbrev pub after_digit_nine : ℕ
after_digit_nine = 58

abbrev pub backslash : ℕ
backslash = 92

abbrev pub letter_a : ℕ
letter_a = 97

abbrev pub letter_g : ℕ
letter_g = 103

abbrev pub letter_n : ℕ
letter_n = 110

abbrev pub letter_r : ℕ
letter_r = 114

abbrev pub letter_s : ℕ
letter_s = 115

abbrev pub letter_t : ℕ
letter_t = 116

abbrev pub letter_x : ℕ
letter_x = 120

-- what was read last: no part of an escape, a backslash, `\x`, or `\x` and a digit of this value
pub data TextState : Type 0 where
  Plain : TextState
  Escape : TextState
  Hex : TextState
  Half : ℕ → TextState

-- the byte that a backslash and this byte mean: CR for `r`, LF for `n`, HT for `t`, a backslash for a backslash, a space for `s`
abbrev pub escaped_byte : ℕ → Option ℕ
escaped_byte b =
    if b == letter_r then Some carriage_return
    else (if b == letter_n then Some line_feed
    else (if b == letter_t then Some tab
    else (if b == backslash then Some backslash
    else (if b == letter_s then Some space else None))))

-- the value of a hexadecimal digit, 0 to 9 or a to f; the letter a, with the code 97, has the value 10
abbrev pub digit_value : ℕ → Option ℕ
digit_value b =
    if nat_lt b digit_zero then None
    else (if nat_lt b after_digit_nine then Some (b - digit_zero)
    else (if nat_lt b letter_a then None
    else (if nat_lt b letter_g then Some (b - 87) else None)))

-- the bytes that the rest of a text means, by what was read last
abbrev pub bytes_from : TextState → List ℕ → Option (List ℕ)
bytes_from Plain [] = Some []
bytes_from Plain (b ∷ t) = if b == backslash then bytes_from Escape t else option_map (λ bs. b ∷ bs) (bytes_from Plain t)
bytes_from Escape [] = None
bytes_from Escape (b ∷ t) =
    if b == letter_x then bytes_from Hex t
    else option_and_then (λ v. option_map (λ bs. v ∷ bs) (bytes_from Plain t)) (escaped_byte b)
bytes_from Hex [] = None
bytes_from Hex (b ∷ t) = option_and_then (λ high. bytes_from (Half high) t) (digit_value b)
bytes_from (Half high) [] = None
bytes_from (Half high) (b ∷ t) = option_and_then (λ low. option_map (λ bs. (high * 16 + low) ∷ bs) (bytes_from Plain t)) (digit_value b)

-- the bytes that a text means
abbrev pub text_bytes : List ℕ → Option (List ℕ)
text_bytes text = bytes_from Plain text
