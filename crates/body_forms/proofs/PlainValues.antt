-- Dates, numbers and ETags are visible, and each of their bytes is written as itself.
use Rattle.std.proofs.Common.{◌≡◌, ℕ, zero, suc, ◌<◌, ◌≤◌, ◌+◌, ◌-◌, ◌/◌, ◌%◌, Bool, true, false, cond, ◌&&◌, ◌||◌, ◌==◌, nat_lt, List, [], ◌∷◌, ◌++◌, codes, refl, arith}
use Rattle.std.specs.Prelude.{decimal, slice_index_or}
use Rattle.std.specs.Char.{digit_char}
use Rattle.std.specs.Fmt.{digits, digits_onto, digit_glyph}
use Rattle.std.specs.List.{list_all}
use Rattle.std.proofs.lemmas.Bool.{and_parts}
use Rattle.std.proofs.lemmas.Bool.Decides.{nat_tests}
use Rattle.httpdate.specs.declared.parts.Parts.{Parts}
use Rattle.httpdate.specs.Calendar.{is_leap_year, days_in_month, IsCivilDate, IsTimeOfDay}
use Rattle.httpdate.specs.Text.{two_digits, four_digits, day_name, month_name, time_of_day, imf_fixdate}
use Rattle.httpdate.specs.Valid.{IsValid}
use Rattle.stamp_values.specs.Etags.{hex_digits, etag_text}
use Rattle.moment_text.specs.Http.{http_text, parts_at}
use Rattle.moment_text.proofs.CivilLemmas.{parts_at_valid}
use Rattle.xml_text.proofs.PlainTexts.{is_plain, ArePlain, plain-append}
use Rattle.body_forms.specs.KeptPolicies.{IsMoment}

both : (a b : Bool) → a ≡ true → b ≡ true → (a && b) ≡ true
both a b h k = rw (h, k) refl

-- ---- numbers

digit : (d : ℕ) → d < 10 → is_plain (48 + d) ≡ true
digit d h = grind (arith, nat_tests)

letter : (d : ℕ) → d < 16 → nat_lt d 10 ≡ false → is_plain (87 + d) ≡ true
letter d h k = grind (arith, nat_tests)

below_ten : (d : ℕ) → d < 10 → nat_lt d 10 ≡ true
below_ten d h = grind (arith, nat_tests)

under_ten : (d : ℕ) → nat_lt d 10 ≡ true → d < 10
under_ten d h = grind (arith, nat_tests)

glyph : (d : ℕ) → d < 10 → is_plain (digit_glyph false d) ≡ true
glyph d h = rw (below_ten d h) (digit d h)

digits_plain : (k n : ℕ) (acc : List ℕ) → ArePlain acc → ArePlain (digits_onto k 10 false n acc)
digits_plain zero n acc h = h
digits_plain (suc k) n acc h =
    let more : ArePlain (digit_glyph false (n % 10) ∷ acc) = both (is_plain (digit_glyph false (n % 10))) (list_all is_plain acc) (glyph (n % 10) (omega arith)) h in
    elim (n / 10 == 0) as (λ b. ArePlain (cond b (digit_glyph false (n % 10) ∷ acc) (digits_onto k 10 false (n / 10) (digit_glyph false (n % 10) ∷ acc)))) [
      | true ↦ more
      | false ↦ digits_plain k (n / 10) (digit_glyph false (n % 10) ∷ acc) more
    ]

pub plain_decimal : (n : ℕ) → ArePlain (decimal n)
unfolding digits
plain_decimal n = digits_plain 64 n [] refl

-- ---- ETags

hex_digit : (d : ℕ) → d < 16 → is_plain (digit_char d) ≡ true
hex_digit d h =
    elim (nat_lt d 10) as (λ b. nat_lt d 10 ≡ b → is_plain (cond b (48 + d) (87 + d)) ≡ true) [
      | true ↦ λ low. digit d (under_ten d low)
      | false ↦ λ high. letter d h high
    ] refl

hex_plain : (k n : ℕ) → ArePlain (hex_digits k n)
unfolding hex_digits
hex_plain zero n = refl
hex_plain (suc k) n =
    plain-append (hex_digits k (n / 16)) (digit_char (n % 16) ∷ []) (hex_plain k (n / 16)) (both (is_plain (digit_char (n % 16))) true (hex_digit (n % 16) (omega arith)) refl)

pub plain_etag : (n : ℕ) → ArePlain (etag_text n)
plain_etag n = plain-append (codes "\"0x" ++ hex_digits 16 n) (codes "\"") (plain-append (codes "\"0x") (hex_digits 16 n) refl (hex_plain 16 n)) refl

-- ---- dates

one_of : (names : List (List ℕ)) (i : ℕ) → list_all (λ s. list_all is_plain s) names ≡ true → ArePlain (slice_index_or names i [])
one_of [] i h = refl
one_of (s ∷ names) zero h = (and_parts (list_all is_plain s) (list_all (λ t. list_all is_plain t) names) h).0
one_of (s ∷ names) (suc i) h = one_of names i (and_parts (list_all is_plain s) (list_all (λ t. list_all is_plain t) names) h).1

day_plain : (d : ℕ) → ArePlain (day_name d)
day_plain d = one_of (codes "Mon" ∷ codes "Tue" ∷ codes "Wed" ∷ codes "Thu" ∷ codes "Fri" ∷ codes "Sat" ∷ codes "Sun" ∷ []) (d - 1) refl

month_plain : (m : ℕ) → ArePlain (month_name m)
month_plain m =
    one_of (codes "Jan" ∷ codes "Feb" ∷ codes "Mar" ∷ codes "Apr" ∷ codes "May" ∷ codes "Jun" ∷ codes "Jul" ∷ codes "Aug" ∷ codes "Sep" ∷ codes "Oct" ∷ codes "Nov" ∷ codes "Dec" ∷ []) (m - 1) refl

two_plain : (n : ℕ) → n < 100 → ArePlain (two_digits n)
two_plain n h =
    both (is_plain (48 + n / 10)) (is_plain (48 + n % 10) && true) (digit (n / 10) (omega arith)) (both (is_plain (48 + n % 10)) true (digit (n % 10) (omega arith)) refl)

four_plain : (n : ℕ) → n < 10_000 → ArePlain (four_digits n)
four_plain n h = plain-append (two_digits (n / 100)) (two_digits (n % 100)) (two_plain (n / 100) (omega arith)) (two_plain (n % 100) (omega arith))

at_most_31 : (y m : ℕ) → days_in_month y m ≤ 31
at_most_31 y m =
    elim (m == 2) as (λ b. cond b (cond (is_leap_year y) 29 28) (cond ((m == 4) || (m == 6) || (m == 9) || (m == 11)) 30 31) ≤ 31) [
      | true ↦ elim (is_leap_year y) as (λ l. cond l 29 28 ≤ 31) [ true ↦ omega arith | false ↦ omega arith ]
      | false ↦ elim ((m == 4) || (m == 6) || (m == 9) || (m == 11)) as (λ l. cond l 30 31 ≤ 31) [ true ↦ omega arith | false ↦ omega arith ]
    ]

-- a mark and a text after a text
with_mark : (s mark t : List ℕ) → ArePlain s → ArePlain mark → ArePlain t → ArePlain (s ++ mark ++ t)
with_mark s mark t h k l = plain-append (s ++ mark) t (plain-append s mark h k) l

clock_plain : (p : Parts) → IsTimeOfDay p.hour p.min p.sec → ArePlain (time_of_day p)
clock_plain p (hour, min, sec) =
    with_mark (two_digits p.hour ++ codes ":" ++ two_digits p.min) (codes ":") (two_digits p.sec)
    (with_mark (two_digits p.hour) (codes ":") (two_digits p.min) (two_plain p.hour (omega (arith, hour))) refl (two_plain p.min (omega (arith, min)))) refl
    (two_plain p.sec (omega (arith, sec)))

day_plain_in : (p : Parts) → IsCivilDate p.year p.mon p.day → ArePlain (day_name p.wday ++ codes ", " ++ two_digits p.day)
day_plain_in p (year, month, day) =
    with_mark (day_name p.wday) (codes ", ") (two_digits p.day) (day_plain p.wday) refl (two_plain p.day (omega (arith, day.1, at_most_31 p.year p.mon)))

year_plain_in : (p : Parts) → IsCivilDate p.year p.mon p.day → ArePlain (day_name p.wday ++ codes ", " ++ two_digits p.day ++ codes " " ++ month_name p.mon ++ codes " " ++ four_digits p.year)
year_plain_in p (year, month, day) =
    with_mark (day_name p.wday ++ codes ", " ++ two_digits p.day ++ codes " " ++ month_name p.mon) (codes " ") (four_digits p.year)
    (with_mark (day_name p.wday ++ codes ", " ++ two_digits p.day) (codes " ") (month_name p.mon) (day_plain_in p (year, month, day)) refl (month_plain p.mon)) refl
    (four_plain p.year (omega (arith, year.1)))

date_plain : (p : Parts) → IsValid p → ArePlain (imf_fixdate p)
date_plain p (date, time, day) =
    let days = day_name p.wday ++ codes ", " ++ two_digits p.day ++ codes " " ++ month_name p.mon ++ codes " " ++ four_digits p.year in
    plain-append (days ++ codes " " ++ time_of_day p) (codes " GMT") (with_mark days (codes " ") (time_of_day p) (year_plain_in p date) refl (clock_plain p time)) refl

pub plain_date : (m : ℕ) → IsMoment m → ArePlain (http_text m)
unfolding http_text
plain_date m h = date_plain (parts_at (m / 10_000_000)) (parts_at_valid (m / 10_000_000) (omega (arith, h)))
