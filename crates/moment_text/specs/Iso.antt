-- A day, or a time in UTC, as ISO 8601 writes it (ISO 8601:2004, sections 4.1.2.2, 4.2.2, 4.2.4 and 4.3; W3C Note Date and
-- Time Formats).
use Rattle.std.specs.Prelude.{◌≡◌, ℕ, zero, suc, ◌+◌, ◌-◌, ◌*◌, ◌/◌, ◌%◌, ◌<◌, Bool, ◌&&◌, nat_le, nat_lt, List, [], ◌∷◌, ◌++◌, take, drop, replicate, codes}
use Rattle.std.specs.Int.{IsInRange}
use Rattle.httpdate.specs.Calendar.{days_in_month, days_from_civil}
use Rattle.stamp_values.specs.Ascii.{digit_zero}
use Rattle.moment_text.specs.declared.civil.CivilTime.{CivilTime}

-- how far a text goes: to the day, the minute, the second, or so many decimals of the second
pub data Shape : Type 0 where
  to_day : Shape
  to_minute : Shape
  to_second : Shape
  to_fraction : ℕ → Shape

-- the last k decimal digits of a number
unfoldable pub digits_of : ℕ → ℕ → List ℕ
digits_of zero n = []
digits_of (suc k) n = digits_of k (n / 10) ++ (digit_zero + n % 10) ∷ []

-- YYYY-MM-DD
abbrev pub day_text : CivilTime → List ℕ
day_text t = digits_of 4 t.year ++ codes "-" ++ digits_of 2 t.month ++ codes "-" ++ digits_of 2 t.day

-- YYYY-MM-DDThh:mm
abbrev pub minute_text : CivilTime → List ℕ
minute_text t = day_text t ++ codes "T" ++ digits_of 2 t.hour ++ codes ":" ++ digits_of 2 t.minute

-- YYYY-MM-DDThh:mm:ss
abbrev pub second_text : CivilTime → List ℕ
second_text t = minute_text t ++ codes ":" ++ digits_of 2 t.second

-- a time in a shape, which says how many of the fraction's seven digits are written, from the first digit on
abbrev pub iso_text : Shape → CivilTime → List ℕ
iso_text to_day t = day_text t
iso_text to_minute t = minute_text t ++ codes "Z"
iso_text to_second t = second_text t ++ codes "Z"
iso_text (to_fraction k) t = second_text t ++ codes "." ++ take k (digits_of 7 t.fraction) ++ codes "Z"

-- each number fits the digits that are written for it
pub record FitsDigits (t : CivilTime) : Type 0 where
  pub year_fits : t.year < 10_000
  pub month_fits : t.month < 100
  pub day_fits : t.day < 100
  pub hour_fits : t.hour < 100
  pub minute_fits : t.minute < 100
  pub second_fits : t.second < 100
  pub fraction_fits : t.fraction < 10_000_000

-- what the shape does not write is zero, and if the shape has decimals, it has one to seven
abbrev pub IsZeroBeyond : Shape → CivilTime → Type 0
IsZeroBeyond to_day t = (t.hour ≡ 0) × (t.minute ≡ 0) × (t.second ≡ 0) × (t.fraction ≡ 0)
IsZeroBeyond to_minute t = (t.second ≡ 0) × (t.fraction ≡ 0)
IsZeroBeyond to_second t = t.fraction ≡ 0
IsZeroBeyond (to_fraction k) t = IsInRange 1 7 k × (drop k (digits_of 7 t.fraction) ≡ replicate (7 - k) digit_zero)

-- the text writes the time in the shape
pub record IsIsoText (text : List ℕ) (shape : Shape) (t : CivilTime) : Type 0 where
  pub written : text ≡ iso_text shape t
  pub fits : FitsDigits t
  pub whole : IsZeroBeyond shape t

-- the calendar has the day, its year is from 1970 to 9999, and the clock has the time
abbrev pub is_in_range : CivilTime → Bool
is_in_range t =
    nat_le 1970 t.year && nat_le t.year 9999 && nat_le 1 t.month && nat_le t.month 12
    && nat_le 1 t.day && nat_le t.day (days_in_month t.year t.month)
    && nat_lt t.hour 24 && nat_lt t.minute 60 && nat_lt t.second 60

-- steps of 100 ns since the start of 1970
abbrev pub ticks_of : CivilTime → ℕ
ticks_of t =
    (days_from_civil t.year t.month t.day * 86_400 + t.hour * 3_600 + t.minute * 60 + t.second) * 10_000_000
    + t.fraction
