-- What the functions of `iso` compute, step by step. The meaning is in Iso: proofs/IsoMoment shows that a text is read if and
-- only if it is printed there (ISO 8601:2004, section 4.3).
use Rattle.std.specs.Prelude.{ℕ, ◌+◌, ◌-◌, ◌*◌, ◌==◌, nat_lt, if◌then◌else◌, List, [], ◌∷◌, ◌++◌, length, replicate, slice_index, slice_range, Option, Some, None, option_and_then, Result, Ok, Err}
use Rattle.std.specs.Char.{is_ascii_digit}
use Rattle.stamp_values.specs.Ascii.{hyphen, dot, digit_zero, colon, upper_t, upper_z}
use Rattle.moment_text.specs.declared.civil.CivilTime.{CivilTime}
use Rattle.moment_text.specs.declared.fault.TimeFault.{TimeFault}
use Rattle.moment_text.specs.declared.fault.TimeFault.TheVariants.{Form, Range}
use Rattle.moment_text.specs.Iso.{is_in_range, ticks_of}

-- the number that is written by the digits of n and these digits after them
abbrev pub number_after : ℕ → List ℕ → Option ℕ
number_after n [] = Some n
number_after n (d ∷ ds) = if is_ascii_digit d then number_after (n * 10 + (d - digit_zero)) ds else None

-- the number that digits write
unfoldable pub number_of : List ℕ → Option ℕ
number_of ds = number_after 0 ds

-- the number that the bytes of t write from index i up to but not including j
abbrev pub number_at : List ℕ → ℕ → ℕ → Option ℕ
number_at t i j = number_of (slice_range t i j)

-- the value, if the byte at index i is c
abbrev pub if_byte_at : {A : Type 0} → List ℕ → ℕ → ℕ → Option A → Option A
if_byte_at t i c value = if slice_index t i == c then value else None

infixl 10 ◌>>=◌
abbrev ◌>>=◌ : {A B : Type 0} → Option A → (A → Option B) → Option B
o >>= f = option_and_then f o

-- the day at the front of the text
unfoldable pub date_at : List ℕ → Option CivilTime
date_at t = do
  year ← number_at t 0 4
  month ← if_byte_at t 4 hyphen (number_at t 5 7)
  day ← if_byte_at t 7 hyphen (number_at t 8 10)
  Some (record { year = year; month = month; day = day; hour = 0; minute = 0; second = 0; fraction = 0 })

-- the fraction from index 20 up to the last byte, with zeros after it up to seven digits
unfoldable pub fraction_at : List ℕ → Option ℕ
fraction_at t =
    if nat_lt 28 (length t) then None
    else number_of (slice_range t 20 (length t - 1) ++ replicate (28 - length t) digit_zero)

-- no fraction, or a fraction of at least one digit after a point
unfoldable pub optional_fraction : List ℕ → Option ℕ
optional_fraction t =
    if length t == 20 then Some 0
    else (if nat_lt (length t) 22 then None else if_byte_at t 19 dot (fraction_at t))

-- the time with the second, its fraction if there is one, and the Z at the end
unfoldable pub with_second : List ℕ → CivilTime → Option CivilTime
with_second t p = do
  second ← if_byte_at t 16 colon (number_at t 17 19)
  fraction ← optional_fraction t
  if_byte_at t (length t - 1) upper_z (Some (record p { second = second; fraction = fraction }))

-- the day with the time of day after the T
unfoldable pub with_clock : List ℕ → CivilTime → Option CivilTime
with_clock t p = do
  hour ← if_byte_at t 10 upper_t (number_at t 11 13)
  minute ← if_byte_at t 13 colon (number_at t 14 16)
  if length t == 17
      then if_byte_at t 16 upper_z (Some (record p { hour = hour; minute = minute }))
      else (if nat_lt (length t) 20 then None else with_second t (record p { hour = hour; minute = minute }))

-- what a text of one of the four shapes writes
unfoldable pub iso_time : List ℕ → Option CivilTime
iso_time t =
    if length t == 10 then date_at t
    else (if nat_lt (length t) 17 then None else (date_at t >>= with_clock t))

-- the moment of what was read
abbrev pub moment_of_time : Option CivilTime → Result ℕ TimeFault
moment_of_time None = Err Form
moment_of_time (Some t) = if is_in_range t then Ok (ticks_of t) else Err Range

-- the moment that a text names
abbrev pub iso_moment : List ℕ → Result ℕ TimeFault
iso_moment t = moment_of_time (iso_time t)
