-- The day and the time of day of a moment are those of the calendar and the clock, and name this moment.
use Rattle.std.proofs.Common.{◌≡◌, ℕ, ◌/◌, ◌<◌, ◌≤◌, ◌&&◌, nat_le, nat_lt, true, Ok, refl, sym, ap, ◌∙◌, arith, pos}
use Rattle.std.proofs.lemmas.Bool.Decides.{nat_tests}
use Rattle.std.proofs.lemmas.Int.{ints}
use Rattle.httpdate.specs.Calendar.{days_in_month}
use Rattle.jiff_core.specs.Date.{epoch_day}
use Rattle.jiff_core.specs.declared.civil.date.Date.{Date}
use Rattle.jiff_core.proofs.DateLemmas.{epoch_day_injective}
use Rattle.moment_text.specs.declared.civil.CivilTime.{CivilTime}
use Rattle.moment_text.specs.Civil.{CivilDate, civil_date, time_at}
use Rattle.moment_text.specs.Iso.{to_fraction, iso_text, FitsDigits, IsIsoText, is_in_range, ticks_of}
use Rattle.moment_text.specs.IsoReader.{iso_moment}
use Rattle.moment_text.proofs.CalendarLemmas.{same_days}
use Rattle.moment_text.proofs.CivilLemmas.{civil_date_is, year_bound}
use Rattle.moment_text.proofs.IsoMoment.{iso_moment_is}
use Rattle.moment_text.proofs.WriterLemmas.{none_after_seven}

-- the library's date has the numbers of the date that counting from day to day gives
pub record IsCounted (counted : CivilDate) (date : Date) : Type 0 where
  pub same_year : date.year ≡ pos counted.year
  pub same_month : date.month ≡ counted.month
  pub same_day : date.day ≡ counted.day

-- the library's date of a moment's day
pub counted : (m : ℕ) (d : Date) → m ≤ 2_534_023_007_999_999_999 → epoch_day d ≡ pos (m / 864_000_000_000) → IsCounted (civil_date (m / 864_000_000_000)) d
counted m d h number =
    let n = m / 864_000_000_000 in
    let c = civil_date_is n in
    let year = year_bound n (omega arith) in
    let other : Date = record {
      year = pos (civil_date n).year;
      month = (civil_date n).month;
      day = (civil_date n).day;
      year_in = (omega (arith, ints, year), omega (arith, ints, year));
      month_in = c.month_in;
      day_in = c.day_in;
    } in
    let days = same_days (civil_date n).year (civil_date n).month (civil_date n).day c.from c.day_in.0 in
    let same = epoch_day_injective d other (number ∙ sym (days ∙ ap pos c.number)) in
    record { same_year = same.0; same_month = same.1; same_day = same.2 }

-- times with the same numbers are the same
pub same_times : {y year month day hour minute second fraction : ℕ} → y ≡ year → ◌≡◌ {A = CivilTime} (record { year = y; month = month; day = day; hour = hour; minute = minute; second = second; fraction = fraction }) (record { year = year; month = month; day = day; hour = hour; minute = minute; second = second; fraction = fraction })
same_times {y} {year} {month} {day} {hour} {minute} {second} {fraction} same = λ i. record { year = same i; month = month; day = day; hour = hour; minute = minute; second = second; fraction = fraction }

-- no month has more than 31 days
few_days : (y m : ℕ) → days_in_month y m ≤ 31
few_days y m = grind (arith, nat_tests)

-- each number of a moment's time fits the digits that are written for it
pub time_at_fits : (m : ℕ) → m ≤ 2_534_023_007_999_999_999 → FitsDigits (time_at m)
unfolding time_at
time_at_fits m h =
    let days = m / 864_000_000_000 in
    let c = civil_date_is days in
    let year = year_bound days (omega arith) in
    record { year_fits = omega arith; month_fits = omega (arith, c.month_in.1); day_fits = omega (arith, c.day_in.1, few_days (civil_date days).year (civil_date days).month); hour_fits = omega arith; minute_fits = omega arith; second_fits = omega arith; fraction_fits = omega arith }

-- a time in its range passes all tests
in_range : (y m d hour minute second days : ℕ) → 1970 ≤ y → y ≤ 9999 → 1 ≤ m → m ≤ 12 → 1 ≤ d → d ≤ days → hour < 24 → minute < 60 → second < 60 → (nat_le 1970 y && nat_le y 9999 && nat_le 1 m && nat_le m 12 && nat_le 1 d && nat_le d days && nat_lt hour 24 && nat_lt minute 60 && nat_lt second 60) ≡ true
in_range y m d hour minute second days a b c e f g h i j = grind (arith, nat_tests)

-- the calendar and the clock have the time of a moment
time_at_in_range : (m : ℕ) → m ≤ 2_534_023_007_999_999_999 → is_in_range (time_at m) ≡ true
unfolding time_at
time_at_in_range m h =
    let days = m / 864_000_000_000 in
    let c = civil_date_is days in
    in_range (civil_date days).year (civil_date days).month (civil_date days).day _ _ _ _ c.from (year_bound days (omega arith)) c.month_in.0 c.month_in.1 c.day_in.0 c.day_in.1 (omega arith) (omega arith) (omega arith)

-- the time of a moment names this moment
ticks_of-time_at : (m : ℕ) → ticks_of (time_at m) ≡ m
unfolding time_at
ticks_of-time_at m = omega (arith, (civil_date_is (m / 864_000_000_000)).number)

-- what is written is read as the same moment
pub iso_moment-iso_text : (m : ℕ) → m ≤ 2_534_023_007_999_999_999 → iso_moment (iso_text (to_fraction 7) (time_at m)) ≡ Ok m
iso_moment-iso_text m h =
    let t = time_at m in
    let written : IsIsoText (iso_text (to_fraction 7) t) (to_fraction 7) t = record { written = refl; fits = time_at_fits m h; whole = ((omega arith, omega arith), none_after_seven t.fraction) } in
    (iso_moment_is (iso_text (to_fraction 7) t)).complete (to_fraction 7) t written (time_at_in_range m h) ∙ ap Ok (ticks_of-time_at m)
