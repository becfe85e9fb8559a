-- Counting from day to day gives each day of the calendar at its number.
use Rattle.std.proofs.Common.{◌≡◌, ℕ, zero, suc, ◌+◌, ◌-◌, ◌/◌, ◌<◌, ◌≤◌, Bool, true, false, cond, nat_lt, refl, arith, ltb-true, ltb-false, sym, ◌∙◌, ap, inl, inr}
use Rattle.std.proofs.lemmas.Bool.{cases_order}
use Rattle.std.proofs.lemmas.Bool.Decides.{nat_tests}
use Rattle.std.specs.Int.{IsInRange}
use Rattle.httpdate.specs.Calendar.{days_in_year, days_in_month, days_of_years, days_of_months, days_from_civil, weekday}
use Rattle.httpdate.specs.Valid.{IsValid, parts_secs}
use Rattle.httpdate.proofs.CalendarLemmas.{days_of_months_more, days_of_months_all, days_of_months_closed, days_of_years_closed, days_from_civil_year}
use Rattle.moment_text.specs.Civil.{CivilDate, next_date, civil_date}
use Rattle.moment_text.specs.Http.{parts_at}

-- the calendar has the day, and it comes n days after 1 January 1970
pub record IsDay (n : ℕ) (d : CivilDate) : Type 0 where
  pub from : 1970 ≤ d.year
  pub month_in : IsInRange 1 12 d.month
  pub day_in : IsInRange 1 (days_in_month d.year d.month) d.day
  pub number : days_from_civil d.year d.month d.day ≡ n

some_days : (y m : ℕ) → 1 ≤ days_in_month y m
some_days y m = grind (arith, nat_tests)

one_more_year : (y : ℕ) → 1970 ≤ y → days_of_years (y + 1 - 1970) ≡ days_of_years (y - 1970) + days_in_year y
unfolding days_of_years
one_more_year y from =
    let next : y + 1 - 1970 ≡ suc (y - 1970) = omega arith in
    let year : 1970 + (y - 1970) ≡ y = omega arith in
    rw (next, year)

no_months : (y : ℕ) → days_of_months y 0 ≡ 0
unfolding days_of_months
no_months y = refl

-- the next day has the next number
next_day : (n : ℕ) (d : CivilDate) → IsDay n d → IsDay (suc n) (next_date d)
next_day n d h = by_tests (nat_lt d.day (days_in_month d.year d.month)) (nat_lt d.month 12) refl refl
  where
    by_tests : (inside early : Bool) → nat_lt d.day (days_in_month d.year d.month) ≡ inside → nat_lt d.month 12 ≡ early → IsDay (suc n) (cond inside (record d { day = d.day + 1 }) (cond early (record d { month = d.month + 1; day = 1 }) (record { year = d.year + 1; month = 1; day = 1 })))
    by_tests true early a b =
        let room = ltb-true _ _ a in
        record { from = h.from; month_in = h.month_in; day_in = (omega arith, omega arith); number = omega (arith, h.number) }
    by_tests false true a b =
        let last = ltb-false _ _ a in
        let room = ltb-true _ _ b in
        let more = days_of_months_more d.year d.month h.month_in.0 in
        let back : d.month + 1 - 1 ≡ d.month = omega arith in
        record { from = h.from; month_in = (omega arith, omega arith); day_in = (omega arith, some_days d.year (d.month + 1)); number = rw back (omega (arith, h.number, more)) }
    by_tests false false a b =
        let last = ltb-false _ _ a in
        let end = ltb-false _ _ b in
        let december : d.month ≡ 12 = omega (arith, h.month_in.1) in
        let more = days_of_months_more d.year d.month h.month_in.0 in
        let all = days_of_months_all d.year in
        let whole : days_of_months d.year d.month ≡ days_in_year d.year = ap (days_of_months d.year) december ∙ all in
        let none = no_months (d.year + 1) in
        let year = one_more_year d.year h.from in
        record { from = omega (arith, h.from); month_in = (omega arith, omega arith); day_in = (omega arith, some_days (d.year + 1) 1); number = omega (arith, h.number, more, whole, none, year) }

pub civil_date_is : (n : ℕ) → IsDay n (civil_date n)
unfolding civil_date days_of_years days_of_months
civil_date_is zero = record { from = omega arith; month_in = (omega arith, omega arith); day_in = (omega arith, omega arith); number = refl }
civil_date_is (suc n) = next_day n (civil_date n) (civil_date_is n)

last_day : days_from_civil 9999 12 31 ≡ 2_932_896
last_day = omega (arith, days_of_years_closed 8029, days_of_months_closed 9999 11 (omega arith))

-- below this number of days, no year has more than four digits
pub year_bound : (n : ℕ) → n < 2_932_897 → (civil_date n).year ≤ 9999
year_bound n h =
    let d = civil_date_is n in
    let y = (civil_date n).year in
    elim (cases_order 9999 y) [
      | inl same ↦ omega arith
      | inr (inl later) ↦ absurd (omega (arith, last_day, d.number, days_from_civil_year 9999 12 31 y (civil_date n).month (civil_date n).day ((omega arith, omega arith), (omega arith, omega arith), (omega arith, omega arith)) later))
      | inr (inr before) ↦ omega arith
    ]

pub parts_at_secs : (secs : ℕ) → parts_secs (parts_at secs) ≡ secs
parts_at_secs secs = omega (arith, (civil_date_is (secs / 86_400)).number)

pub parts_at_valid : (secs : ℕ) → secs < 253_402_300_800 → IsValid (parts_at secs)
parts_at_valid secs h =
    let d = civil_date_is (secs / 86_400) in (
      ((d.from, year_bound (secs / 86_400) (omega arith)), d.month_in, d.day_in),
      (omega arith, omega arith, omega arith),
      ap weekday (sym d.number),
    )
