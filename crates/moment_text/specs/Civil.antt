-- The dates of the Gregorian calendar, one after the other, and the times of moments (ISO 8601:2004, sections 3.2.1 and 4.2.4).
use Rattle.std.specs.Prelude.{ℕ, zero, suc, ◌+◌, ◌/◌, ◌%◌, nat_lt, if◌then◌else◌}
use Rattle.httpdate.specs.Calendar.{days_in_month}
use Rattle.moment_text.specs.declared.civil.CivilTime.{CivilTime}

-- a day of the calendar
pub record CivilDate : Type 0 where
  pub year : ℕ
  pub month : ℕ
  pub day : ℕ

-- the day after a day: the next day of the month, the first day of the next month, or the first day of the next year
abbrev pub next_date : CivilDate → CivilDate
next_date d =
    if nat_lt d.day (days_in_month d.year d.month) then record d { day = d.day + 1 }
    else (if nat_lt d.month 12 then record d { month = d.month + 1; day = 1 }
    else record { year = d.year + 1; month = 1; day = 1 })

-- the day that comes so many days after 1 January 1970
unfoldable pub civil_date : ℕ → CivilDate
civil_date zero = record { year = 1970; month = 1; day = 1 }
civil_date (suc n) = next_date (civil_date n)

-- the day and the time of day at which a moment lies, which is a number of steps of 100 ns since the start of 1970
unfoldable pub time_at : ℕ → CivilTime
time_at moment = record {
  year = (civil_date (moment / 864_000_000_000)).year;
  month = (civil_date (moment / 864_000_000_000)).month;
  day = (civil_date (moment / 864_000_000_000)).day;
  hour = moment / 36_000_000_000 % 24;
  minute = moment / 600_000_000 % 60;
  second = moment / 10_000_000 % 60;
  fraction = moment % 10_000_000;
}
