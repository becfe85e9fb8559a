use Rattle.std.proofs.Common.{◌≡◌, ℕ, refl, ◌≤◌, ◌∙◌, arith, pos, rules}
use Rattle.std.proofs.lemmas.Int.{ints}
use Rattle.std.specs.Int.{IsInRange}
use Rattle.jiff_core.specs.declared.civil.date.Date.{Date}
use Rattle.jiff_core.proofs.SignedLemmas.{signed_casts}
use Rattle.httpdate.specs.Calendar as H
use Rattle.moment_text.proofs.CalendarLemmas.{same_days}
use Rattle.moment_text.proofs.civil.day_number.Goals as goal

-- the library's date has the numbers that were given
record IsGiven (year month day : ℕ) (date : Date) : Type 0 where
  same_year : date.year ≡ pos year
  same_month : date.month ≡ month
  same_day : date.day ≡ day

given : (c : goal.After-to_unix_epoch_day) → IsGiven c.args.year c.args.month c.args.day c.in-Ok.date
given c =
    let v = c.in-Ok.ensures.value in
    record { same_year = v.0 ∙ omega (arith, ints); same_month = omega (arith, ints, v.1); same_day = omega (arith, ints, v.2) }

day_is : (c : goal.After-to_unix_epoch_day) → c.to_unix_epoch_day.result ≡ pos (H.days_from_civil c.args.year c.args.month c.args.day)
day_is c =
    let g = given c in
    let from : 1970 ≤ c.args.year = omega arith in
    let some : 1 ≤ c.args.day = omega (arith, c.in-Ok.date.day_in, g.same_day) in
    rw (c.to_unix_epoch_day.ensures.value, c.to_plain.ensures, g.same_year, g.same_month, g.same_day) (same_days c.args.year c.args.month c.args.day from some)

pub returns-clause-valid : goal.returns-clause-valid
returns-clause-valid c =
    let g = given c in
    let from : 1970 ≤ c.args.year = omega arith in
    let until : c.args.year ≤ 9999 = omega arith in
    let month_in : IsInRange 1 12 c.args.month = rw g.same_month at c.in-Ok.date.month_in in
    let day_in : IsInRange 1 (H.days_in_month c.args.year c.args.month) c.args.day = rw (g.same_year, g.same_month, g.same_day) at c.in-Ok.date.day_in in
    (λ some. ((from, until), month_in, day_in), λ date. refl)

pub overflow_cast-result : goal.overflow_cast-result
overflow_cast-result c = let same = day_is c in search (rules, ints)

pub returns-clause-value : goal.returns-clause-value
returns-clause-value c = let same = day_is c in omega (arith, signed_casts)

pub returns-clause-bound : goal.returns-clause-bound
returns-clause-bound c = let same = day_is c in omega (arith, signed_casts)
