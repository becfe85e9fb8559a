-- The day numbers of `jiff` and of `httpdate` are the same from 1970 on.
use Rattle.std.proofs.Common.{◌≡◌, ℕ, zero, suc, ◌+◌, ◌-◌, ◌≤◌, arith, refl, ap, ◌∙◌, ℤ, pos, ◌-ℤ◌}
use Rattle.jiff_core.specs.Calendar as J
use Rattle.jiff_core.proofs.SignedLemmas.{signed_arith}
use Rattle.httpdate.specs.Calendar as H

pub same_months : (y n : ℕ) → J.days_of_months (pos y) n ≡ H.days_of_months y n
unfolding J.days_of_months H.days_of_months
same_months y zero = refl
same_months y (suc n) = ap (λ k. k + H.days_in_month y (suc n)) (same_months y n)

pub same_years : (n : ℕ) → J.days_of_years (11970 + n) ≡ J.days_of_years 11970 + H.days_of_years n
unfolding J.days_of_years H.days_of_years
same_years zero = omega arith
same_years (suc n) =
    let next : 11970 + suc n ≡ suc (11970 + n) = omega arith in
    let year : pos (11970 + n) -ℤ pos 10000 ≡ pos (1970 + n) = omega (arith, signed_arith) in
    rw (next, year, same_years n) (omega arith)

no_months : (y : ℤ) → J.days_of_months y 0 ≡ 0
unfolding J.days_of_months
no_months y = refl

pub same_days : (y m d : ℕ) → 1970 ≤ y → 1 ≤ d → J.days_from_civil (pos y) m d ≡ pos (H.days_from_civil y m d)
unfolding J.days_from_civil J.day_count
same_days y m d from day =
    let place : y + 10000 ≡ 11970 + (y - 1970) = omega arith in
    let years : J.days_of_years (y + 10000) ≡ J.days_of_years 11970 + H.days_of_years (y - 1970) = ap J.days_of_years place ∙ same_years (y - 1970) in
    let months = same_months y (m - 1) in
    let none = no_months (pos 1970) in
    omega (arith, signed_arith)
