-- The reader of times reads the printed forms, and nothing else.
use Rattle.std.proofs.Common.{◌≡◌, ℕ, zero, suc, ◌+◌, ◌-◌, ◌<◌, ◌≤◌, ◌==◌, nat_lt, Bool, true, false, cond, List, [], ◌∷◌, ◌++◌, length, get_or, take, drop, replicate, Option, Some, None, option_and_then, refl, sym, ap, ◌∙◌, subst, arith, append_assoc, take-append-drop, eqb-true, ltb-false}
use Rattle.std.proofs.lemmas.List.{append-nil, drop-drop, drop_all, length-append, length-drop, length-replicate, length-take-le, take_at, drop_at}
use Rattle.std.proofs.lemmas.Option.{none-some, same_Some}
use Rattle.std.specs.Int.{IsInRange}
use Rattle.httpdate.proofs.OptionLemmas.{and_then_some}
use Rattle.moment_text.specs.declared.civil.CivilTime.{CivilTime}
use Rattle.moment_text.specs.Iso.{Shape, to_day, to_minute, to_second, to_fraction, digits_of, day_text, iso_text, FitsDigits, IsZeroBeyond, IsIsoText}
use Rattle.moment_text.specs.IsoReader.{number_of, number_at, if_byte_at, date_at, fraction_at, optional_fraction, with_second, with_clock, iso_time}
use Rattle.moment_text.proofs.NumberLemmas.{passes, number_of_sound, number_of_complete, cut_number, cut_byte}

-- the hour and the minute, and what comes after them
abbrev clock : CivilTime → List ℕ → List ℕ
clock p rest = 84 ∷ (digits_of 2 p.hour ++ 58 ∷ (digits_of 2 p.minute ++ rest))

-- what comes after the day, grouped as it is read
abbrev clock_text : Shape → CivilTime → List ℕ
clock_text to_day p = []
clock_text to_minute p = clock p (90 ∷ [])
clock_text to_second p = clock p (58 ∷ (digits_of 2 p.second ++ 90 ∷ []))
clock_text (to_fraction k) p = clock p (58 ∷ (digits_of 2 p.second ++ 46 ∷ (take k (digits_of 7 p.fraction) ++ 90 ∷ [])))

iso_text_grouped : (shape : Shape) (p : CivilTime) → iso_text shape p ≡ day_text p ++ clock_text shape p
iso_text_grouped to_day p = sym (append-nil (day_text p))
iso_text_grouped to_minute p = simp append_assoc
iso_text_grouped to_second p = simp append_assoc
iso_text_grouped (to_fraction k) p = simp append_assoc

day_text_grouped : (p : CivilTime) (rest : List ℕ) → day_text p ++ rest ≡ digits_of 4 p.year ++ 45 ∷ (digits_of 2 p.month ++ 45 ∷ (digits_of 2 p.day ++ rest))
day_text_grouped p rest = simp append_assoc

-- the text begins with the day, and the time is the start of the day
record BeginsWithDay (t : List ℕ) (p : CivilTime) : Type 0 where
  text : t ≡ day_text p ++ drop 10 t
  fits : FitsDigits p
  hour_zero : p.hour ≡ 0
  minute_zero : p.minute ≡ 0
  second_zero : p.second ≡ 0
  fraction_zero : p.fraction ≡ 0

date_sound : (t : List ℕ) (p : CivilTime) → 10 ≤ length t → date_at t ≡ Some p → BeginsWithDay t p
unfolding date_at
date_sound t p long e =
    and_then_some _ (number_at t 0 4) p e λ year year_read e₁.
    and_then_some _ (if_byte_at t 4 45 (number_at t 5 7)) p e₁ λ month month_led e₂.
    and_then_some _ (if_byte_at t 7 45 (number_at t 8 10)) p e₂ λ day day_led e₃.
    let (dash, month_read) = passes _ (number_at t 5 7) month month_led in
    let (dash₂, day_read) = passes _ (number_at t 8 10) day day_led in
    let (at0, year_fits) = cut_number t 0 4 year (omega arith) year_read in
    let at4 = cut_byte t 4 45 (omega arith) dash in
    let (at5, month_fits) = cut_number t 5 2 month (omega arith) month_read in
    let at7 = cut_byte t 7 45 (omega arith) dash₂ in
    let (at8, day_fits) = cut_number t 8 2 day (omega arith) day_read in
    let q : CivilTime = record { year = year; month = month; day = day; hour = 0; minute = 0; second = 0; fraction = 0 } in
    let grouped = day_text_grouped q (drop 10 t) in
    let all : t ≡ day_text q ++ drop 10 t = cc in
    subst (BeginsWithDay t) (same_Some q p e₃) (record {
      text = all;
      fits = record { year_fits = year_fits; month_fits = month_fits; day_fits = day_fits; hour_fits = omega arith; minute_fits = omega arith; second_fits = omega arith; fraction_fits = omega arith };
      hour_zero = refl;
      minute_zero = refl;
      second_zero = refl;
      fraction_zero = refl;
    })

-- the text begins with the day, the hour and the minute, and the time is the start of the minute
record BeginsWithMinute (t : List ℕ) (p : CivilTime) : Type 0 where
  text : t ≡ day_text p ++ clock p (drop 16 t)
  fits : FitsDigits p
  second_zero : p.second ≡ 0
  fraction_zero : p.fraction ≡ 0

-- from index 19 on, the text is a point, so many digits of the fraction, and a Z
record EndsWithFraction (t : List ℕ) (f k : ℕ) : Type 0 where
  text : drop 19 t ≡ 46 ∷ (take k (digits_of 7 f) ++ 90 ∷ [])
  count : IsInRange 1 7 k
  whole : drop k (digits_of 7 f) ≡ replicate (7 - k) 48
  fits : f < 10_000_000

last_byte : (t : List ℕ) (i : ℕ) → length t ≡ i + 1 → (get_or t i 0 == 90) ≡ true → drop i t ≡ 90 ∷ []
last_byte t i end z = cut_byte t i 90 (omega arith) z ∙ ap (λ r. 90 ∷ r) (drop_all (i + 1) t (omega arith))

fraction_sound : (t : List ℕ) (f : ℕ) → 22 ≤ length t → (get_or t (length t - 1) 0 == 90) ≡ true → (get_or t 19 0 == 46) ≡ true → fraction_at t ≡ Some f → EndsWithFraction t f (length t - 21)
unfolding fraction_at
fraction_sound t f long z point e = by_test (nat_lt 28 (length t)) refl e
  where
    by_test : (over : Bool) → nat_lt 28 (length t) ≡ over → cond over None (number_of (take (length t - 1 - 20) (drop 20 t) ++ replicate (28 - length t) 48)) ≡ Some f → EndsWithFraction t f (length t - 21)
    by_test true test e = absurd (none-some f e)
    by_test false test e =
        let most = ltb-false _ _ test in
        let k = length t - 21 in
        let digits = take (length t - 1 - 20) (drop 20 t) in
        let zeros : List ℕ = replicate (28 - length t) 48 in
        let digits_long : length digits ≡ k = length-take-le (length t - 1 - 20) (drop 20 t) (omega (arith, length-drop 20 t)) ∙ omega arith in
        let all_long : length (digits ++ zeros) ≡ 7 = omega (arith, length-append digits zeros, length-replicate {A = ℕ} (28 - length t) 48, digits_long) in
        let (all, fits) = number_of_sound (digits ++ zeros) 7 f all_long e in
        let places : 28 - length t ≡ 7 - k = omega arith in
        let end : 20 + (length t - 1 - 20) ≡ length t - 1 = omega arith in
        let last = last_byte t (length t - 1) (omega arith) z in
        let rest : drop 20 t ≡ digits ++ 90 ∷ [] = sym (take-append-drop (length t - 1 - 20) (drop 20 t)) ∙ ap (λ r. digits ++ r) (drop-drop (length t - 1 - 20) 20 t ∙ rw end last) in
        let written : take k (digits_of 7 f) ≡ digits = rw (← all) (take_at digits zeros k digits_long) in
        record {
          text = cut_byte t 19 46 (omega arith) point ∙ ap (λ r. 46 ∷ r) (rw written rest);
          count = (omega arith, omega arith);
          whole = rw (← all, ← places) (drop_at digits zeros k digits_long);
          fits = fits;
        }

-- if a tested option has a value, the test failed
fails : {A : Type 0} (test : Bool) (o : Option A) (x : A) → cond test None o ≡ Some x → (test ≡ false) × (o ≡ Some x)
fails true o x e = absurd (none-some x e)
fails false o x e = (refl, e)

-- the text writes the time in some shape
abbrev IsWritten : List ℕ → CivilTime → Type 0
IsWritten t p = (shape : Shape) × IsIsoText t shape p

-- the time with this second and this fraction
abbrev at_second : CivilTime → ℕ → ℕ → CivilTime
at_second p second fraction = record p { second = second; fraction = fraction }

second_fits : (p : CivilTime) (second fraction : ℕ) → FitsDigits p → second < 100 → fraction < 10_000_000 → FitsDigits (at_second p second fraction)
second_fits p second fraction fits a b = record { year_fits = fits.year_fits; month_fits = fits.month_fits; day_fits = fits.day_fits; hour_fits = fits.hour_fits; minute_fits = fits.minute_fits; second_fits = a; fraction_fits = b }

-- after the second comes the Z, or a point, digits and the Z
module _ (t : List ℕ) (p : CivilTime) (second fraction : ℕ) (begins : BeginsWithMinute t p) (small : second < 100) (at16 : drop 16 t ≡ 58 ∷ (digits_of 2 second ++ drop 19 t)) (z : (get_or t (length t - 1) 0 == 90) ≡ true) where
  whole_second : length t ≡ 20 → 0 ≡ fraction → IsIsoText t to_second (at_second p second fraction)
  whole_second size none =
      let q = at_second p second fraction in
      let end : length t - 1 ≡ 19 = omega arith in
      let at19 : drop 19 t ≡ 90 ∷ [] = last_byte t 19 (omega arith) (rw end at z) in
      let all : t ≡ day_text q ++ clock_text to_second q = begins.text ∙ ap (λ r. day_text p ++ clock p r) (at16 ∙ ap (λ r. 58 ∷ (digits_of 2 second ++ r)) at19) in
      record { written = all ∙ sym (iso_text_grouped to_second q); fits = second_fits p second fraction begins.fits small (omega arith); whole = sym none }

  part_of_second : (k : ℕ) → EndsWithFraction t fraction k → IsIsoText t (to_fraction k) (at_second p second fraction)
  part_of_second k ends =
      let q = at_second p second fraction in
      let all : t ≡ day_text q ++ clock_text (to_fraction k) q = begins.text ∙ ap (λ r. day_text p ++ clock p r) (at16 ∙ ap (λ r. 58 ∷ (digits_of 2 second ++ r)) ends.text) in
      record { written = all ∙ sym (iso_text_grouped (to_fraction k) q); fits = second_fits p second fraction begins.fits small ends.fits; whole = (ends.count, ends.whole) }

  ended_sound : 20 ≤ length t → optional_fraction t ≡ Some fraction → IsWritten t (at_second p second fraction)
  unfolding optional_fraction
  ended_sound long e = by_test (length t == 20) refl e
    where
      by_test : (short : Bool) → (length t == 20) ≡ short → cond short (Some 0) (cond (nat_lt (length t) 22) None (if_byte_at t 19 46 (fraction_at t))) ≡ Some fraction → IsWritten t (at_second p second fraction)
      by_test true test e = (to_second, whole_second (eqb-true _ _ test) (same_Some 0 fraction e))
      by_test false test e =
          let (test₂, e₂) = fails (nat_lt (length t) 22) (if_byte_at t 19 46 (fraction_at t)) fraction e in
          let (point, e₃) = passes _ (fraction_at t) fraction e₂ in
          (to_fraction (length t - 21), part_of_second (length t - 21) (fraction_sound t fraction (ltb-false _ _ test₂) z point e₃))

with_second_sound : (t : List ℕ) (p q : CivilTime) → 20 ≤ length t → BeginsWithMinute t p → with_second t p ≡ Some q → IsWritten t q
unfolding with_second
with_second_sound t p q long begins e =
    and_then_some _ (if_byte_at t 16 58 (number_at t 17 19)) q e λ second second_led e₁.
    and_then_some _ (optional_fraction t) q e₁ λ fraction fraction_read e₂.
    let (colon, second_read) = passes _ (number_at t 17 19) second second_led in
    let (z, same) = passes _ (Some (at_second p second fraction)) q e₂ in
    let at16 = cut_byte t 16 58 (omega arith) colon in
    let (at17, small) = cut_number t 17 2 second (omega arith) second_read in
    let written = ended_sound t p second fraction begins small (at16 ∙ ap (λ r. 58 ∷ r) at17) z long fraction_read in
    subst (IsWritten t) (same_Some _ q same) written

-- after the minute comes the Z, or the second
minute_sound : (t : List ℕ) (p q : CivilTime) → 17 ≤ length t → BeginsWithMinute t p → cond (length t == 17) (if_byte_at t 16 90 (Some p)) (cond (nat_lt (length t) 20) None (with_second t p)) ≡ Some q → IsWritten t q
minute_sound t p q long begins e = by_test (length t == 17) refl e
  where
    by_test : (short : Bool) → (length t == 17) ≡ short → cond short (if_byte_at t 16 90 (Some p)) (cond (nat_lt (length t) 20) None (with_second t p)) ≡ Some q → IsWritten t q
    by_test true test e =
        let size = eqb-true _ _ test in
        let (z, same) = passes _ (Some p) q e in
        let at16 : drop 16 t ≡ 90 ∷ [] = last_byte t 16 (omega arith) z in
        let all : t ≡ day_text p ++ clock_text to_minute p = begins.text ∙ ap (λ r. day_text p ++ clock p r) at16 in
        let written : IsIsoText t to_minute p = record { written = all ∙ sym (iso_text_grouped to_minute p); fits = begins.fits; whole = (begins.second_zero, begins.fraction_zero) } in
        subst (IsWritten t) (same_Some p q same) (to_minute, written)
    by_test false test e =
        let (test₂, e₂) = fails (nat_lt (length t) 20) (with_second t p) q e in
        with_second_sound t p q (ltb-false _ _ test₂) begins e₂

with_clock_sound : (t : List ℕ) (p q : CivilTime) → 17 ≤ length t → BeginsWithDay t p → with_clock t p ≡ Some q → IsWritten t q
unfolding with_clock
with_clock_sound t p q long begins e =
    and_then_some _ (if_byte_at t 10 84 (number_at t 11 13)) q e λ hour hour_led e₁.
    and_then_some _ (if_byte_at t 13 58 (number_at t 14 16)) q e₁ λ minute minute_led e₂.
    let (letter, hour_read) = passes _ (number_at t 11 13) hour hour_led in
    let (colon, minute_read) = passes _ (number_at t 14 16) minute minute_led in
    let at10 = cut_byte t 10 84 (omega arith) letter in
    let (at11, hour_fits) = cut_number t 11 2 hour (omega arith) hour_read in
    let at13 = cut_byte t 13 58 (omega arith) colon in
    let (at14, minute_fits) = cut_number t 14 2 minute (omega arith) minute_read in
    let r : CivilTime = record p { hour = hour; minute = minute } in
    let rest : drop 10 t ≡ clock r (drop 16 t) = cc in
    let all : t ≡ day_text r ++ clock r (drop 16 t) = begins.text ∙ ap (λ ds. day_text p ++ ds) rest in
    let fits : FitsDigits r = record { year_fits = begins.fits.year_fits; month_fits = begins.fits.month_fits; day_fits = begins.fits.day_fits; hour_fits = hour_fits; minute_fits = minute_fits; second_fits = begins.fits.second_fits; fraction_fits = begins.fits.fraction_fits } in
    minute_sound t r q long (record { text = all; fits = fits; second_zero = begins.second_zero; fraction_zero = begins.fraction_zero }) e₂

-- if a time is read from a text, the text writes the time
pub iso_time_sound : (t : List ℕ) (p : CivilTime) → iso_time t ≡ Some p → (shape : Shape) × IsIsoText t shape p
unfolding iso_time
iso_time_sound t p e = by_test (length t == 10) refl e
  where
    by_test : (short : Bool) → (length t == 10) ≡ short → cond short (date_at t) (cond (nat_lt (length t) 17) None (option_and_then (with_clock t) (date_at t))) ≡ Some p → IsWritten t p
    by_test true test e =
        let size = eqb-true _ _ test in
        let day = date_sound t p (omega arith) e in
        let all : t ≡ day_text p ++ [] = day.text ∙ ap (λ r. day_text p ++ r) (drop_all 10 t (omega arith)) in
        (to_day, record { written = all ∙ append-nil (day_text p); fits = day.fits; whole = (day.hour_zero, day.minute_zero, day.second_zero, day.fraction_zero) })
    by_test false test e =
        let (test₂, e₂) = fails (nat_lt (length t) 17) (option_and_then (with_clock t) (date_at t)) p e in
        let long = ltb-false _ _ test₂ in
        and_then_some (with_clock t) (date_at t) p e₂ λ day dated clocked.
        with_clock_sound t day p long (date_sound t day (omega arith) dated) clocked

-- the first digits of a fraction, with zeros for the others
filled_complete : (k f : ℕ) → f < 10_000_000 → drop k (digits_of 7 f) ≡ replicate (7 - k) 48 → number_of (take k (digits_of 7 f) ++ replicate (7 - k) 48) ≡ Some f
filled_complete k f h whole = rw (← whole, take-append-drop k (digits_of 7 f)) (number_of_complete 7 f h)

module _ (p : CivilTime) (fits : FitsDigits p) where
  date_complete : (rest : List ℕ) → date_at (day_text p ++ rest) ≡ Some (record p { hour = 0; minute = 0; second = 0; fraction = 0 })
  unfolding date_at digits_of
  date_complete rest =
      rw (number_of_complete 4 p.year fits.year_fits, number_of_complete 2 p.month fits.month_fits, number_of_complete 2 p.day fits.day_fits)

  complete_at : (shape : Shape) → IsZeroBeyond shape p → iso_time (day_text p ++ clock_text shape p) ≡ Some p
  unfolding iso_time with_clock with_second optional_fraction fraction_at digits_of
  complete_at to_day beyond = rw (date_complete []) (λ i. Some (record p { hour = sym beyond.0 i; minute = sym beyond.1 i; second = sym beyond.2 i; fraction = sym beyond.3 i }))
  complete_at to_minute beyond =
      rw (date_complete (clock p (90 ∷ [])), number_of_complete 2 p.hour fits.hour_fits, number_of_complete 2 p.minute fits.minute_fits)
      (λ i. Some (record p { second = sym beyond.0 i; fraction = sym beyond.1 i }))
  complete_at to_second beyond =
      rw (date_complete (clock_text to_second p), number_of_complete 2 p.hour fits.hour_fits, number_of_complete 2 p.minute fits.minute_fits, number_of_complete 2 p.second fits.second_fits)
      (λ i. Some (record p { fraction = sym beyond i }))
  complete_at (to_fraction zero) beyond = absurd (omega (arith, beyond.0))
  complete_at (to_fraction (suc zero)) beyond =
      rw (date_complete (clock_text (to_fraction 1) p), number_of_complete 2 p.hour fits.hour_fits, number_of_complete 2 p.minute fits.minute_fits, number_of_complete 2 p.second fits.second_fits, filled_complete 1 p.fraction fits.fraction_fits beyond.1)
  complete_at (to_fraction (suc (suc zero))) beyond =
      rw (date_complete (clock_text (to_fraction 2) p), number_of_complete 2 p.hour fits.hour_fits, number_of_complete 2 p.minute fits.minute_fits, number_of_complete 2 p.second fits.second_fits, filled_complete 2 p.fraction fits.fraction_fits beyond.1)
  complete_at (to_fraction (suc (suc (suc zero)))) beyond =
      rw (date_complete (clock_text (to_fraction 3) p), number_of_complete 2 p.hour fits.hour_fits, number_of_complete 2 p.minute fits.minute_fits, number_of_complete 2 p.second fits.second_fits, filled_complete 3 p.fraction fits.fraction_fits beyond.1)
  complete_at (to_fraction (suc (suc (suc (suc zero))))) beyond =
      rw (date_complete (clock_text (to_fraction 4) p), number_of_complete 2 p.hour fits.hour_fits, number_of_complete 2 p.minute fits.minute_fits, number_of_complete 2 p.second fits.second_fits, filled_complete 4 p.fraction fits.fraction_fits beyond.1)
  complete_at (to_fraction (suc (suc (suc (suc (suc zero)))))) beyond =
      rw (date_complete (clock_text (to_fraction 5) p), number_of_complete 2 p.hour fits.hour_fits, number_of_complete 2 p.minute fits.minute_fits, number_of_complete 2 p.second fits.second_fits, filled_complete 5 p.fraction fits.fraction_fits beyond.1)
  complete_at (to_fraction (suc (suc (suc (suc (suc (suc zero))))))) beyond =
      rw (date_complete (clock_text (to_fraction 6) p), number_of_complete 2 p.hour fits.hour_fits, number_of_complete 2 p.minute fits.minute_fits, number_of_complete 2 p.second fits.second_fits, filled_complete 6 p.fraction fits.fraction_fits beyond.1)
  complete_at (to_fraction (suc (suc (suc (suc (suc (suc (suc zero)))))))) beyond =
      rw (date_complete (clock_text (to_fraction 7) p), number_of_complete 2 p.hour fits.hour_fits, number_of_complete 2 p.minute fits.minute_fits, number_of_complete 2 p.second fits.second_fits, filled_complete 7 p.fraction fits.fraction_fits beyond.1)
  complete_at (to_fraction (suc (suc (suc (suc (suc (suc (suc (suc k))))))))) beyond = absurd (omega (arith, beyond.0))

pub iso_time_complete : (t : List ℕ) (shape : Shape) (p : CivilTime) → IsIsoText t shape p → iso_time t ≡ Some p
iso_time_complete t shape p h = rw (h.written, iso_text_grouped shape p) (complete_at p h.fits shape h.whole)
