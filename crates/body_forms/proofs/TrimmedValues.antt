-- The texts of times and of permissions have no white space at their ends.
use Rattle.std.proofs.Common.{◌≡◌, ℕ, zero, suc, ◌+◌, ◌/◌, ◌%◌, Bool, true, false, ◌&&◌, List, [], ◌∷◌, ◌++◌, take, codes, refl, ap, ◌∙◌, arith}
use Rattle.std.specs.List.{list_all}
use Rattle.std.proofs.lemmas.Bool.Decides.{nat_tests}
use Rattle.stamp_values.specs.Letters.{Permissions, letters_text}
use Rattle.moment_text.specs.Civil.{time_at}
use Rattle.moment_text.specs.Iso.{digits_of, day_text, minute_text, second_text}
use Rattle.moment_text.proofs.WriterLemmas.{all_seven}
use Rattle.xml_text.proofs.TrimmedTexts.{is_dark, dark-append}
use Rattle.body_forms.specs.WrittenPolicies.{moment_text}

both : (a b : Bool) → a ≡ true → b ≡ true → (a && b) ≡ true
both a b h k = rw (h, k) refl

-- ---- times

digit : (n : ℕ) → is_dark (48 + n % 10) ≡ true
digit n = grind (arith, nat_tests)

dark_digits : (k n : ℕ) → list_all is_dark (digits_of k n) ≡ true
unfolding digits_of
dark_digits zero n = refl
dark_digits (suc k) n = dark-append (digits_of k (n / 10)) ((48 + n % 10) ∷ []) (dark_digits k (n / 10)) (both (is_dark (48 + n % 10)) true (digit n) refl)

-- a mark and digits after a text
with_digits : (s mark : List ℕ) (k n : ℕ) → list_all is_dark s ≡ true → list_all is_dark mark ≡ true → list_all is_dark (s ++ mark ++ digits_of k n) ≡ true
with_digits s mark k n h m = dark-append (s ++ mark) (digits_of k n) (dark-append s mark h m) (dark_digits k n)

dark_day : (m : ℕ) → list_all is_dark (day_text (time_at m)) ≡ true
dark_day m =
    let t = time_at m in
    with_digits (digits_of 4 t.year ++ codes "-" ++ digits_of 2 t.month) (codes "-") 2 t.day (with_digits (digits_of 4 t.year) (codes "-") 2 t.month (dark_digits 4 t.year) refl) refl

dark_minute : (m : ℕ) → list_all is_dark (minute_text (time_at m)) ≡ true
dark_minute m =
    let t = time_at m in
    with_digits (day_text t ++ codes "T" ++ digits_of 2 t.hour) (codes ":") 2 t.minute (with_digits (day_text t) (codes "T") 2 t.hour (dark_day m) refl) refl

dark_second : (m : ℕ) → list_all is_dark (second_text (time_at m)) ≡ true
dark_second m = let t = time_at m in with_digits (minute_text t) (codes ":") 2 t.second (dark_minute m) refl

seven_dark : (n : ℕ) → list_all is_dark (take 7 (digits_of 7 n)) ≡ true
seven_dark n = ap (list_all is_dark) (all_seven n) ∙ dark_digits 7 n

pub dark_moment : (m : ℕ) → list_all is_dark (moment_text m) ≡ true
dark_moment m =
    let t = time_at m in
    dark-append (second_text t ++ codes "." ++ take 7 (digits_of 7 t.fraction)) (codes "Z")
    (dark-append (second_text t ++ codes ".") (take 7 (digits_of 7 t.fraction)) (dark-append (second_text t) (codes ".") (dark_second m) refl) (seven_dark t.fraction)) refl

-- ---- permissions

by_letters : (r w d l : Bool) → list_all is_dark (letters_text (record { read = r; write = w; delete = d; list = l })) ≡ true
by_letters true true true true = refl
by_letters true true true false = refl
by_letters true true false true = refl
by_letters true true false false = refl
by_letters true false true true = refl
by_letters true false true false = refl
by_letters true false false true = refl
by_letters true false false false = refl
by_letters false true true true = refl
by_letters false true true false = refl
by_letters false true false true = refl
by_letters false true false false = refl
by_letters false false true true = refl
by_letters false false true false = refl
by_letters false false false true = refl
by_letters false false false false = refl

pub dark_letters : (p : Permissions) → list_all is_dark (letters_text p) ≡ true
dark_letters p = by_letters p.read p.write p.delete p.list
