-- The text of a time has digits, the letters T and Z, and marks, and no byte before the hyphen.
use Rattle.std.proofs.Common.{◌≡◌, ℕ, zero, suc, ◌+◌, ◌/◌, ◌%◌, Bool, true, false, ◌&&◌, nat_le, List, [], ◌∷◌, ◌++◌, take, Ok, codes, refl, sym, subst, arith}
use Rattle.std.specs.List.{list_all}
use Rattle.std.proofs.lemmas.Bool.Decides.{nat_tests}
use Rattle.moment_text.specs.declared.civil.CivilTime.{CivilTime}
use Rattle.moment_text.specs.Iso.{Shape, to_day, to_minute, to_second, to_fraction, digits_of, day_text, minute_text, second_text, iso_text}
use Rattle.moment_text.specs.IsoReader.{iso_moment}
use Rattle.moment_text.proofs.IsoMoment.{iso_moment_is}

-- no byte comes before the hyphen
record IsWritten (xs : List ℕ) : Type 0 where
  all : list_all (λ b. nat_le 45 b) xs ≡ true

halves : (a b : Bool) → (a && b) ≡ true → (a ≡ true) × (b ≡ true)
halves true b e = (refl, e)
halves false b e = absurd (cc)

more : (x : ℕ) (xs : List ℕ) → nat_le 45 x ≡ true → IsWritten xs → IsWritten (x ∷ xs)
more x xs e h = record { all = rw e h.all }

IsWritten-append : (xs ys : List ℕ) → IsWritten xs → IsWritten ys → IsWritten (xs ++ ys)
IsWritten-append [] ys h k = k
IsWritten-append (x ∷ xs) ys h k =
    let (first, rest) = halves (nat_le 45 x) (list_all (λ b. nat_le 45 b) xs) h.all in
    more x (xs ++ ys) first (IsWritten-append xs ys (record { all = rest }) k)

IsWritten-take : (n : ℕ) (xs : List ℕ) → IsWritten xs → IsWritten (take n xs)
IsWritten-take zero xs h = record { all = refl }
IsWritten-take (suc n) [] h = record { all = refl }
IsWritten-take (suc n) (x ∷ xs) h =
    let (first, rest) = halves (nat_le 45 x) (list_all (λ b. nat_le 45 b) xs) h.all in
    more x (take n xs) first (IsWritten-take n xs (record { all = rest }))

digit : (n : ℕ) → nat_le 45 (48 + n % 10) ≡ true
digit n = grind (arith, nat_tests)

digits : (k n : ℕ) → IsWritten (digits_of k n)
unfolding digits_of
digits zero n = record { all = refl }
digits (suc k) n = IsWritten-append (digits_of k (n / 10)) ((48 + n % 10) ∷ []) (digits k (n / 10)) (more (48 + n % 10) [] (digit n) (record { all = refl }))

-- a mark and digits after a text
with_digits : (xs mark : List ℕ) (k n : ℕ) → IsWritten xs → IsWritten mark → IsWritten (xs ++ mark ++ digits_of k n)
with_digits xs mark k n h m = IsWritten-append (xs ++ mark) (digits_of k n) (IsWritten-append xs mark h m) (digits k n)

day : (t : CivilTime) → IsWritten (day_text t)
day t = with_digits (digits_of 4 t.year ++ codes "-" ++ digits_of 2 t.month) (codes "-") 2 t.day (with_digits (digits_of 4 t.year) (codes "-") 2 t.month (digits 4 t.year) (record { all = refl })) (record { all = refl })

minute : (t : CivilTime) → IsWritten (minute_text t)
minute t = with_digits (day_text t ++ codes "T" ++ digits_of 2 t.hour) (codes ":") 2 t.minute (with_digits (day_text t) (codes "T") 2 t.hour (day t) (record { all = refl })) (record { all = refl })

second : (t : CivilTime) → IsWritten (second_text t)
second t = with_digits (minute_text t) (codes ":") 2 t.second (minute t) (record { all = refl })

iso : (shape : Shape) (t : CivilTime) → IsWritten (iso_text shape t)
iso to_day t = day t
iso to_minute t = IsWritten-append (minute_text t) (codes "Z") (minute t) (record { all = refl })
iso to_second t = IsWritten-append (second_text t) (codes "Z") (second t) (record { all = refl })
iso (to_fraction k) t =
    IsWritten-append (second_text t ++ codes "." ++ take k (digits_of 7 t.fraction)) (codes "Z")
    (IsWritten-append (second_text t ++ codes ".") (take k (digits_of 7 t.fraction))
    (IsWritten-append (second_text t) (codes ".") (second t) (record { all = refl }))
    (IsWritten-take k (digits_of 7 t.fraction) (digits 7 t.fraction)))
    (record { all = refl })

-- the text of a time has no byte before the hyphen
pub time_bytes : (text : List ℕ) (m : ℕ) → iso_moment text ≡ Ok m → list_all (λ b. nat_le 45 b) text ≡ true
time_bytes text m e =
    let (shape, t, written, inside, value) = rw e at (iso_moment_is text).read in
    rw written.written (iso shape t).all
