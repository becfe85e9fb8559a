-- Decimal digits are read as the number that they write, and nothing else is read.
use Rattle.std.proofs.Common.{◌≡◌, ℕ, zero, suc, ◌+◌, ◌-◌, ◌*◌, ◌/◌, ◌%◌, ◌^◌, ◌<◌, ◌≤◌, ◌==◌, Bool, true, false, cond, List, [], ◌∷◌, ◌++◌, length, get_or, take, drop, Option, Some, None, refl, sym, ◌∙◌, arith, append_assoc, pow-suc, mul-le-mul_right, take-append-drop, eqb-true}
use Rattle.std.proofs.lemmas.Bool.Decides.{nat_tests}
use Rattle.std.proofs.lemmas.List.{append-nil, drop-drop, length-drop, length-take-le}
use Rattle.std.proofs.lemmas.Option.{none-some, same_Some}
use Rattle.std.proofs.Math.Seq.{drop-cons}
use Rattle.std.specs.Char.{is_ascii_digit}
use Rattle.std.specs.Int.{IsInRange}
use Rattle.moment_text.specs.Iso.{digits_of}
use Rattle.moment_text.specs.IsoReader.{number_after, number_of}

shifted : (d p v : ℕ) → ((d * (p * 10) + v) / 10 ≡ d * p + v / 10) × ((d * (p * 10) + v) % 10 ≡ v % 10)
shifted d p v = (omega arith, omega arith)

-- one more digit before the others
digits_of-cons : (k d v : ℕ) → d < 10 → v < 10 ^ k → digits_of (suc k) (d * 10 ^ k + v) ≡ (48 + d) ∷ digits_of k v
unfolding digits_of
digits_of-cons zero d v a b =
    let same : (d * 10 ^ 0 + v) % 10 ≡ d = omega arith in
    rw same
digits_of-cons (suc k) d v a b =
    let power = pow-suc 10 k in
    let (front, last) = shifted d (10 ^ k) v in
    rw (power, front, last, digits_of-cons k d (v / 10) a (omega (arith, power)))

-- if a tested option has a value, the test was passed
pub passes : {A : Type 0} (test : Bool) (o : Option A) (x : A) → cond test o None ≡ Some x → (test ≡ true) × (o ≡ Some x)
passes true o x e = (refl, e)
passes false o x e = absurd (none-some x e)

-- if bytes are read after the number acc, they are digits, and the result is acc with these digits after it
number_after_sound : (ds : List ℕ) (acc n : ℕ) → number_after acc ds ≡ Some n → (v : ℕ) × (v < 10 ^ length ds) × (n ≡ acc * 10 ^ length ds + v) × (ds ≡ digits_of (length ds) v)
unfolding digits_of
number_after_sound [] acc n e = let same = same_Some acc n e in (0, omega arith, omega (arith, same), refl)
number_after_sound (d ∷ ds) acc n e =
    let (digit, rest) = passes (is_ascii_digit d) _ n e in
    let (v, small, value, text) = number_after_sound ds (acc * 10 + (d - 48)) n rest in
    let range : IsInRange 48 57 d = grind (arith, nat_tests) in
    let power = pow-suc 10 (length ds) in
    let at_most : d - 48 ≤ 9 = omega arith in
    let less = mul-le-mul_right (10 ^ length ds) at_most in
    let byte : 48 + (d - 48) ≡ d = omega arith in
    let all = digits_of-cons (length ds) (d - 48) v (omega arith) small in (
      (d - 48) * 10 ^ length ds + v,
      rw power (omega (arith, less, small)),
      rw power (omega (arith, value)),
      rw (all, byte, ← text),
    )

-- the bytes that are read as a number write it
pub number_of_sound : (ds : List ℕ) (k n : ℕ) → length ds ≡ k → number_of ds ≡ Some n → (ds ≡ digits_of k n) × (n < 10 ^ k)
unfolding number_of
number_of_sound ds k n same e =
    let (v, small, value, text) = number_after_sound ds 0 n e in
    let whole : v ≡ n = omega (arith, value) in
    rw (← same, ← whole) (text, small)

number_after_complete : (k acc n : ℕ) (ds : List ℕ) → n < 10 ^ k → number_after acc (digits_of k n ++ ds) ≡ number_after (acc * 10 ^ k + n) ds
unfolding digits_of
number_after_complete zero acc n ds h =
    let same : acc * 10 ^ 0 + n ≡ acc = omega arith in
    rw same
number_after_complete (suc k) acc n ds h =
    let power = pow-suc 10 k in
    let small : n / 10 < 10 ^ k = omega (arith, power) in
    let digit : is_ascii_digit (48 + n % 10) ≡ true = grind (arith, nat_tests) in
    let value : (acc * 10 ^ k + n / 10) * 10 + (48 + n % 10 - 48) ≡ acc * 10 ^ suc k + n = rw power (omega arith) in
    rw (append_assoc, number_after_complete k acc (n / 10) ((48 + n % 10) ∷ ds) small, digit, value)

-- a number that fits its digits is read from them
pub number_of_complete : (k n : ℕ) → n < 10 ^ k → number_of (digits_of k n) ≡ Some n
unfolding number_of
number_of_complete k n h =
    let value : 0 * 10 ^ k + n ≡ n = omega arith in
    rw (← append-nil (digits_of k n), number_after_complete k 0 n [] h, value)

-- a number at an index of a text
pub cut_number : (t : List ℕ) (i k n : ℕ) → i + k ≤ length t → number_of (take k (drop i t)) ≡ Some n → (drop i t ≡ digits_of k n ++ drop (i + k) t) × (n < 10 ^ k)
cut_number t i k n within e =
    let long : length (take k (drop i t)) ≡ k = length-take-le k (drop i t) (omega (arith, length-drop i t)) in
    let (text, small) = number_of_sound (take k (drop i t)) k n long e in
    (rw (← drop-drop k i t, ← text) (sym (take-append-drop k (drop i t))), small)

-- a byte at an index of a text
pub cut_byte : (t : List ℕ) (i b : ℕ) → i < length t → (get_or t i 0 == b) ≡ true → drop i t ≡ b ∷ drop (i + 1) t
cut_byte t i b within e =
    let next : i + 1 ≡ suc i = omega arith in
    drop-cons t i 0 within ∙ rw (eqb-true _ _ e, next)
