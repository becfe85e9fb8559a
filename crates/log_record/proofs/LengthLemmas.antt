-- How many bytes texts, lists and kept values have at most in a record.
use Rattle.std.proofs.Common.{◌≡◌, ℕ, zero, suc, ◌+◌, ◌*◌, ◌<◌, ◌≤◌, ◌/◌, ◌&&◌, Bool, true, false, not, cond, ltb, List, [], ◌∷◌, ◌++◌, length, take, Option, Some, None, All, refl, ap, subst, arith, nat_le}
use Rattle.std.specs.List.{flat_map}
use Rattle.std.specs.Str.{IsUtf8}
use Rattle.std.specs.Str as str
use Rattle.std.specs.Str.Lossy.{utf8_valid_len, valid_len_up_to}
use Rattle.std.proofs.lemmas.Bool.{eqb-true, ltb-true}
use Rattle.std.proofs.lemmas.Bool.Decides.{nat_tests}
use Rattle.std.proofs.lemmas.List.{length-append, take_all}
use Rattle.std.proofs.lemmas.List.Concat.{flat_map-cons}
use Rattle.std.proofs.lemmas.List.Elements.{All-head, All-tail}
use Rattle.std.proofs.lemmas.List.Sums.{sum_by-cons, sum_by-append}
use Rattle.std.proofs.lemmas.Str.{IsUtf8-from_is_utf8, IsUtf8-nil}
use lib.Utf8.{encode, encodes, next}
use Rattle.stamp_values.specs.Texts.{is_utf8, is_continuation, char_count}
use Rattle.log_record.specs.Fits.{FitsText}
use Rattle.log_record.specs.Forms.{short_bytes, long_bytes, string_bytes, option_bytes, list_bytes}

-- ---- tests

pub both_true : (a b : Bool) → (a && b) ≡ true → (a ≡ true) × (b ≡ true)
both_true true b e = (refl, e)
both_true false b e = absurd cc

pub at_most : (n m : ℕ) → nat_le n m ≡ true → n ≤ m
at_most n m e = grind (arith, nat_tests)

-- ---- strings, options and lists

pub length-short_bytes : (n : ℕ) → length (short_bytes n) ≡ 4
unfolding short_bytes
length-short_bytes n = refl

pub length-long_bytes : (n : ℕ) → length (long_bytes n) ≡ 8
unfolding long_bytes
length-long_bytes n = refl

pub long_within : (n : ℕ) → length (long_bytes n) ≤ 8
long_within n = omega (arith, length-long_bytes n)

pub short_within : (n : ℕ) → length (short_bytes n) ≤ 4
short_within n = omega (arith, length-short_bytes n)

pub string_within : (s : List ℕ) (k : ℕ) → length s ≤ k → length (string_bytes s) ≤ 4 + k
unfolding string_bytes
string_within s k most = omega (arith, length-append (short_bytes (length s)) s, length-short_bytes (length s), most)

-- bytes after bytes
pub then_within : (a b : List ℕ) (m n : ℕ) → length a ≤ m → length b ≤ n → length (a ++ b) ≤ m + n
then_within a b m n x y = omega (arith, length-append a b, x, y)

pub option_within : {A : Type 0} (bytes : A → List ℕ) (k : ℕ) (o : Option A) → ((a : A) → o ≡ Some a → length (bytes a) ≤ k) → length (option_bytes bytes o) ≤ 1 + k
option_within bytes k None most = omega arith
option_within bytes k (Some a) most = let one = most a refl in omega (arith, one)

module _ {A : Type 0} (bytes : A → List ℕ) (size : ℕ → ℕ) (k : ℕ) (more : (n : ℕ) → size n + k ≤ size (suc n)) (P : A → Type 0) (one : (a : A) → P a → length (bytes a) ≤ k) where
  each_within : (items : List A) → All P items → length (flat_map bytes items) ≤ size (length items)
  each_within [] all = omega arith
  each_within (a ∷ items) all =
      let first = one a (All-head P a items all) in
      let others = each_within items (All-tail P a items all) in
      let step = more (length items) in
      omega (arith, ap length (flat_map-cons bytes a items), length-append (bytes a) (flat_map bytes items), first, others, step)

  -- a list of so many items of so many bytes each
  pub list_within : (items : List A) → All P items → length (list_bytes bytes items) ≤ 4 + size (length items)
  unfolding list_bytes
  list_within items all =
      omega (arith, length-append (short_bytes (length items)) (flat_map bytes items), length-short_bytes (length items), each_within items all)

-- ---- texts

-- a byte that begins a character
abbrev begins : ℕ → Bool
begins b = not (is_continuation b)

abbrev count_one : Bool → ℕ
count_one b = cond b 1 0

counted : (b : ℕ) (t : List ℕ) → begins b ≡ true → length t ≤ 3 → length (b ∷ t) ≤ 4 * char_count (b ∷ t)
counted b t first short =
    let one : count_one (begins b) ≡ 1 = ap count_one first in
    omega (arith, sum_by-cons (λ x. count_one (begins x)) b t, one, short)

low_begins : (b : ℕ) → b < 128 → begins b ≡ true
low_begins b low = grind (arith, nat_tests)

high_begins : (b : ℕ) → 192 ≤ b → begins b ≡ true
high_begins b high = grind (arith, nat_tests)

-- the text has at most four bytes for each character
abbrev Counted : List ℕ → Type 0
Counted t = length t ≤ 4 * char_count t

choose : (P : List ℕ → Type 0) (b : Bool) (x y : List ℕ) → (b ≡ true → P x) → (b ≡ false → P y) → P (cond b x y)
choose P true x y first second = first refl
choose P false x y first second = second refl

encode_counted : (c : ℕ) → Counted (encode c)
unfolding encode
encode_counted c =
    choose Counted (ltb c 128) _ _ (λ low. counted c [] (low_begins c (ltb-true c 128 low)) (omega arith))
    (λ h. choose Counted (ltb c 2048) _ _ (λ h. counted (192 + c / 64) (next c ∷ []) (high_begins (192 + c / 64) (omega arith)) (omega arith))
    (λ h. choose Counted (ltb c 65536) _ _ (λ h. counted (224 + c / 4096) (next (c / 64) ∷ next c ∷ []) (high_begins (224 + c / 4096) (omega arith)) (omega arith))
    (λ h. counted (240 + c / 262144) (next (c / 4096) ∷ next (c / 64) ∷ next c ∷ []) (high_begins (240 + c / 262144) (omega arith)) (omega arith))))

encodes_counted : (cs : List ℕ) → Counted (encodes cs)
encodes_counted [] = omega arith
encodes_counted (c ∷ cs) =
    omega (arith, length-append (encode c) (encodes cs), sum_by-append (λ x. count_one (begins x)) (encode c) (encodes cs), encode_counted c, encodes_counted cs)

front_le : (bs : List ℕ) (n : ℕ) → valid_len_up_to bs n ≤ n
front_le bs zero = omega arith
front_le bs (suc n) = by (str.is_utf8 (take (suc n) bs)) (front_le bs n)
  where
    by : (b : Bool) → valid_len_up_to bs n ≤ n → cond b (suc n) (valid_len_up_to bs n) ≤ suc n
    by true most = omega arith
    by false most = omega (arith, most)

whole_passes : (bs : List ℕ) (n : ℕ) → valid_len_up_to bs (suc n) ≡ suc n → str.is_utf8 (take (suc n) bs) ≡ true
whole_passes bs n e = by (str.is_utf8 (take (suc n) bs)) e
  where
    by : (b : Bool) → cond b (suc n) (valid_len_up_to bs n) ≡ suc n → b ≡ true
    by true h = refl
    by false h = absurd (omega (arith, front_le bs n, h))

text_utf8 : (t : List ℕ) → is_utf8 t ≡ true → IsUtf8 t
unfolding is_utf8 utf8_valid_len
text_utf8 [] e = IsUtf8-nil
text_utf8 (b ∷ t) e =
    IsUtf8-from_is_utf8 (b ∷ t)
    (subst (λ (u : List ℕ). str.is_utf8 u ≡ true) (take_all (suc (length t)) (b ∷ t) (omega arith)) (whole_passes (b ∷ t) (length t) (eqb-true _ _ e)))

-- a text of so many characters has at most four times as many bytes
pub text_within : (t : List ℕ) (k : ℕ) → FitsText t → char_count t ≤ k → length t ≤ 4 * k
text_within t k fits most =
    let utf8 = text_utf8 t (both_true _ _ fits.1).0 in
    let known = subst Counted utf8.1.1 (encodes_counted utf8.0) in
    omega (arith, known, most)
