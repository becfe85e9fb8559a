-- Bytes that pass the test of UTF-8 are a text.
use Rattle.std.proofs.Common.{◌≡◌, ◌≤◌, ◌↔◌, List, [], ℕ, zero, suc, length, IsTrue, IsUtf8, arith, refl, subst, take, true, inl, inr}
use Rattle.std.proofs.lemmas.Bool.{cases_Bool}
use Rattle.std.proofs.lemmas.List.{take_all}
use Rattle.std.specs.Str as str
use Rattle.std.specs.Str.Lossy.{valid_len_up_to}
use Rattle.std.proofs.lemmas.Str.{IsUtf8-from_is_utf8}
use Rattle.std.specs.Str.Lossy.{utf8_valid_len}
use Rattle.std.proofs.lemmas.Bool.Decides.{nat_tests}
use Rattle.stamp_values.specs.Texts.{is_utf8}
use Rattle.stamp_values.proofs.Utf8Lemmas.{utf8_passes}

-- the good bytes are not more than the bytes that were looked at
valid_le : (bytes : List ℕ) (n : ℕ) → valid_len_up_to bytes n ≤ n
valid_le bytes zero = omega arith
valid_le bytes (suc n) = elim (cases_Bool (str.is_utf8 (take (suc n) bytes))) [
  | inl good ↦ rw good (omega arith)
  | inr bad ↦ rw bad (omega (arith, valid_le bytes n))
]

-- if all bytes are good, they are a text
text_of : (bytes : List ℕ) (n : ℕ) → valid_len_up_to bytes n ≡ n → IsUtf8 (take n bytes)
text_of bytes zero all = ([], (refl, refl))
text_of bytes (suc n) all = elim (cases_Bool (str.is_utf8 (take (suc n) bytes))) [
  | inl good ↦ IsUtf8-from_is_utf8 (take (suc n) bytes) good
  | inr bad ↦ absurd (omega (arith, rw bad at all, valid_le bytes n))
]

-- bytes that pass are a text
passes_text : (bytes : List ℕ) → is_utf8 bytes ≡ true → IsUtf8 bytes
unfolding is_utf8 utf8_valid_len
passes_text bytes passes =
    let all : valid_len_up_to bytes (length bytes) ≡ length bytes = grind (arith, nat_tests) in
    subst IsUtf8 (take_all (length bytes) bytes (omega arith)) (text_of bytes (length bytes) all)

-- the test holds if and only if the bytes are a text in UTF-8
pub is_utf8-IsUtf8 : (bytes : List ℕ) → IsTrue (is_utf8 bytes) ↔ IsUtf8 bytes
is_utf8-IsUtf8 bytes = (passes_text bytes, utf8_passes bytes)
