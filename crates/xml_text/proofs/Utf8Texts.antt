-- Bytes that pass the test of UTF-8 are a text.
use Rattle.std.proofs.Common.{◌≡◌, ◌≤◌, ℕ, zero, suc, List, [], length, take, true, IsUtf8, inl, inr, refl, subst, arith}
use Rattle.std.specs.Str as str
use Rattle.std.specs.Str.Lossy.{valid_len_up_to, utf8_valid_len}
use Rattle.std.proofs.lemmas.Bool.{cases_Bool}
use Rattle.std.proofs.lemmas.Bool.Decides.{nat_tests}
use Rattle.std.proofs.lemmas.List.{take_all}
use Rattle.std.proofs.lemmas.Str.{IsUtf8-from_is_utf8}
use Rattle.stamp_values.specs.Texts.{is_utf8}

-- no more bytes are found good than are looked at
found_le : (bytes : List ℕ) (n : ℕ) → valid_len_up_to bytes n ≤ n
found_le bytes zero = omega arith
found_le bytes (suc n) = elim (cases_Bool (str.is_utf8 (take (suc n) bytes))) [
  | inl good ↦ rw good (omega arith)
  | inr bad ↦ rw bad (omega (arith, found_le bytes n))
]

-- if all bytes are found good, they are a text
all_found : (bytes : List ℕ) (n : ℕ) → valid_len_up_to bytes n ≡ n → IsUtf8 (take n bytes)
all_found bytes zero all = ([], (refl, refl))
all_found bytes (suc n) all = elim (cases_Bool (str.is_utf8 (take (suc n) bytes))) [
  | inl good ↦ IsUtf8-from_is_utf8 (take (suc n) bytes) good
  | inr bad ↦ absurd (omega (arith, rw bad at all, found_le bytes n))
]

-- bytes that pass are a text
pub passes_text : (bytes : List ℕ) → is_utf8 bytes ≡ true → IsUtf8 bytes
unfolding is_utf8 utf8_valid_len
passes_text bytes passes =
    let all : valid_len_up_to bytes (length bytes) ≡ length bytes = grind (arith, nat_tests) in
    subst IsUtf8 (take_all (length bytes) bytes (omega arith)) (all_found bytes (length bytes) all)
