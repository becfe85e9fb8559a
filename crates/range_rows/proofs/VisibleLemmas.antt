-- Bytes of printable ASCII are a text without control characters.
use Rattle.std.proofs.Common.{◌≡◌, IsTrue, IsUtf8, ℕ, zero, suc, ◌≤◌, ◌<◌, Bool, true, false, ◌&&◌, ◌==◌, nat_lt, nat_le, List, [], ◌∷◌, slice_index, refl, sym, ◌∙◌, arith, leb-true}
use Rattle.std.proofs.lemmas.Bool.{and_parts}
use Rattle.std.proofs.lemmas.Bool.Decides.{nat_tests}
use Rattle.std.proofs.lemmas.Str.{IsUtf8-from_ascii}
use Rattle.std.specs.List.{list_all}
use Rattle.stamp_values.specs.Texts.{is_visible, is_visible_byte, is_clean}

ends : (b : ℕ) → is_visible_byte b ≡ true → (32 ≤ b) × (b ≤ 126)
ends b e =
    let both = and_parts (nat_le 32 b) (nat_le b 126) e in
    (leb-true 32 b both.0, leb-true b 126 both.1)

no_control : (b : ℕ) → (32 ≤ b) × (b ≤ 126) → (nat_lt b 32 ≡ false) × (((b == 127) ≡ false) × ((b == 239) ≡ false))
no_control b in_ends =
    let least = in_ends.0 in
    let most = in_ends.1 in
    (grind (arith, nat_tests), (grind (arith, nat_tests), grind (arith, nat_tests)))

each_ascii : (t : List ℕ) → is_visible t ≡ true → (i : ℕ) → slice_index t i < 128
each_ascii [] all i = omega arith
each_ascii (b ∷ t) all zero = omega (arith, (ends b (and_parts (is_visible_byte b) (list_all is_visible_byte t) all).0).1)
each_ascii (b ∷ t) all (suc i) = each_ascii t (and_parts (is_visible_byte b) (list_all is_visible_byte t) all).1 i

-- it is in UTF-8
pub visible_utf8 : (t : List ℕ) → is_visible t ≡ true → IsUtf8 t
visible_utf8 t all = IsUtf8-from_ascii t (each_ascii t all)

-- it has no control character
pub visible_clean : (t : List ℕ) → is_visible t ≡ true → is_clean t ≡ true
visible_clean [] all = refl
visible_clean (b ∷ t) all =
    let both = and_parts (is_visible_byte b) (list_all is_visible_byte t) all in
    let none = no_control b (ends b both.0) in
    rw (none.0, none.1.0, none.1.1) (visible_clean t both.1)
