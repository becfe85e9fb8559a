-- Texts of visible bytes that are written as themselves.
use Rattle.std.proofs.Common.{◌≡◌, ℕ, Bool, true, false, ◌&&◌, ◌==◌, List, [], ◌∷◌, ◌++◌, refl, ◌∙◌, arith}
use Rattle.std.specs.List.{list_all}
use Rattle.std.proofs.lemmas.Bool.{and_parts}
use Rattle.std.proofs.lemmas.Bool.Decides.{nat_tests}
use Rattle.std.proofs.lemmas.List.Folds.{list_all-append}
use Rattle.stamp_values.specs.Texts.{is_control_byte, is_clean, is_visible_byte}
use Rattle.xml_text.specs.Escapes.{is_written_as_itself, escaped}
use Rattle.xml_text.proofs.EscapeLemmas.{escaped_itself}

-- a visible byte that is written as itself
abbrev pub is_plain : ℕ → Bool
is_plain c = is_visible_byte c && is_written_as_itself c

abbrev pub ArePlain : List ℕ → Type 0
ArePlain s = list_all is_plain s ≡ true

both : (a b : Bool) → a ≡ true → b ≡ true → (a && b) ≡ true
both a b h k = rw (h, k) refl

pub plain-append : (a b : List ℕ) → ArePlain a → ArePlain b → ArePlain (a ++ b)
plain-append a b h k = list_all-append is_plain a b ∙ both (list_all is_plain a) (list_all is_plain b) h k

-- ---- what is plain is written as it is

plain_itself : (c : ℕ) → is_plain c ≡ true → is_written_as_itself c ≡ true
plain_itself c h = (and_parts (is_visible_byte c) (is_written_as_itself c) h).1

all_itself : (s : List ℕ) → ArePlain s → list_all is_written_as_itself s ≡ true
all_itself [] h = refl
all_itself (c ∷ cs) h =
    let (one, more) = and_parts (is_plain c) (list_all is_plain cs) h in
    both (is_written_as_itself c) (list_all is_written_as_itself cs) (plain_itself c one) (all_itself cs more)

pub plain_escaped : (s : List ℕ) → ArePlain s → escaped s ≡ s
plain_escaped s h = escaped_itself s (all_itself s h)

plain_visible : (c : ℕ) → is_plain c ≡ true → is_visible_byte c ≡ true
plain_visible c h = (and_parts (is_visible_byte c) (is_written_as_itself c) h).0

pub all_visible : (s : List ℕ) → ArePlain s → list_all is_visible_byte s ≡ true
all_visible [] h = refl
all_visible (c ∷ cs) h =
    let (one, more) = and_parts (is_plain c) (list_all is_plain cs) h in
    both (is_visible_byte c) (list_all is_visible_byte cs) (plain_visible c one) (all_visible cs more)

no_control : (c : ℕ) → is_plain c ≡ true → is_control_byte c ≡ false
no_control c h = grind (arith, nat_tests)

not_first : (c : ℕ) → is_plain c ≡ true → (c == 0xEF) ≡ false
not_first c h = grind (arith, nat_tests)

pub plain_clean : (s : List ℕ) → ArePlain s → is_clean s ≡ true
plain_clean [] h = refl
plain_clean (c ∷ cs) h =
    let (one, more) = and_parts (is_plain c) (list_all is_plain cs) h in
    rw (no_control c one, not_first c one) (plain_clean cs more)
