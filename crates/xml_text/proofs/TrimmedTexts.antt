-- Texts without white space at their ends.
use Rattle.std.proofs.Common.{◌≡◌, ℕ, Bool, true, false, cond, ◌&&◌, ◌==◌, nat_le, List, [], ◌∷◌, ◌++◌, reverse, refl, sym, ap, ◌∙◌, arith}
use Rattle.std.specs.List.{list_all}
use Rattle.std.proofs.lemmas.Bool.{and_parts}
use Rattle.std.proofs.lemmas.Bool.Decides.{nat_tests}
use Rattle.std.proofs.lemmas.List.{reverse-append, reverse-reverse}
use Rattle.std.proofs.lemmas.List.Folds.{list_all-append}
use Rattle.stamp_values.specs.Texts.{is_control_byte, is_clean, is_visible_byte}
use Rattle.xml_text.specs.Markup.{is_white}
use Rattle.xml_text.specs.Elements.{without_white_front, without_white_ends, HasNoWhiteEnds}

-- ---- white space is cut once

-- a byte that is not white space after others
front_stops : (c : ℕ) (r : List ℕ) → is_white c ≡ false → without_white_front (r ++ c ∷ []) ≡ without_white_front r ++ c ∷ []
front_stops c [] h = rw h refl
front_stops c (d ∷ r) h =
    elim (is_white d) as (λ b. cond b (without_white_front (r ++ c ∷ [])) (d ∷ (r ++ c ∷ [])) ≡ cond b (without_white_front r) (d ∷ r) ++ c ∷ []) [
      | true ↦ front_stops c r h
      | false ↦ refl
    ]

-- what is left begins with a byte that is not white space, if it has bytes
abbrev BeginsDark : List ℕ → Type 0
BeginsDark [] = Unit {0}
BeginsDark (c ∷ cs) = is_white c ≡ false

front_dark : (s : List ℕ) → BeginsDark (without_white_front s)
front_dark [] = tt
front_dark (c ∷ cs) =
    elim (is_white c) as (λ b. is_white c ≡ b → BeginsDark (cond b (without_white_front cs) (c ∷ cs))) [
      | true ↦ λ _. front_dark cs
      | false ↦ λ h. h
    ] refl

dark_front : (s : List ℕ) → BeginsDark s → without_white_front s ≡ s
dark_front [] h = refl
dark_front (c ∷ cs) h = rw h refl

-- without its end, the text begins as before
end_dark : (s : List ℕ) → BeginsDark s → without_white_front (reverse (without_white_front (reverse s))) ≡ reverse (without_white_front (reverse s))
end_dark [] h = refl
end_dark (c ∷ cs) h =
    let cut : without_white_front (reverse (c ∷ cs)) ≡ without_white_front (reverse cs) ++ c ∷ [] = ap without_white_front (reverse-append (c ∷ []) cs) ∙ front_stops c (reverse cs) h in
    let shape : reverse (without_white_front (reverse (c ∷ cs))) ≡ c ∷ reverse (without_white_front (reverse cs)) = ap reverse cut ∙ reverse-append (without_white_front (reverse cs)) (c ∷ []) in
    ap without_white_front shape ∙ dark_front (c ∷ reverse (without_white_front (reverse cs))) h ∙ sym shape

-- a text without white space at its ends stays as it is
pub ends_cut_once : (s : List ℕ) → HasNoWhiteEnds (without_white_ends s)
ends_cut_once s =
    let front = without_white_front s in
    let back = without_white_front (reverse front) in
    ap (λ l. reverse (without_white_front (reverse l))) (end_dark front (front_dark s))
    ∙ ap (λ l. reverse (without_white_front l)) (reverse-reverse back)
    ∙ ap reverse (dark_front back (front_dark (reverse front)))

-- ---- texts of digits, letters and marks

-- a byte from the hyphen to z
abbrev pub is_dark : ℕ → Bool
is_dark c = nat_le 45 c && nat_le c 122

both : (a b : Bool) → a ≡ true → b ≡ true → (a && b) ≡ true
both a b h k = rw (h, k) refl

pub dark-append : (a b : List ℕ) → list_all is_dark a ≡ true → list_all is_dark b ≡ true → list_all is_dark (a ++ b) ≡ true
dark-append a b h k = list_all-append is_dark a b ∙ both (list_all is_dark a) (list_all is_dark b) h k

dark-reverse : (s : List ℕ) → list_all is_dark s ≡ true → list_all is_dark (reverse s) ≡ true
dark-reverse [] h = refl
dark-reverse (c ∷ cs) h =
    let (one, more) = and_parts (is_dark c) (list_all is_dark cs) h in
    ap (list_all is_dark) (reverse-append (c ∷ []) cs) ∙ dark-append (reverse cs) (c ∷ []) (dark-reverse cs more) (both (is_dark c) true one refl)

dark_not_white : (c : ℕ) → is_dark c ≡ true → is_white c ≡ false
dark_not_white c h = grind (arith, nat_tests)

begins_dark : (s : List ℕ) → list_all is_dark s ≡ true → BeginsDark s
begins_dark [] h = tt
begins_dark (c ∷ cs) h = dark_not_white c (and_parts (is_dark c) (list_all is_dark cs) h).0

pub dark_trimmed : (s : List ℕ) → list_all is_dark s ≡ true → HasNoWhiteEnds s
dark_trimmed s h =
    ap (λ l. reverse (without_white_front (reverse l))) (dark_front s (begins_dark s h))
    ∙ ap reverse (dark_front (reverse s) (begins_dark (reverse s) (dark-reverse s h))) ∙ reverse-reverse s

dark_visible : (c : ℕ) → is_dark c ≡ true → is_visible_byte c ≡ true
dark_visible c h = grind (arith, nat_tests)

pub all_visible : (s : List ℕ) → list_all is_dark s ≡ true → list_all is_visible_byte s ≡ true
all_visible [] h = refl
all_visible (c ∷ cs) h =
    let (one, more) = and_parts (is_dark c) (list_all is_dark cs) h in
    both (is_visible_byte c) (list_all is_visible_byte cs) (dark_visible c one) (all_visible cs more)

dark_no_control : (c : ℕ) → is_dark c ≡ true → is_control_byte c ≡ false
dark_no_control c h = grind (arith, nat_tests)

dark_not_first : (c : ℕ) → is_dark c ≡ true → (c == 0xEF) ≡ false
dark_not_first c h = grind (arith, nat_tests)

pub dark_clean : (s : List ℕ) → list_all is_dark s ≡ true → is_clean s ≡ true
dark_clean [] h = refl
dark_clean (c ∷ cs) h =
    let (one, more) = and_parts (is_dark c) (list_all is_dark cs) h in
    rw (dark_no_control c one, dark_not_first c one) (dark_clean cs more)
