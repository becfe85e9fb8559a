-- Texts in which each control character is white space.
use Rattle.std.proofs.Common.{◌≡◌, ℕ, Bool, true, false, not, cond, ◌&&◌, ◌||◌, ◌==◌, List, [], ◌∷◌, refl, sym, ap, ◌∙◌, arith}
use Rattle.std.specs.List.{list_all, slice_split, onto_first}
use Rattle.std.proofs.lemmas.Bool.Decides.{nat_tests}
use Rattle.stamp_values.specs.Texts.{begins_with_control, begins_with_last_two, is_control_byte, is_clean}
use Rattle.xml_text.specs.Markup.{is_white}
use Rattle.xml_text.specs.Bodies.{are_controls_white}

-- ---- the parts between white space

-- the part before the first white space
abbrev first_part : List ℕ → List ℕ
first_part [] = []
first_part (c ∷ cs) = cond (is_white c) [] (c ∷ first_part cs)

-- the parts are the first part and others
abbrev Begins : List (List ℕ) → List ℕ → Type 0
Begins parts first = (others : List (List ℕ)) × (parts ≡ first ∷ others)

parts_begin : (s : List ℕ) → Begins (slice_split is_white s) (first_part s)
parts_begin [] = ([], refl)
parts_begin (c ∷ cs) =
    let (others, same) = parts_begin cs in
    elim (is_white c) as (λ b. Begins (cond b ([] ∷ slice_split is_white cs) (onto_first c (slice_split is_white cs))) (cond b [] (c ∷ first_part cs))) [
      | true ↦ (slice_split is_white cs, refl)
      | false ↦ (others, ap (onto_first c) same)
    ]

white_not_last : (b : ℕ) → is_white b ≡ true → (b == 0xBF) ≡ false
white_not_last b h = grind (arith, nat_tests)

white_not_either : (c : ℕ) → is_white c ≡ true → (c == 0xBE || c == 0xBF) ≡ false
white_not_either c h = grind (arith, nat_tests)

and_false : (a b : Bool) → b ≡ false → false ≡ (a && b)
and_false true b h = sym h
and_false false b h = refl

-- what the text begins with, its first part begins with
first_begins : (s : List ℕ) → begins_with_last_two (first_part s) ≡ begins_with_last_two s
first_begins [] = refl
first_begins (b ∷ []) =
    elim (is_white b) as (λ x. begins_with_last_two (cond x [] (b ∷ [])) ≡ false) [
      | true ↦ refl
      | false ↦ refl
    ]
first_begins (b ∷ c ∷ t) =
    elim (is_white b) as (λ x. is_white b ≡ x → begins_with_last_two (cond x [] (b ∷ first_part (c ∷ t))) ≡ (b == 0xBF && (c == 0xBE || c == 0xBF))) [
      | true ↦ λ h. rw (white_not_last b h) refl
      | false ↦ λ _.
          elim (is_white c) as (λ y. is_white c ≡ y → begins_with_last_two (b ∷ cond y [] (c ∷ first_part t)) ≡ (b == 0xBF && (c == 0xBE || c == 0xBF))) [
            | true ↦ λ h. and_false (b == 0xBF) (c == 0xBE || c == 0xBF) (white_not_either c h)
            | false ↦ λ _. refl
          ] refl
    ] refl

and_apart : (a b c : Bool) → ((a && b) && c) ≡ (a && (b && c))
and_apart true b c = refl
and_apart false b c = refl

-- the first part of the parts after a byte that is not white space
with_first : (c : ℕ) (cs : List ℕ) (others : List (List ℕ)) → slice_split is_white cs ≡ first_part cs ∷ others → list_all is_clean (slice_split is_white cs) ≡ are_controls_white cs
    → list_all is_clean (onto_first c (slice_split is_white cs)) ≡ (not (begins_with_control (c ∷ cs)) && are_controls_white cs)
with_first c cs others same clean =
    let first = first_part cs in
    ap (λ parts. list_all is_clean (onto_first c parts)) same
    ∙ and_apart (not (begins_with_control (c ∷ first))) (is_clean first) (list_all is_clean others)
    ∙ ap (λ b. not (is_control_byte c || (c == 0xEF && b)) && (is_clean first && list_all is_clean others)) (first_begins cs)
    ∙ ap (λ b. not (begins_with_control (c ∷ cs)) && b) (ap (list_all is_clean) (sym same) ∙ clean)

-- the parts between white space have no control character if and only if each control character is white space
pub clean_parts : (s : List ℕ) → list_all is_clean (slice_split is_white s) ≡ are_controls_white s
clean_parts [] = refl
clean_parts (c ∷ cs) =
    let (others, same) = parts_begin cs in
    let more = clean_parts cs in
    elim (is_white c) as (λ b. list_all is_clean (cond b ([] ∷ slice_split is_white cs) (onto_first c (slice_split is_white cs))) ≡ ((b || not (begins_with_control (c ∷ cs))) && are_controls_white cs)) [
      | true ↦ more
      | false ↦ with_first c cs others same more
    ]
