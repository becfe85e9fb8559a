-- Elements are characters of a body: they are UTF-8, and their control characters are white space.
use Rattle.std.proofs.Common.{◌≡◌, ℕ, Bool, true, ◌&&◌, List, [], ◌∷◌, ◌++◌, IsUtf8, refl, ap, ◌∙◌, arith, append_assoc}
use Rattle.std.specs.List.{list_all}
use Rattle.std.proofs.lemmas.Bool.{and_parts}
use Rattle.std.proofs.lemmas.Bool.Decides.{nat_tests}
use Rattle.std.proofs.lemmas.List.Folds.{list_all-append}
use Rattle.std.proofs.lemmas.Str.{IsUtf8-append, IsUtf8-nil}
use Rattle.stamp_values.specs.Texts.{is_clean, is_visible_byte}
use Rattle.xml_text.specs.Bodies.{are_controls_white}
use Rattle.xml_text.specs.Markup.{is_name_start, is_name_byte}
use Rattle.xml_text.specs.Tokens.{is_name}
use Rattle.xml_text.specs.Escapes.{escaped}
use Rattle.xml_text.specs.WrittenElements.{opening_text, closing_text, prolog_text, element_text}
use Rattle.xml_text.proofs.WrittenTexts.{IsUtf8-visible, IsUtf8-escaped, starts_low, visible_then, escaped_then}

-- the text is UTF-8 and begins with a byte below 128, and its control characters are white space, whatever text of this kind follows
pub record IsSound (s : List ℕ) : Type 0 where
  pub utf8 : IsUtf8 s
  pub low : (b : List ℕ) → starts_low b ≡ true → starts_low (s ++ b) ≡ true
  pub clean : (b : List ℕ) → starts_low b ≡ true → are_controls_white b ≡ true → are_controls_white (s ++ b) ≡ true

pub sound-nil : IsSound []
sound-nil = record { utf8 = IsUtf8-nil; low = λ b h. h; clean = λ b h k. k }

pub sound-append : (a b : List ℕ) → IsSound a → IsSound b → IsSound (a ++ b)
sound-append a b one two = record {
  utf8 = IsUtf8-append a b one.utf8 two.utf8;
  low = λ c h. ap starts_low (append_assoc a b c) ∙ one.low (b ++ c) (two.low c h);
  clean = λ c h k. ap are_controls_white (append_assoc a b c) ∙ one.clean (b ++ c) (two.low c h) (two.clean c h k);
}

-- the names of elements
abbrev pub is_shown_name : List ℕ → Type 0
is_shown_name name = (list_all is_visible_byte (opening_text name) ≡ true) × (list_all is_visible_byte (closing_text name) ≡ true)

opening_low : (name b : List ℕ) → starts_low (opening_text name ++ b) ≡ true
unfolding opening_text
opening_low name b = refl

pub closing_low : (name b : List ℕ) → starts_low (closing_text name ++ b) ≡ true
unfolding closing_text
closing_low name b = refl

pub opening_sound : (name : List ℕ) → is_shown_name name → IsSound (opening_text name)
opening_sound name (h, k) = record {
  utf8 = IsUtf8-visible (opening_text name) h;
  low = λ b _. opening_low name b;
  clean = λ b _ clean. visible_then (opening_text name) b h clean;
}

pub closing_sound : (name : List ℕ) → is_shown_name name → IsSound (closing_text name)
closing_sound name (h, k) = record {
  utf8 = IsUtf8-visible (closing_text name) k;
  low = λ b _. closing_low name b;
  clean = λ b _ clean. visible_then (closing_text name) b k clean;
}

pub inner_sound : (name s : List ℕ) → is_shown_name name → IsSound s → IsSound (opening_text name ++ s ++ closing_text name)
inner_sound name s shown h = sound-append (opening_text name ++ s) (closing_text name) (sound-append (opening_text name) s (opening_sound name shown) h) (closing_sound name shown)

-- an element of a text without control characters
pub element_sound : (name t : List ℕ) → is_shown_name name → IsUtf8 t → is_clean t ≡ true → IsSound (element_text name t)
unfolding element_text
element_sound name t shown utf8 clean =
    let one = opening_sound name shown in
    let last = closing_sound name shown in
    let shape : (b : List ℕ) → (opening_text name ++ escaped t ++ closing_text name) ++ b ≡ opening_text name ++ (escaped t ++ (closing_text name ++ b)) = λ b. simp append_assoc refl in
    record {
      utf8 = IsUtf8-append (opening_text name ++ escaped t) (closing_text name) (IsUtf8-append (opening_text name) (escaped t) one.utf8 (IsUtf8-escaped t utf8)) last.utf8;
      low = λ b h. ap starts_low (shape b) ∙ opening_low name (escaped t ++ (closing_text name ++ b));
      clean = λ b h k. ap are_controls_white (shape b) ∙ visible_then (opening_text name) (escaped t ++ (closing_text name ++ b)) shown.0 (escaped_then t (closing_text name ++ b) clean (closing_low name b) (last.clean b h k));
    }

-- ---- names of elements

name_visible : (c : ℕ) → is_name_byte c ≡ true → is_visible_byte c ≡ true
name_visible c h = grind (arith, nat_tests)

start_visible : (c : ℕ) → is_name_start c ≡ true → is_visible_byte c ≡ true
start_visible c h = grind (arith, nat_tests)

both : (a b : Bool) → a ≡ true → b ≡ true → (a && b) ≡ true
both a b h k = rw (h, k) refl

bytes_visible : (s : List ℕ) → list_all is_name_byte s ≡ true → list_all is_visible_byte s ≡ true
bytes_visible [] h = refl
bytes_visible (c ∷ cs) h =
    let (one, more) = and_parts (is_name_byte c) (list_all is_name_byte cs) h in
    both (is_visible_byte c) (list_all is_visible_byte cs) (name_visible c one) (bytes_visible cs more)

all_visible : (name : List ℕ) → is_name name ≡ true → list_all is_visible_byte name ≡ true
all_visible [] h = cc
all_visible (c ∷ cs) h =
    let (one, more) = and_parts (is_name_start c) (list_all is_name_byte cs) h in
    both (is_visible_byte c) (list_all is_visible_byte cs) (start_visible c one) (bytes_visible cs more)

with_bracket : (name : List ℕ) → list_all is_visible_byte name ≡ true → list_all is_visible_byte (name ++ 62 ∷ []) ≡ true
with_bracket name h = list_all-append is_visible_byte name (62 ∷ []) ∙ both (list_all is_visible_byte name) true h refl

-- the tags of an element are visible
pub name_shown : (name : List ℕ) → is_name name ≡ true → is_shown_name name
unfolding opening_text closing_text
name_shown name named = let all = with_bracket name (all_visible name named) in (all, all)

-- ---- the prolog

prolog_shown : list_all is_visible_byte prolog_text ≡ true
unfolding prolog_text
prolog_shown = refl

prolog_low : (b : List ℕ) → starts_low (prolog_text ++ b) ≡ true
unfolding prolog_text
prolog_low b = refl

pub prolog_sound : IsSound prolog_text
prolog_sound = record {
  utf8 = IsUtf8-visible prolog_text prolog_shown;
  low = λ b _. prolog_low b;
  clean = λ b _ clean. visible_then prolog_text b prolog_shown clean;
}
