-- Escaped texts are UTF-8, and each control character in them is white space.
use Rattle.std.proofs.Common.{◌≡◌, ◌⊎◌, inl, inr, ℕ, suc, ◌<◌, ◌≤◌, Bool, true, false, not, ◌&&◌, ◌||◌, ◌==◌, nat_lt, List, [], ◌∷◌, ◌++◌, length, get_or, IsUtf8, refl, sym, ap, ap₂, ◌∙◌, subst, arith, append_assoc, append-nil}
use Rattle.std.specs.List.{list_all, flat_map}
use Rattle.std.proofs.Math.Utf8.{scalar, scalars, encode, encodes, low_scalar}
use Rattle.std.proofs.lemmas.Bool.{and_parts, cases_lt}
use Rattle.std.proofs.lemmas.Bool.Decides.{nat_tests}
use Rattle.std.proofs.lemmas.Grind.{flat_map-append}
use Rattle.std.proofs.lemmas.Str.{IsUtf8-append, IsUtf8-nil, IsUtf8-encode, encode_ascii, inside_one}
use Rattle.stamp_values.specs.Ascii.{ampersand}
use Rattle.stamp_values.specs.Texts.{begins_with_control, begins_with_last_two, is_control_byte, is_clean, is_visible_byte}
use Rattle.xml_text.specs.Markup.{less_than, greater_than, is_white}
use Rattle.xml_text.specs.Bodies.{are_controls_white}
use Rattle.xml_text.specs.Texts.{piece_bytes}
use Rattle.xml_text.specs.Escapes.{escaped_byte, escaped}
use Rattle.xml_text.proofs.EscapeLemmas.{chosen}

-- how a text is written
abbrev shown : List ℕ → List ℕ
shown s = flat_map (λ c. piece_bytes (escaped_byte c)) s

both : (a b : Bool) → a ≡ true → b ≡ true → (a && b) ≡ true
both a b h k = rw (h, k) refl

or_right : (a b : Bool) → b ≡ true → (a || b) ≡ true
or_right true b h = refl
or_right false b h = h

-- ---- bytes

visible_low : (c : ℕ) → is_visible_byte c ≡ true → c < 128
visible_low c h = grind (arith, nat_tests)

-- a byte is written as it is, or it is below 128 and is written as visible bytes that begin with `&`
abbrev IsShown : ℕ → Type 0
IsShown c =
    (piece_bytes (escaped_byte c) ≡ c ∷ [])
    ⊎ ((nat_lt c 128 ≡ true) × (more : List ℕ) × (piece_bytes (escaped_byte c) ≡ ampersand ∷ more) × (list_all is_visible_byte more ≡ true))

low_if : (c n : ℕ) → n < 128 → (c == n) ≡ true → nat_lt c 128 ≡ true
low_if c n low h = grind (arith, nat_tests)

shown_by : (c : ℕ) (a l g : Bool) → (c == ampersand) ≡ a → (c == less_than) ≡ l → (c == greater_than) ≡ g → piece_bytes (escaped_byte c) ≡ piece_bytes (chosen c a l g) → IsShown c
shown_by c true l g is_amp is_lt is_gt same = inr (low_if c ampersand (omega arith) is_amp, 97 ∷ 109 ∷ 112 ∷ 59 ∷ [], same, refl)
shown_by c false true g is_amp is_lt is_gt same = inr (low_if c less_than (omega arith) is_lt, 108 ∷ 116 ∷ 59 ∷ [], same, refl)
shown_by c false false true is_amp is_lt is_gt same = inr (low_if c greater_than (omega arith) is_gt, 103 ∷ 116 ∷ 59 ∷ [], same, refl)
shown_by c false false false is_amp is_lt is_gt same = inl same

is_shown : (c : ℕ) → IsShown c
is_shown c = shown_by c (c == ampersand) (c == less_than) (c == greater_than) refl refl refl refl

-- ---- UTF-8

ascii_then : (c : ℕ) (s : List ℕ) → c < 128 → IsUtf8 s → IsUtf8 (c ∷ s)
ascii_then c s low is = IsUtf8-append (c ∷ []) s (subst IsUtf8 (encode_ascii c low) (IsUtf8-encode c (low_scalar c (omega arith)))) is

-- visible bytes are a text
pub IsUtf8-visible : (s : List ℕ) → list_all is_visible_byte s ≡ true → IsUtf8 s
IsUtf8-visible [] h = IsUtf8-nil
IsUtf8-visible (c ∷ cs) h =
    let (one, more) = and_parts (is_visible_byte c) (list_all is_visible_byte cs) h in
    ascii_then c cs (visible_low c one) (IsUtf8-visible cs more)

low_shown : (c : ℕ) → c < 128 → IsUtf8 (piece_bytes (escaped_byte c))
low_shown c low = elim (is_shown c) [
  | inl same ↦ subst IsUtf8 (sym same) (ascii_then c [] low IsUtf8-nil)
  | inr (below, more, same, visible) ↦ subst IsUtf8 (sym same) (ascii_then ampersand more (omega arith) (IsUtf8-visible more visible))
]

not_low : (c : ℕ) → 128 ≤ c → nat_lt c 128 ≡ false
not_low c high = grind (arith, nat_tests)

high_shown : (c : ℕ) → 128 ≤ c → piece_bytes (escaped_byte c) ≡ c ∷ []
high_shown c high = elim (is_shown c) [
  | inl same ↦ same
  | inr (below, more, same, visible) ↦ let other = not_low c high in absurd (cc)
]

all_high_shown : (s : List ℕ) → ((k : ℕ) → k < length s → 128 ≤ get_or s k 0) → shown s ≡ s
all_high_shown [] h = refl
all_high_shown (c ∷ cs) h =
    ap₂ (λ (a b : List ℕ). a ++ b) (high_shown c (h 0 (omega arith))) (all_high_shown cs (λ k below. h (suc k) (omega arith)))

character_shown : (c : ℕ) → scalar c ≡ true → IsUtf8 (shown (encode c))
character_shown c is = elim (cases_lt c 128) [
  | inl low ↦ rw (encode_ascii c low, append-nil (piece_bytes (escaped_byte c))) (low_shown c low)
  | inr high ↦
      let all : (k : ℕ) → k < length (encode c) → 128 ≤ get_or (encode c) k 0 = λ k below. elim (cases_lt (get_or (encode c) k 0) 128) [
        | inl low ↦ absurd (omega (arith, inside_one c [] (encode c) k (sym (append-nil (encode c))) below low))
        | inr h ↦ h
      ] in
      subst IsUtf8 (sym (all_high_shown (encode c) all)) (IsUtf8-encode c is)
]

characters_shown : (cs : List ℕ) → scalars cs ≡ true → IsUtf8 (shown (encodes cs))
characters_shown [] is = IsUtf8-nil
characters_shown (c ∷ cs) is =
    let (one, more) = and_parts (scalar c) (scalars cs) is in
    subst IsUtf8 (sym (flat_map-append (λ d. piece_bytes (escaped_byte d)) (encode c) (encodes cs))) (IsUtf8-append (shown (encode c)) (shown (encodes cs)) (character_shown c one) (characters_shown cs more))

-- a text in UTF-8 is escaped in UTF-8
pub IsUtf8-escaped : (t : List ℕ) → IsUtf8 t → IsUtf8 (escaped t)
unfolding escaped
IsUtf8-escaped t (cs, (are, same)) = subst (λ l. IsUtf8 (shown l)) same (characters_shown cs are)

-- ---- control characters

-- the text has no bytes, or begins with a byte below 128
abbrev pub starts_low : List ℕ → Bool
starts_low [] = true
starts_low (c ∷ cs) = nat_lt c 128

low_not_last : (c : ℕ) → nat_lt c 128 ≡ true → (c == 0xBF) ≡ false
low_not_last c h = grind (arith, nat_tests)

low_not_either : (c : ℕ) → nat_lt c 128 ≡ true → (c == 0xBE || c == 0xBF) ≡ false
low_not_either c h = grind (arith, nat_tests)

and_false : (a b : Bool) → b ≡ false → (a && b) ≡ false
and_false true b h = h
and_false false b h = refl

low_begins : (c : ℕ) (cs : List ℕ) → nat_lt c 128 ≡ true → begins_with_last_two (c ∷ cs) ≡ false
low_begins c [] h = refl
low_begins c (d ∷ ds) h = rw (low_not_last c h) refl

low_after : (c d : ℕ) (ds : List ℕ) → nat_lt d 128 ≡ true → begins_with_last_two (c ∷ d ∷ ds) ≡ false
low_after c d ds h = and_false (c == 0xBF) (d == 0xBE || d == 0xBF) (low_not_either d h)

text_begins : (b : List ℕ) → starts_low b ≡ true → begins_with_last_two b ≡ false
text_begins [] h = refl
text_begins (c ∷ cs) h = low_begins c cs h

one_then : (c : ℕ) (b : List ℕ) → starts_low b ≡ true → begins_with_last_two (c ∷ b) ≡ false
one_then c [] h = refl
one_then c (d ∷ ds) h = low_after c d ds h

second_shown : (c : ℕ) (s b : List ℕ) → starts_low b ≡ true → begins_with_last_two (c ∷ (shown s ++ b)) ≡ begins_with_last_two (c ∷ s)
second_shown c [] b low = one_then c b low
second_shown c (d ∷ s) b low = elim (is_shown d) [
  | inl same ↦ ap (λ l. begins_with_last_two (c ∷ ((l ++ shown s) ++ b))) same
  | inr (below, more, same, visible) ↦ ap (λ l. begins_with_last_two (c ∷ ((l ++ shown s) ++ b))) same ∙ low_after c ampersand ((more ++ shown s) ++ b) refl ∙ sym (low_after c d s below)
]

first_shown : (s b : List ℕ) → starts_low b ≡ true → begins_with_last_two (shown s ++ b) ≡ begins_with_last_two s
first_shown [] b low = text_begins b low
first_shown (c ∷ s) b low = elim (is_shown c) [
  | inl same ↦ ap (λ l. begins_with_last_two ((l ++ shown s) ++ b)) same ∙ second_shown c s b low
  | inr (below, more, same, visible) ↦ ap (λ l. begins_with_last_two ((l ++ shown s) ++ b)) same ∙ low_begins ampersand ((more ++ shown s) ++ b) refl ∙ sym (low_begins c s below)
]

visible_no_control : (c : ℕ) → is_visible_byte c ≡ true → is_control_byte c ≡ false
visible_no_control c h = grind (arith, nat_tests)

visible_not_first : (c : ℕ) → is_visible_byte c ≡ true → (c == 0xEF) ≡ false
visible_not_first c h = grind (arith, nat_tests)

no_control : (w k e x : Bool) → k ≡ false → e ≡ false → (w || not (k || (e && x))) ≡ true
no_control true k e x a b = refl
no_control false k e x a b = rw (a, b) refl

-- visible bytes before a text
pub visible_then : (s b : List ℕ) → list_all is_visible_byte s ≡ true → are_controls_white b ≡ true → are_controls_white (s ++ b) ≡ true
visible_then [] b h clean = clean
visible_then (c ∷ s) b h clean =
    let (one, more) = and_parts (is_visible_byte c) (list_all is_visible_byte s) h in
    both (is_white c || not (begins_with_control (c ∷ (s ++ b)))) (are_controls_white (s ++ b))
    (no_control (is_white c) (is_control_byte c) (c == 0xEF) (begins_with_last_two (s ++ b)) (visible_no_control c one) (visible_not_first c one)) (visible_then s b more clean)

shown_then : (t b : List ℕ) → is_clean t ≡ true → starts_low b ≡ true → are_controls_white b ≡ true → are_controls_white (shown t ++ b) ≡ true
shown_then [] b h low clean = clean
shown_then (c ∷ t) b h low clean =
    let (one, more) = and_parts (not (begins_with_control (c ∷ t))) (is_clean t) h in
    let rest = shown_then t b more low clean in
    elim (is_shown c) [
      | inl same ↦
          let here : not (begins_with_control (c ∷ (shown t ++ b))) ≡ true = ap (λ x. not (is_control_byte c || (c == 0xEF && x))) (first_shown t b low) ∙ one in
          ap (λ l. are_controls_white ((l ++ shown t) ++ b)) same
          ∙ both (is_white c || not (begins_with_control (c ∷ (shown t ++ b)))) (are_controls_white (shown t ++ b)) (or_right (is_white c) (not (begins_with_control (c ∷ (shown t ++ b)))) here) rest
      | inr (below, more, same, visible) ↦
          ap (λ l. are_controls_white ((l ++ shown t) ++ b)) same
          ∙ ap are_controls_white (append_assoc (ampersand ∷ more) (shown t) b)
          ∙ visible_then (ampersand ∷ more) (shown t ++ b) visible rest
    ]

-- an escaped text without control characters before a text that begins with a byte below 128
pub escaped_then : (t b : List ℕ) → is_clean t ≡ true → starts_low b ≡ true → are_controls_white b ≡ true → are_controls_white (escaped t ++ b) ≡ true
unfolding escaped
escaped_then t b h low clean = shown_then t b h low clean
