-- What is written as a token is read as that token, whatever follows.
use Rattle.std.proofs.Common.{◌≡◌, ◌≢◌, ℕ, zero, suc, ◌<◌, ◌≤◌, Bool, true, false, not, ◌==◌, List, [], ◌∷◌, ◌++◌, length, Some, None, refl, sym, ap, ◌∙◌, subst, arith, rules, eq-eqb, append_assoc, length-append}
use Rattle.std.specs.List.{list_all, flat_map, All}
use Rattle.std.proofs.lemmas.Bool.{and_parts}
use Rattle.std.proofs.lemmas.Bool.Decides.{nat_tests}
use Rattle.std.proofs.lemmas.List.Elements.{All-head, All-tail}
use Rattle.xml_text.specs.declared.tokens.Kind.{Kind}
use Rattle.xml_text.specs.declared.tokens.Kind.TheVariants.{Opening, Empty, Closing}
use Rattle.stamp_values.specs.Ascii.{slash, equals_sign}
use Rattle.xml_text.specs.Markup.{is_white, is_white_space, is_name_start, is_name_byte, is_delimiter, less_than, greater_than}
use Rattle.xml_text.specs.Tokens.{is_name, is_text, Attribute, attribute_bytes, IsAttribute, AreAttributes, Tag, IsTagOf, IsTag}
use Rattle.xml_text.specs.Reading.{after_white, name_at, value_up_to, value_at, attribute_at, end_at, next_attribute_at, attributes_at, kind_of, closing_at, opening_at, after_bracket, tag_at}
use Rattle.xml_text.proofs.Runs.{Stops, run_take, run_drop, run_len}
use Rattle.xml_text.proofs.Sound.{end_bytes, joined_attribute}

start_is_name_byte : (c : ℕ) → is_name_start c ≡ true → is_name_byte c ≡ true
start_is_name_byte c h = grind (arith, nat_tests)

name_bytes : (n : List ℕ) → is_name n ≡ true → list_all is_name_byte n ≡ true
name_bytes [] h = cc
name_bytes (c ∷ cs) h =
    let (first, rest) = and_parts (is_name_start c) (list_all is_name_byte cs) h in
    rw (start_is_name_byte c first, rest) refl

pub name_read : (n t : List ℕ) → is_name n ≡ true → Stops is_name_byte t → name_at (n ++ t) ≡ Some (n, t)
unfolding name_at
name_read n t h s =
    let bytes = name_bytes n h in
    rw (run_take is_name_byte n t bytes s, run_drop is_name_byte n t bytes s, h) refl

-- a run of bytes ends at a byte that does not pass
abbrev stop : (p : ℕ → Bool) (c : ℕ) (t : List ℕ) → p c ≡ false → Stops p (c ∷ t)
stop p c t h = record { first = c; rest = t; is = refl; fails = h }

white_no_name : (c : ℕ) → is_white c ≡ true → is_name_byte c ≡ false
white_no_name c h = grind (arith, nat_tests)

start_no_white : (c : ℕ) → is_name_start c ≡ true → is_white c ≡ false
start_no_white c h = grind (arith, nat_tests)

-- a name ends at white space, and at a byte after it that no name has
gap_stops : (g : List ℕ) (c : ℕ) (t : List ℕ) → is_white_space g ≡ true → is_name_byte c ≡ false → Stops is_name_byte (g ++ c ∷ t)
gap_stops [] c t h other = stop is_name_byte c t other
gap_stops (w ∷ ws) c t h other = stop is_name_byte w (ws ++ c ∷ t) (white_no_name w (and_parts (is_white w) (is_white_space ws) h).0)

name_stops : (n t : List ℕ) → is_name n ≡ true → Stops is_white (n ++ t)
name_stops [] t h = cc
name_stops (c ∷ cs) t h = stop is_white c (cs ++ t) (start_no_white c (and_parts (is_name_start c) (list_all is_name_byte cs) h).0)

pub after_white_read : (g t : List ℕ) → is_white_space g ≡ true → Stops is_white t → after_white (g ++ t) ≡ t
after_white_read g t h s = run_drop is_white g t h s

quote_no_white : (q : ℕ) → is_delimiter q ≡ true → is_white q ≡ false
quote_no_white q h = grind (arith, nat_tests)

not_itself : (q : ℕ) → not (q == q) ≡ false
not_itself q = rw (eq-eqb q q refl) refl

pub value_read : (q : ℕ) (v t : List ℕ) → is_delimiter q ≡ true → is_text v ≡ true → list_all (λ c. not (c == q)) v ≡ true → value_at (q ∷ (v ++ q ∷ t)) ≡ Some (true, t)
unfolding value_at value_up_to
value_read q v t delimiter text undelimited =
    let p = λ (c : ℕ). not (c == q) in
    let s = stop p q t (not_itself q) in
    rw (delimiter, run_take p v (q ∷ t) undelimited s, run_drop p v (q ∷ t) undelimited s, text, eq-eqb q q refl) refl

pub attribute_read : (a : Attribute) (t : List ℕ) → IsAttribute a → attribute_at (a.name ++ (a.before ++ equals_sign ∷ (a.after ++ a.delimiter ∷ (a.value ++ a.delimiter ∷ t)))) ≡ Some (true, t)
unfolding attribute_at
attribute_read a t is =
    let tail = a.delimiter ∷ (a.value ++ a.delimiter ∷ t) in
    let e₁ = name_read a.name (a.before ++ equals_sign ∷ (a.after ++ tail)) is.name (gap_stops a.before equals_sign (a.after ++ tail) is.before refl) in
    let e₂ = after_white_read a.before (equals_sign ∷ (a.after ++ tail)) is.before (stop is_white equals_sign (a.after ++ tail) refl) in
    let e₃ = after_white_read a.after tail is.after (stop is_white a.delimiter (a.value ++ a.delimiter ∷ t) (quote_no_white a.delimiter is.delimiter)) in
    let e₄ = value_read a.delimiter a.value t is.delimiter is.value is.undelimited in
    rw (e₁, e₂, e₃, e₄) refl

pub end_read : (b : Bool) (r : List ℕ) → end_at (end_bytes b ++ r) ≡ Some (b, r)
unfolding end_at
end_read true r = refl
end_read false r = refl

end_no_white : (b : Bool) (r : List ℕ) → Stops is_white (end_bytes b ++ r)
end_no_white true r = stop is_white slash (greater_than ∷ r) refl
end_no_white false r = stop is_white greater_than r refl

last_turn : (b : Bool) (g r : List ℕ) → is_white_space g ≡ true → next_attribute_at (g ++ (end_bytes b ++ r)) ≡ Some (Some b, r)
unfolding next_attribute_at
last_turn b g r h = rw (after_white_read g (end_bytes b ++ r) h (end_no_white b r), end_read b r) refl

start_no_end : (c : ℕ) → is_name_start c ≡ true → ((c == greater_than) ≡ false) × ((c == slash) ≡ false)
start_no_end c h = (grind (arith, nat_tests), grind (arith, nat_tests))

name_no_end : (n t : List ℕ) → is_name n ≡ true → end_at (n ++ t) ≡ None
unfolding end_at
name_no_end [] t h = cc
name_no_end (c ∷ cs) t h =
    let (e₁, e₂) = start_no_end c (and_parts (is_name_start c) (list_all is_name_byte cs) h).0 in
    rw (e₁, e₂) refl

some_length : (xs : List ℕ) → xs ≢ [] → (length xs == 0) ≡ false
some_length [] h = absurd (h refl)
some_length (x ∷ xs) h = search rules

one_turn : (a : Attribute) (t : List ℕ) → IsAttribute a → next_attribute_at (attribute_bytes a ++ t) ≡ Some (None, t)
unfolding next_attribute_at
one_turn a t is =
    let tail = a.name ++ (a.before ++ equals_sign ∷ (a.after ++ a.delimiter ∷ (a.value ++ a.delimiter ∷ t))) in
    let whole : attribute_bytes a ++ t ≡ a.gap ++ tail = simp append_assoc refl in
    let stops = name_stops a.name (a.before ++ equals_sign ∷ (a.after ++ a.delimiter ∷ (a.value ++ a.delimiter ∷ t))) is.name in
    let e₁ = after_white_read a.gap tail is.gap stops in
    let e₂ = run_len is_white a.gap tail is.gap stops in
    let e₃ = name_no_end a.name (a.before ++ equals_sign ∷ (a.after ++ a.delimiter ∷ (a.value ++ a.delimiter ∷ t))) is.name in
    rw (whole, e₁, e₂, e₃, some_length a.gap is.apart, attribute_read a t is) refl

first_apart : (a : Attribute) (others g t : List ℕ) → ((attribute_bytes a ++ others) ++ g) ++ t ≡ attribute_bytes a ++ ((others ++ g) ++ t)
first_apart a others g t = ap (λ l. l ++ t) (append_assoc (attribute_bytes a) others g) ∙ append_assoc (attribute_bytes a) (others ++ g) t

pub attributes_read : (attributes : List Attribute) (g r : List ℕ) (b : Bool) (n : ℕ) → All IsAttribute attributes → is_white_space g ≡ true → length attributes < n
    → attributes_at n ((flat_map attribute_bytes attributes ++ g) ++ (end_bytes b ++ r)) ≡ Some (b, r)
unfolding attributes_at
attributes_read attributes g r b zero all white h = absurd (omega arith)
attributes_read [] g r b (suc n) all white h = rw (last_turn b g r white) refl
attributes_read (a ∷ rest) g r b (suc n) all white h =
    let tail = (flat_map attribute_bytes rest ++ g) ++ (end_bytes b ++ r) in
    rw (first_apart a (flat_map attribute_bytes rest) g (end_bytes b ++ r), one_turn a tail (All-head IsAttribute a rest all)) (attributes_read rest g r b n (All-tail IsAttribute a rest all) white (omega arith))

led_by_gap : (gap t : List ℕ) → gap ≢ [] → is_white_space gap ≡ true → Stops is_name_byte (gap ++ t)
led_by_gap [] t some h = absurd (some refl)
led_by_gap (w ∷ ws) t some h = stop is_name_byte w (ws ++ t) (white_no_name w (and_parts (is_white w) (is_white_space ws) h).0)

end_stops : (g r : List ℕ) (b : Bool) → is_white_space g ≡ true → Stops is_name_byte (g ++ (end_bytes b ++ r))
end_stops g r true h = gap_stops g slash (greater_than ∷ r) h refl
end_stops g r false h = gap_stops g greater_than r h refl

attributes_stop : (attributes : List Attribute) (g r : List ℕ) (b : Bool) → All IsAttribute attributes → is_white_space g ≡ true → Stops is_name_byte ((flat_map attribute_bytes attributes ++ g) ++ (end_bytes b ++ r))
attributes_stop [] g r b all h = end_stops g r b h
attributes_stop (a ∷ rest) g r b all h =
    let is = All-head IsAttribute a rest all in
    let tail = (flat_map attribute_bytes rest ++ g) ++ (end_bytes b ++ r) in
    let following = a.name ++ (a.before ++ equals_sign ∷ (a.after ++ a.delimiter ∷ (a.value ++ a.delimiter ∷ tail))) in
    subst (λ l. Stops is_name_byte l) (sym (joined_attribute a tail) ∙ sym (first_apart a (flat_map attribute_bytes rest) g (end_bytes b ++ r))) (led_by_gap a.gap following is.apart is.gap)

gap_fits : (gap t : List ℕ) → gap ≢ [] → 1 ≤ length (gap ++ t)
gap_fits [] t some = absurd (some refl)
gap_fits (w ∷ ws) t some = omega arith

attributes_fit : (attributes : List Attribute) → All IsAttribute attributes → length attributes ≤ length (flat_map attribute_bytes attributes)
attributes_fit [] all = omega arith
attributes_fit (a ∷ rest) all =
    let is = All-head IsAttribute a rest all in
    let following = a.name ++ (a.before ++ equals_sign ∷ (a.after ++ a.delimiter ∷ (a.value ++ a.delimiter ∷ []))) in
    let whole : attribute_bytes a ≡ a.gap ++ following = simp append_assoc refl in
    let one : 1 ≤ length (attribute_bytes a) = rw whole (gap_fits a.gap following is.apart) in
    omega (arith, attributes_fit rest (All-tail IsAttribute a rest all), length-append (attribute_bytes a) (flat_map attribute_bytes rest))

attributes_room : (attributes : List Attribute) (g t : List ℕ) → All IsAttribute attributes → length attributes < suc (length ((flat_map attribute_bytes attributes ++ g) ++ t))
attributes_room attributes g t all =
    omega (arith, attributes_fit attributes all, length-append (flat_map attribute_bytes attributes ++ g) t, length-append (flat_map attribute_bytes attributes) g)

opening_read : (name inside r : List ℕ) (b : Bool) → is_name name ≡ true → AreAttributes inside → opening_at (name ++ (inside ++ (end_bytes b ++ r))) ≡ Some (record { kind = kind_of b; name = name }, r)
unfolding opening_at
opening_read name inside r b named (attributes, g, all, white, whole) =
    let t = (flat_map attribute_bytes attributes ++ g) ++ (end_bytes b ++ r) in
    rw (whole, name_read name t named (attributes_stop attributes g r b all white), attributes_read attributes g r b (suc (length t)) all white (attributes_room attributes g (end_bytes b ++ r) all)) refl

closing_read : (name gap r : List ℕ) → is_name name ≡ true → is_white_space gap ≡ true → closing_at (name ++ (gap ++ greater_than ∷ r)) ≡ Some (record { kind = Closing; name = name }, r)
unfolding closing_at
closing_read name gap r named white =
    rw (name_read name (gap ++ greater_than ∷ r) named (gap_stops gap greater_than r white refl), after_white_read gap (greater_than ∷ r) white (stop is_white greater_than r refl)) refl

bracket_name : (name t : List ℕ) → is_name name ≡ true → after_bracket (name ++ t) ≡ opening_at (name ++ t)
bracket_name [] t h = cc
bracket_name (c ∷ cs) t h = rw (start_no_end c (and_parts (is_name_start c) (list_all is_name_byte cs) h).0).1 refl

read_inside : (name inside r : List ℕ) (b : Bool) → is_name name ≡ true → AreAttributes inside → tag_at (less_than ∷ (name ++ (inside ++ (end_bytes b ++ r)))) ≡ Some (record { kind = kind_of b; name = name }, r)
unfolding tag_at
read_inside name inside r b named is = bracket_name name (inside ++ (end_bytes b ++ r)) named ∙ opening_read name inside r b named is

read_closing : (name gap r : List ℕ) → is_name name ≡ true → is_white_space gap ≡ true → tag_at (less_than ∷ slash ∷ (name ++ (gap ++ greater_than ∷ r))) ≡ Some (record { kind = Closing; name = name }, r)
unfolding tag_at
read_closing name gap r named white = closing_read name gap r named white

read_kind : (kind : Kind) (name s r : List ℕ) → is_name name ≡ true → IsTagOf kind name s → tag_at (s ++ r) ≡ Some (record { kind = kind; name = name }, r)
read_kind Opening name s r named (inside, is, whole) =
    let shape : s ++ r ≡ less_than ∷ (name ++ (inside ++ (end_bytes false ++ r))) = ap (λ l. l ++ r) whole ∙ simp append_assoc refl in
    ap tag_at shape ∙ read_inside name inside r false named is
read_kind Empty name s r named (inside, is, whole) =
    let shape : s ++ r ≡ less_than ∷ (name ++ (inside ++ (end_bytes true ++ r))) = ap (λ l. l ++ r) whole ∙ simp append_assoc refl in
    ap tag_at shape ∙ read_inside name inside r true named is
read_kind Closing name s r named (gap, white, whole) =
    let shape : s ++ r ≡ less_than ∷ slash ∷ (name ++ (gap ++ greater_than ∷ r)) = ap (λ l. l ++ r) whole ∙ simp append_assoc refl in
    ap tag_at shape ∙ read_closing name gap r named white

-- a tag is read as it was written, whatever follows it
pub tag_read : (tag : Tag) (s r : List ℕ) → IsTag tag s → tag_at (s ++ r) ≡ Some (tag, r)
tag_read tag s r (named, is) = read_kind tag.kind tag.name s r named is
