-- The ids of elements. A text with a reference has a byte that Base64 does not have, and any other text is its own value.
use Rattle.std.proofs.Common.{◌≡◌, ℕ, zero, suc, Bool, true, false, cond, ◌&&◌, ◌||◌, ◌==◌, nat_lt, List, [], ◌∷◌, refl, sym, ap, ◌∙◌, reverse, take, None, arith}
use Rattle.std.specs.Prelude.{codes, bytes_eq, option_and_then}
use Rattle.std.specs.List.{list_any, list_all}
use Rattle.std.proofs.lemmas.Bool.{and_parts}
use Rattle.std.proofs.lemmas.Bool.Decides.{nat_tests}
use Rattle.std.proofs.lemmas.List.Folds.{list_any-append, list_all-append}
use Rattle.std.proofs.lemmas.List.{reverse-append}
use Rattle.stamp_values.specs.Ascii.{ampersand, quote}
use Rattle.base64_text.specs.Base64.{IsBytes}
use Rattle.base64_text.proofs.AlphabetLemmas.{decoded_of-other}
use Rattle.xml_text.specs.Markup.{less_than, greater_than, apostrophe, is_white}
use Rattle.xml_text.specs.Elements.{without_white_front, without_white_ends}
use Rattle.xml_text.specs.ElementReading.{unescaped, value_of, reference_value, reference_len}
use Rattle.body_forms.specs.Ids.{if_id, id_of}

neither : (a b : Bool) → (a || b) ≡ false → (a ≡ false) × (b ≡ false)
neither true b h = (cc, cc)
neither false b h = (refl, h)

-- a text without references is its own value
pub plain_value : (s : List ℕ) → list_any (λ c. c == ampersand) s ≡ false → unescaped 0 s ≡ s
unfolding unescaped
plain_value [] h = refl
plain_value (c ∷ cs) h =
    let (one, more) = neither (c == ampersand) (list_any (λ c. c == ampersand) cs) h in
    rw (one, plain_value cs more) refl

-- ---- a byte that a reference writes is in the text

-- one of the five bytes that references write
abbrev is_referred : ℕ → Bool
is_referred c = c == ampersand || c == less_than || c == greater_than || c == quote || c == apostrophe

one_of : (a b c d : Bool) → is_referred (cond a ampersand (cond b less_than (cond c greater_than (cond d quote apostrophe)))) ≡ true
one_of true b c d = refl
one_of false true c d = refl
one_of false false true d = refl
one_of false false false true = refl
one_of false false false false = refl

referred_value : (cs : List ℕ) → is_referred (reference_value cs) ≡ true
referred_value cs = one_of (bytes_eq (take 4 cs) (codes "amp;")) (bytes_eq (take 3 cs) (codes "lt;")) (bytes_eq (take 3 cs) (codes "gt;")) (bytes_eq (take 5 cs) (codes "quot;"))

or_right : (a b : Bool) → b ≡ true → (a || b) ≡ true
or_right true b h = refl
or_right false b h = h

some_referred : (s : List ℕ) → list_any (λ c. c == ampersand) s ≡ true → list_any is_referred (unescaped 0 s) ≡ true
unfolding unescaped
some_referred [] h = cc
some_referred (c ∷ cs) h =
    elim (c == ampersand) as (λ b. (c == ampersand) ≡ b → (b || list_any (λ c. c == ampersand) cs) ≡ true → list_any is_referred (unescaped 0 (c ∷ cs)) ≡ true) [
      | true ↦ λ e _. rw (e, referred_value cs) refl
      | false ↦ λ e more. rw e (or_right (is_referred c) (list_any is_referred (unescaped 0 cs)) (some_referred cs more))
    ] refl h

white_not_referred : (c : ℕ) → is_white c ≡ true → is_referred c ≡ false
white_not_referred c h = grind (arith, nat_tests)

unindented_referred : (s : List ℕ) → list_any is_referred (without_white_front s) ≡ list_any is_referred s
unindented_referred [] = refl
unindented_referred (c ∷ cs) =
    elim (is_white c) as (λ b. is_white c ≡ b → list_any is_referred (cond b (without_white_front cs) (c ∷ cs)) ≡ (is_referred c || list_any is_referred cs)) [
      | true ↦ λ h. unindented_referred cs ∙ ap (λ b. b || list_any is_referred cs) (sym (white_not_referred c h))
      | false ↦ λ _. refl
    ] refl

swapped : (a b c : Bool) → a ≡ c → (a || (b || false)) ≡ (b || c)
swapped true true c h = refl
swapped true false c h = h
swapped false true c h = refl
swapped false false c h = h

list_any-reverse : (p : ℕ → Bool) (s : List ℕ) → list_any p (reverse s) ≡ list_any p s
list_any-reverse p [] = refl
list_any-reverse p (c ∷ cs) = ap (list_any p) (reverse-append (c ∷ []) cs) ∙ list_any-append p (reverse cs) (c ∷ []) ∙ swapped (list_any p (reverse cs)) (p c) (list_any p cs) (list_any-reverse p cs)

trimmed_referred : (s : List ℕ) → list_any is_referred (without_white_ends s) ≡ list_any is_referred s
trimmed_referred s =
    list_any-reverse is_referred (without_white_front (reverse (without_white_front s))) ∙ unindented_referred (reverse (without_white_front s)) ∙ list_any-reverse is_referred (without_white_front s) ∙ unindented_referred s

-- ---- each number of the text is a byte

abbrev pub is_byte : ℕ → Bool
is_byte c = nat_lt c 256

pub all_bytes : (s : List ℕ) → IsBytes s → list_all is_byte s ≡ true
all_bytes [] h = refl
all_bytes (c ∷ cs) h =
    let one : is_byte c ≡ true = let below = h 0 in grind (arith, nat_tests) in
    rw (one, all_bytes cs (λ i. h (suc i))) refl

pub are_bytes : (s : List ℕ) → list_all is_byte s ≡ true → IsBytes s
are_bytes [] h i = omega arith
are_bytes (c ∷ cs) h zero = let one = (and_parts (is_byte c) (list_all is_byte cs) h).0 in grind (arith, nat_tests)
are_bytes (c ∷ cs) h (suc i) = are_bytes cs (and_parts (is_byte c) (list_all is_byte cs) h).1 i

referred_is_byte : (a b c d : Bool) → is_byte (cond a ampersand (cond b less_than (cond c greater_than (cond d quote apostrophe)))) ≡ true
referred_is_byte true b c d = refl
referred_is_byte false true c d = refl
referred_is_byte false false true d = refl
referred_is_byte false false false true = refl
referred_is_byte false false false false = refl

value_is_byte : (cs : List ℕ) → is_byte (reference_value cs) ≡ true
value_is_byte cs = referred_is_byte (bytes_eq (take 4 cs) (codes "amp;")) (bytes_eq (take 3 cs) (codes "lt;")) (bytes_eq (take 3 cs) (codes "gt;")) (bytes_eq (take 5 cs) (codes "quot;"))

unescaped_bytes : (k : ℕ) (s : List ℕ) → list_all is_byte s ≡ true → list_all is_byte (unescaped k s) ≡ true
unfolding unescaped
unescaped_bytes k [] h = refl
unescaped_bytes (suc k) (c ∷ cs) h = unescaped_bytes k cs (and_parts (is_byte c) (list_all is_byte cs) h).1
unescaped_bytes zero (c ∷ cs) h =
    let (one, more) = and_parts (is_byte c) (list_all is_byte cs) h in
    elim (c == ampersand) as (λ b. list_all is_byte (cond b (reference_value cs ∷ unescaped (reference_len cs) cs) (c ∷ unescaped 0 cs)) ≡ true) [
      | true ↦ rw (value_is_byte cs) (unescaped_bytes (reference_len cs) cs more)
      | false ↦ rw one (unescaped_bytes 0 cs more)
    ]

unindented_bytes : (s : List ℕ) → list_all is_byte s ≡ true → list_all is_byte (without_white_front s) ≡ true
unindented_bytes [] h = refl
unindented_bytes (c ∷ cs) h =
    elim (is_white c) as (λ b. list_all is_byte (cond b (without_white_front cs) (c ∷ cs)) ≡ true) [
      | true ↦ unindented_bytes cs (and_parts (is_byte c) (list_all is_byte cs) h).1
      | false ↦ h
    ]

and_last : (a b : Bool) → a ≡ true → b ≡ true → (a && (b && true)) ≡ true
and_last a b h k = rw (h, k) refl

reverse_bytes : (s : List ℕ) → list_all is_byte s ≡ true → list_all is_byte (reverse s) ≡ true
reverse_bytes [] h = refl
reverse_bytes (c ∷ cs) h =
    let (one, more) = and_parts (is_byte c) (list_all is_byte cs) h in
    ap (list_all is_byte) (reverse-append (c ∷ []) cs) ∙ list_all-append is_byte (reverse cs) (c ∷ []) ∙ and_last (list_all is_byte (reverse cs)) (is_byte c) (reverse_bytes cs more) one

pub trimmed_bytes : (s : List ℕ) → list_all is_byte s ≡ true → list_all is_byte (without_white_ends s) ≡ true
trimmed_bytes s h = reverse_bytes (without_white_front (reverse (without_white_front s))) (unindented_bytes (reverse (without_white_front s)) (reverse_bytes (without_white_front s) (unindented_bytes s h)))

-- a text with a reference is not the text of an id
pub reference_no_id : (s : List ℕ) → IsBytes s → list_any (λ c. c == ampersand) s ≡ true → id_of (value_of s) ≡ None
unfolding id_of value_of
reference_no_id s below h =
    let text = without_white_ends (unescaped 0 s) in
    let bytes = are_bytes text (trimmed_bytes (unescaped 0 s) (unescaped_bytes 0 s (all_bytes s below))) in
    let some = trimmed_referred (unescaped 0 s) ∙ some_referred s h in
    ap (λ o. option_and_then if_id o) (decoded_of-other is_referred text refl refl refl bytes some)

-- a text without references is its own value, without the white space at its ends
pub plain_value_of : (s : List ℕ) → list_any (λ c. c == ampersand) s ≡ false → value_of s ≡ without_white_ends s
unfolding value_of
plain_value_of s h = ap without_white_ends (plain_value s h)
