-- The texts of a body are bytes, since the body is UTF-8.
use Rattle.std.proofs.Common.{◌≡◌, inl, inr, ℕ, ◌+◌, ◌/◌, ◌%◌, ◌<◌, Bool, true, false, cond, ◌&&◌, nat_lt, List, [], ◌∷◌, ◌++◌, map, All, IsUtf8, refl, sym, ap, ◌∙◌, subst, arith}
use Rattle.std.specs.List.{list_all, flat_map}
use Rattle.std.proofs.Math.Utf8.{scalar, scalars, encode, encodes, scalar_cases}
use Rattle.std.proofs.lemmas.Bool.{and_parts}
use Rattle.std.proofs.lemmas.Bool.Decides.{nat_tests}
use Rattle.std.proofs.lemmas.List.Elements.{All-nil, All-cons}
use Rattle.std.proofs.lemmas.List.Folds.{list_all-append}
use Rattle.base64_text.specs.Base64.{IsBytes}
use Rattle.xml_text.specs.Texts.{Token, tag, text, AreTokens, Piece, plain, amp, lt, gt, quot, apos, piece_value, piece_bytes}
use Rattle.xml_text.specs.Elements.{opening, closing, IsTextElement, AreElements}
use Rattle.body_forms.specs.BlockLists.{Entry, IsEntry, IsBlockList, lookup_name, IsBlockListBody}
use Rattle.body_forms.proofs.IdLemmas.{is_byte, are_bytes, trimmed_bytes}
use Rattle.xml_text.proofs.Utf8Texts.{passes_text}

-- ---- UTF-8

byte_of : (n : ℕ) → n < 256 → is_byte n ≡ true
byte_of n h = grind (arith, nat_tests)

below_end : (c : ℕ) → scalar c ≡ true → c < 1_114_112
below_end c is = elim (scalar_cases c is) [
  | inl low ↦ omega arith
  | inr (high, below) ↦ below
]

one_byte : (c : ℕ) → (nat_lt c 128) ≡ true → list_all is_byte (c ∷ []) ≡ true
one_byte c h = let is = byte_of c (grind (arith, nat_tests)) in rw is refl

next_byte : (n : ℕ) → is_byte (128 + n % 64) ≡ true
next_byte n = byte_of (128 + n % 64) (omega arith)

character_bytes : (c : ℕ) → c < 1_114_112 → list_all is_byte (encode c) ≡ true
unfolding encode
character_bytes c below =
    let two = λ (b : Bool). cond b ((192 + c / 64) ∷ (128 + c % 64) ∷ []) (cond (nat_lt c 65536) ((224 + c / 4096) ∷ (128 + c / 64 % 64) ∷ (128 + c % 64) ∷ []) ((240 + c / 262144) ∷ (128 + c / 4096 % 64) ∷ (128 + c / 64 % 64) ∷ (128 + c % 64) ∷ [])) in
    elim (nat_lt c 128) as (λ b. nat_lt c 128 ≡ b → list_all is_byte (cond b (c ∷ []) (two (nat_lt c 2048))) ≡ true) [
      | true ↦ λ h. one_byte c h
      | false ↦ λ _.
          elim (nat_lt c 2048) as (λ b. nat_lt c 2048 ≡ b → list_all is_byte (two b) ≡ true) [
            | true ↦ λ h. let first = byte_of (192 + c / 64) (grind (arith, nat_tests)) in rw (first, next_byte c) refl
            | false ↦ λ _.
                elim (nat_lt c 65536) as (λ b. nat_lt c 65536 ≡ b → list_all is_byte (cond b ((224 + c / 4096) ∷ (128 + c / 64 % 64) ∷ (128 + c % 64) ∷ []) ((240 + c / 262144) ∷ (128 + c / 4096 % 64) ∷ (128 + c / 64 % 64) ∷ (128 + c % 64) ∷ [])) ≡ true) [
                  | true ↦ λ h. let first = byte_of (224 + c / 4096) (grind (arith, nat_tests)) in rw (first, next_byte (c / 64), next_byte c) refl
                  | false ↦ λ _. let first = byte_of (240 + c / 262144) (omega arith) in rw (first, next_byte (c / 4096), next_byte (c / 64), next_byte c) refl
                ] refl
          ] refl
    ] refl

both : (a b : Bool) → a ≡ true → b ≡ true → (a && b) ≡ true
both a b h k = rw (h, k) refl

characters_bytes : (cs : List ℕ) → scalars cs ≡ true → list_all is_byte (encodes cs) ≡ true
characters_bytes [] is = refl
characters_bytes (c ∷ cs) is =
    let (one, more) = and_parts (scalar c) (scalars cs) is in
    list_all-append is_byte (encode c) (encodes cs) ∙ both (list_all is_byte (encode c)) (list_all is_byte (encodes cs)) (character_bytes c (below_end c one)) (characters_bytes cs more)

utf8_bytes : (s : List ℕ) → IsUtf8 s → list_all is_byte s ≡ true
utf8_bytes s (cs, (are, same)) = ap (list_all is_byte) (sym same) ∙ characters_bytes cs are

-- ---- tokens

front_bytes : (a b s : List ℕ) → list_all is_byte s ≡ true → s ≡ a ++ b → (list_all is_byte a ≡ true) × (list_all is_byte b ≡ true)
front_bytes a b s h whole = and_parts (list_all is_byte a) (list_all is_byte b) (sym (list_all-append is_byte a b) ∙ ap (list_all is_byte) (sym whole) ∙ h)

values_are_bytes : (pieces : List Piece) → list_all is_byte (flat_map piece_bytes pieces) ≡ true → list_all is_byte (map piece_value pieces) ≡ true
values_are_bytes [] h = refl
values_are_bytes (plain c ∷ rest) h =
    let (one, more) = and_parts (is_byte c) (list_all is_byte (flat_map piece_bytes rest)) h in
    both (is_byte c) (list_all is_byte (map piece_value rest)) one (values_are_bytes rest more)
values_are_bytes (amp ∷ rest) h = values_are_bytes rest h
values_are_bytes (lt ∷ rest) h = values_are_bytes rest h
values_are_bytes (gt ∷ rest) h = values_are_bytes rest h
values_are_bytes (quot ∷ rest) h = values_are_bytes rest h
values_are_bytes (apos ∷ rest) h = values_are_bytes rest h

-- a text has bytes alone
abbrev is_token_of_bytes : Token → Bool
is_token_of_bytes (tag t) = true
is_token_of_bytes (text t) = list_all is_byte t

tokens_are_bytes : (ts : List Token) (s : List ℕ) → list_all is_byte s ≡ true → AreTokens ts s → list_all is_token_of_bytes ts ≡ true
tokens_are_bytes [] s h are = refl
tokens_are_bytes (tag t ∷ ts) s h (front, back, is, more, whole) = tokens_are_bytes ts back (front_bytes front back s h whole).1 more
tokens_are_bytes (text t ∷ ts) s h (front, back, (pieces, good, value, bytes), more, whole) =
    let (one, rest) = front_bytes front back s h whole in
    let here : list_all is_byte t ≡ true = ap (list_all is_byte) value ∙ values_are_bytes pieces (ap (list_all is_byte) (sym bytes) ∙ one) in
    both (list_all is_byte t) (list_all is_token_of_bytes ts) here (tokens_are_bytes ts back rest more)

element_is_bytes : (name t : List ℕ) (tokens : List Token) → IsTextElement name t tokens → list_all is_token_of_bytes tokens ≡ true → list_all is_byte t ≡ true
element_is_bytes name t tokens (inl (x, whole, value)) h =
    let inside : list_all is_token_of_bytes (opening name ∷ text x ∷ closing name ∷ []) ≡ true = ap (list_all is_token_of_bytes) (sym whole) ∙ h in
    ap (list_all is_byte) value ∙ trimmed_bytes x (and_parts (list_all is_byte x) true inside).0
element_is_bytes name t tokens (inr (whole, none)) h = ap (list_all is_byte) none

abbrev EntryIsBytes : Entry → Type 0
EntryIsBytes e = IsBytes e.id_text

tokens_front : (front back ts : List Token) → ts ≡ front ++ back → list_all is_token_of_bytes ts ≡ true → (list_all is_token_of_bytes front ≡ true) × (list_all is_token_of_bytes back ≡ true)
tokens_front front back ts whole h = and_parts (list_all is_token_of_bytes front) (list_all is_token_of_bytes back) (sym (list_all-append is_token_of_bytes front back) ∙ ap (list_all is_token_of_bytes) (sym whole) ∙ h)

entries_are_bytes : (es : List Entry) (tokens : List Token) → AreElements IsEntry es tokens → list_all is_token_of_bytes tokens ≡ true → All EntryIsBytes es
entries_are_bytes [] tokens are h = All-nil EntryIsBytes
entries_are_bytes (e ∷ es) tokens (front, gap, back, is, white, are, whole) h =
    let (one, more) = tokens_front front (text gap ∷ back) tokens whole h in
    All-cons EntryIsBytes e es (are_bytes e.id_text (element_is_bytes (lookup_name e.lookup) e.id_text front is one)) (entries_are_bytes es back are (and_parts (list_all is_byte gap) (list_all is_token_of_bytes back) more).1)

list_is_bytes : (es : List Entry) (tokens : List Token) → IsBlockList es tokens → list_all is_token_of_bytes tokens ≡ true → All EntryIsBytes es
list_is_bytes es tokens (inl (gap, inside, white, are, whole)) h =
    let all : list_all is_token_of_bytes (text gap ∷ (inside ++ closing _ ∷ [])) ≡ true = ap (list_all is_token_of_bytes) (sym whole) ∙ h in
    let rest = (and_parts (list_all is_byte gap) (list_all is_token_of_bytes (inside ++ closing _ ∷ [])) all).1 in
    entries_are_bytes es inside are (tokens_front inside (closing _ ∷ []) (inside ++ closing _ ∷ []) refl rest).0
list_is_bytes es tokens (inr (whole, none)) h = subst (All EntryIsBytes) (sym none) (All-nil EntryIsBytes)

-- the texts of a block list are bytes
pub body_is_bytes : (body : List ℕ) (es : List Entry) → IsBlockListBody body es → All (λ e. IsBytes e.id_text) es
body_is_bytes body es b =
    let all = utf8_bytes body (passes_text body b.utf8) in
    let rest = (front_bytes b.prolog b.rest (b.prolog ++ b.rest) (front_bytes b.mark (b.prolog ++ b.rest) body all b.whole).1 refl).1 in
    let (before, tokens, root, after, white, is, are, white₂, whole) = b.root in
    let inside = (front_bytes root after (root ++ after) (front_bytes before (root ++ after) b.rest rest whole).1 refl).0 in
    list_is_bytes es tokens is (tokens_are_bytes tokens root inside are)
