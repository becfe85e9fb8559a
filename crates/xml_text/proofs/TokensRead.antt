-- Elements that are written are read as their tokens, whatever tokens follow.
use Rattle.std.proofs.Common.{◌≡◌, ℕ, zero, suc, ◌≤◌, Bool, true, false, not, ◌==◌, cond, List, [], ◌∷◌, ◌++◌, length, Some, All, refl, sym, ap, ◌∙◌, subst, arith, append_assoc, append-nil, length-append}
use Rattle.std.specs.List.{list_all, flat_map}
use Rattle.std.proofs.lemmas.Bool.{and_parts}
use Rattle.std.proofs.lemmas.List.Elements.{All-head, All-tail}
use Rattle.stamp_values.specs.Ascii.{ampersand, slash}
use Rattle.stamp_values.proofs.Utf8Lemmas.{utf8_passes}
use Rattle.xml_text.specs.declared.tokens.Kind.TheVariants.{Opening, Closing}
use Rattle.xml_text.specs.Bodies.{are_controls_white}
use Rattle.xml_text.specs.Markup.{less_than, greater_than}
use Rattle.xml_text.specs.Tokens.{Tag, IsTag, is_name, is_text, has_good_references}
use Rattle.xml_text.specs.Texts.{Token, tag, text}
use Rattle.xml_text.specs.Elements.{opening, closing}
use Rattle.xml_text.specs.Escapes.{escaped}
use Rattle.xml_text.specs.Reading.{tag_at, text_at}
use Rattle.xml_text.specs.ElementReading.{unescaped, reference_value, reference_len}
use Rattle.xml_text.specs.FrontReading.{after_end, after_mark, after_prolog}
use Rattle.xml_text.specs.TokenReading.{token_at, tokens_at, body_tokens}
use Rattle.xml_text.specs.WrittenTokens.{text_tokens, element_tokens, field_tokens, IsCleanText}
use Rattle.xml_text.specs.WrittenElements.{opening_text, closing_text, prolog_text, filled_text, element_text}
use Rattle.xml_text.proofs.Complete.{tag_read}
use Rattle.xml_text.proofs.ElementsComplete.{tag_first}
use Rattle.xml_text.proofs.EscapeLemmas.{read_back}
use Rattle.xml_text.proofs.PlainTexts.{ArePlain, plain_escaped, plain_clean, all_visible}
use Rattle.xml_text.proofs.SoundTexts.{IsSound, sound-nil, sound-append, inner_sound, element_sound, name_shown, prolog_sound}
use Rattle.xml_text.proofs.Utf8Texts.{passes_text}
use Rattle.xml_text.proofs.WrittenElements.{opening_is, closing_is}
use Rattle.xml_text.proofs.WrittenTexts.{IsUtf8-visible}

-- the whole text is read as these tokens
abbrev pub ReadsAs : List ℕ → List Token → Type 0
ReadsAs t tokens = (n : ℕ) → length t ≤ n → tokens_at n t ≡ Some tokens

reads-nil : ReadsAs [] []
unfolding tokens_at
reads-nil zero h = refl
reads-nil (suc n) h = refl

-- ---- a tag

tag_turn : (n : ℕ) (g : Tag) (t r : List ℕ) (rs : List Token) → tag_at (less_than ∷ t) ≡ Some (g, r) → tokens_at n r ≡ Some rs → tokens_at (suc n) (less_than ∷ t) ≡ Some (tag g ∷ rs)
unfolding tokens_at token_at
tag_turn n g t r rs is more = rw (is, more) refl

tag_reads : (g : Tag) (d r : List ℕ) (rs : List Token) → tag_at (less_than ∷ (d ++ r)) ≡ Some (g, r) → ReadsAs r rs → ReadsAs (less_than ∷ (d ++ r)) (tag g ∷ rs)
tag_reads g d r rs is more zero h = absurd (omega arith)
tag_reads g d r rs is more (suc n) h = tag_turn n g (d ++ r) r rs is (more n (omega (arith, length-append d r)))

tag_then : (g : Tag) (c r : List ℕ) (rs : List Token) → IsTag g c → ReadsAs r rs → ReadsAs (c ++ r) (tag g ∷ rs)
tag_then g c r rs is more =
    let (d, e) = tag_first g c is in
    let shape : c ++ r ≡ less_than ∷ (d ++ r) = ap (λ l. l ++ r) e in
    subst (λ l. ReadsAs l (tag g ∷ rs)) (sym shape) (tag_reads g d r rs (ap tag_at (sym shape) ∙ tag_read g c r is) more)

opening_then : (name r : List ℕ) (rs : List Token) → is_name name ≡ true → ReadsAs r rs → ReadsAs (opening_text name ++ r) (opening name ∷ rs)
opening_then name r rs named more = tag_then (record { kind = Opening; name = name }) (opening_text name) r rs (opening_is name named) more

closing_then : (name r : List ℕ) (rs : List Token) → is_name name ≡ true → ReadsAs r rs → ReadsAs (closing_text name ++ r) (closing name ∷ rs)
closing_then name r rs named more = tag_then (record { kind = Closing; name = name }) (closing_text name) r rs (closing_is name named) more

-- ---- a text

not_true : (b : Bool) → not b ≡ true → b ≡ false
not_true true h = cc
not_true false h = refl

-- a text with bytes has a value with bytes
is_token : (c : ℕ) (cs : List ℕ) → text_tokens (unescaped 0 (c ∷ cs)) ≡ text (unescaped 0 (c ∷ cs)) ∷ []
unfolding unescaped
is_token c cs =
    elim (c == ampersand) as (λ b. text_tokens (cond b (reference_value cs ∷ unescaped (reference_len cs) cs) (c ∷ unescaped zero cs)) ≡ text (cond b (reference_value cs ∷ unescaped (reference_len cs) cs) (c ∷ unescaped zero cs)) ∷ []) [
      | true ↦ refl
      | false ↦ refl
    ]

text_turn : (n c : ℕ) (cs x r : List ℕ) (rs : List Token) → (c == less_than) ≡ false → text_at (c ∷ cs) ≡ Some (x, r) → tokens_at n r ≡ Some rs → tokens_at (suc n) (c ∷ cs) ≡ Some (text (unescaped 0 x) ∷ rs)
unfolding tokens_at token_at
text_turn n c cs x r rs other is more = rw (other, is, more) refl

text_reads : (x q : List ℕ) (rs : List Token) → is_text x ≡ true → text_at (x ++ less_than ∷ q) ≡ Some (x, less_than ∷ q) → ReadsAs (less_than ∷ q) rs → ReadsAs (x ++ less_than ∷ q) (text_tokens (unescaped 0 x) ++ rs)
unfolding unescaped
text_reads [] q rs good is more n h = more n h
text_reads (c ∷ cs) q rs good is more zero h = absurd (omega arith)
text_reads (c ∷ cs) q rs good is more (suc n) h =
    let (no_tag, references) = and_parts (list_all (λ b. not (b == less_than)) (c ∷ cs)) (has_good_references (c ∷ cs)) good in
    let (one, others) = and_parts (not (c == less_than)) (list_all (λ b. not (b == less_than)) cs) no_tag in
    let read = text_turn n c (cs ++ less_than ∷ q) (c ∷ cs) (less_than ∷ q) rs (not_true (c == less_than) one) is (more n (omega (arith, length-append cs (less_than ∷ q)))) in
    read ∙ ap (λ (ts : List Token). Some (ts ++ rs)) (sym (is_token c cs))

text_then : (t q : List ℕ) (rs : List Token) → ReadsAs (less_than ∷ q) rs → ReadsAs (escaped t ++ less_than ∷ q) (text_tokens t ++ rs)
text_then t q rs more =
    let back = read_back t in
    subst (λ v. ReadsAs (escaped t ++ less_than ∷ q) (text_tokens v ++ rs)) back.value (text_reads (escaped t) q rs back.no_bare_reference (back.taken q) more)

-- a text before a closing tag
before_closing : (name t r : List ℕ) (rs : List Token) → ReadsAs (closing_text name ++ r) rs → ReadsAs (escaped t ++ (closing_text name ++ r)) (text_tokens t ++ rs)
unfolding closing_text
before_closing name t r rs more = text_then t ((slash ∷ name ++ greater_than ∷ []) ++ r) rs more

-- ---- what is written as elements

-- the bytes are read as these tokens, whatever tokens follow, and they are characters of a body
pub record IsWrittenAs (tokens : List Token) (s : List ℕ) : Type 0 where
  pub reads : (r : List ℕ) (rs : List Token) → ReadsAs r rs → ReadsAs (s ++ r) (tokens ++ rs)
  pub sound : IsSound s

pub written-nil : IsWrittenAs [] []
written-nil = record { reads = λ r rs h. h; sound = sound-nil }

pub written-append : (a b : List Token) (s u : List ℕ) → IsWrittenAs a s → IsWrittenAs b u → IsWrittenAs (a ++ b) (s ++ u)
written-append a b s u one two = record {
  reads = λ r rs h.
      subst (λ l. ReadsAs l ((a ++ b) ++ rs)) (sym (append_assoc s u r))
      (subst (λ ts. ReadsAs (s ++ (u ++ r)) ts) (sym (append_assoc a b rs)) (one.reads (u ++ r) (b ++ rs) (two.reads r rs h)));
  sound = sound-append s u one.sound two.sound;
}

three : (a b c d : List ℕ) → (a ++ b ++ c) ++ d ≡ a ++ (b ++ (c ++ d))
three a b c d = simp append_assoc refl

-- an element around elements
pub element_as : (name : List ℕ) (tokens : List Token) (s : List ℕ) → is_name name ≡ true → IsWrittenAs tokens s → IsWrittenAs (element_tokens name tokens) (opening_text name ++ s ++ closing_text name)
element_as name tokens s named is = record {
  reads = λ r rs h.
      subst (λ l. ReadsAs l (opening name ∷ ((tokens ++ closing name ∷ []) ++ rs))) (sym (three (opening_text name) s (closing_text name) r))
      (subst (λ ts. ReadsAs (opening_text name ++ (s ++ (closing_text name ++ r))) (opening name ∷ ts)) (sym (append_assoc tokens (closing name ∷ []) rs))
      (opening_then name (s ++ (closing_text name ++ r)) (tokens ++ closing name ∷ rs) named
      (is.reads (closing_text name ++ r) (closing name ∷ rs) (closing_then name r rs named h))));
  sound = inner_sound name s (name_shown name named) is.sound;
}

-- an element of a text alone
pub field_as : (name t : List ℕ) → is_name name ≡ true → IsCleanText t → IsWrittenAs (field_tokens name t) (element_text name t)
unfolding element_text
field_as name t named (utf8, clean) = record {
  reads = λ r rs h.
      subst (λ l. ReadsAs l (opening name ∷ ((text_tokens t ++ closing name ∷ []) ++ rs))) (sym (three (opening_text name) (escaped t) (closing_text name) r))
      (subst (λ ts. ReadsAs (opening_text name ++ (escaped t ++ (closing_text name ++ r))) (opening name ∷ ts)) (sym (append_assoc (text_tokens t) (closing name ∷ []) rs))
      (opening_then name (escaped t ++ (closing_text name ++ r)) (text_tokens t ++ closing name ∷ rs) named
      (before_closing name t r (closing name ∷ rs) (closing_then name r rs named h))));
  sound = element_sound name t (name_shown name named) (passes_text t utf8) clean;
}

plain_text : (t : List ℕ) → ArePlain t → IsCleanText t
plain_text t h = (utf8_passes t (IsUtf8-visible t (all_visible t h)), plain_clean t h)

filled_is : (name t : List ℕ) → ArePlain t → filled_text name t ≡ element_text name t
unfolding filled_text element_text
filled_is name t h = ap (λ l. opening_text name ++ l ++ closing_text name) (sym (plain_escaped t h))

-- an element of a text that needs no references
pub filled_as : (name t : List ℕ) → is_name name ≡ true → ArePlain t → IsWrittenAs (field_tokens name t) (filled_text name t)
filled_as name t named h = subst (IsWrittenAs (field_tokens name t)) (sym (filled_is name t h)) (field_as name t named (plain_text t h))

-- many parts, one after the other
pub all_as : {X : Type 0} (f : X → List Token) (g : X → List ℕ) (P : X → Type 0) → ((x : X) → P x → IsWrittenAs (f x) (g x)) → (xs : List X) → All P xs → IsWrittenAs (flat_map f xs) (flat_map g xs)
all_as f g P each [] are = written-nil
all_as f g P each (x ∷ xs) are =
    written-append (f x) (flat_map f xs) (g x) (flat_map g xs) (each x (All-head P x xs are)) (all_as f g P each xs (All-tail P x xs are))

-- ---- the body

after_it : (root : List ℕ) → after_prolog (after_mark (prolog_text ++ root)) ≡ Some root
unfolding prolog_text after_end
after_it root = refl

whole_root : (tokens : List Token) (root : List ℕ) → IsWrittenAs tokens root → tokens_at (length root) root ≡ Some tokens
whole_root tokens root is =
    let all = is.reads [] [] reads-nil in
    let these : ReadsAs root (tokens ++ []) = subst (λ l. ReadsAs l (tokens ++ [])) (append-nil root) all in
    these (length root) (omega arith) ∙ ap (λ (ts : List Token). Some ts) (append-nil tokens)

-- a body after the prolog that is written
pub body_as : (tokens : List Token) (root : List ℕ) → IsWrittenAs tokens root → body_tokens (prolog_text ++ root) ≡ Some tokens
body_as tokens root is =
    let sound = sound-append prolog_text root prolog_sound is.sound in
    let utf8 = utf8_passes (prolog_text ++ root) sound.utf8 in
    let clean : are_controls_white (prolog_text ++ root) ≡ true = ap are_controls_white (sym (append-nil (prolog_text ++ root))) ∙ sound.clean [] refl refl in
    rw (utf8, clean, after_it root) (whole_root tokens root is)
