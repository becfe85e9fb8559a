-- What is read as an element is an element of this form, for any name and any inner form.
use Rattle.std.proofs.Common.{◌≡◌, inl, inr, ℕ, zero, suc, Bool, true, false, cond, List, [], ◌∷◌, ◌++◌, length, take, Option, Some, None, refl, sym, ap, ◌∙◌, subst, arith, append_assoc, append-nil}
use Rattle.std.specs.Prelude.{bytes_eq, option_map}
use Rattle.std.specs.List.{prefix_len}
use Rattle.std.proofs.lemmas.Bool.{and_parts}
use Rattle.std.proofs.lemmas.Option.{cond_some, option_and_then_some, same_Some}
use Rattle.std.proofs.lemmas.Slice.Eq.{bytes_eq-Decides}
use Rattle.xml_text.specs.declared.tokens.Kind.{Kind}
use Rattle.xml_text.specs.declared.tokens.Kind.TheVariants.{Opening, Empty, Closing}
use Rattle.xml_text.specs.Markup.{is_white, is_white_space}
use Rattle.xml_text.specs.Tokens.{Tag, IsTag, is_text}
use Rattle.xml_text.specs.Texts.{Token, text, IsToken, AreTokens}
use Rattle.xml_text.specs.Elements.{opening, empty, closing, IsTextElement, AreElements, IsElementOf, IsRoot}
use Rattle.xml_text.specs.Reading.{Read, ◌>>=◌, after_white, tag_at, text_at}
use Rattle.xml_text.specs.ElementReading.{unescaped, value_of, is_kind, is_tag, closed_at, content_at, next_at, listed, elements_at, inner_at, made_at, if_done, root_of}
use Rattle.xml_text.proofs.Runs.{run_passes, run_whole}
use Rattle.xml_text.proofs.Sound.{tag_sound, mapped_some}
use Rattle.xml_text.proofs.TextLemmas.{text_sound, text_pieces, gap_text}

-- ---- tokens one after the other

pub join : (ts us : List Token) (a b : List ℕ) → AreTokens ts a → AreTokens us b → AreTokens (ts ++ us) (a ++ b)
join [] us a b h k = subst (λ s. AreTokens us (s ++ b)) (sym h) k
join (t ∷ ts) us a b (front, back, is, more, whole) k = (front, back ++ b, is, join ts us back b more k, ap (λ l. l ++ b) whole ∙ append_assoc front back b)

abbrev pub Split : List Token → List Token → List ℕ → Type 0
Split ts us s = (a : List ℕ) × (b : List ℕ) × AreTokens ts a × AreTokens us b × (s ≡ a ++ b)

split_more : (t : Token) (ts us : List Token) (s front back : List ℕ) → IsToken t front → s ≡ front ++ back → Split ts us back → Split (t ∷ ts) us s
split_more t ts us s front back is whole (a, b, x, y, e) = (front ++ a, b, (front, a, is, x, refl), y, whole ∙ ap (λ l. front ++ l) e ∙ sym (append_assoc front a b))

pub split : (ts us : List Token) (s : List ℕ) → AreTokens (ts ++ us) s → Split ts us s
split [] us s h = ([], s, refl, h, refl)
split (t ∷ ts) us s (front, back, is, more, whole) = split_more t ts us s front back is whole (split ts us back more)

pub one_token : (t : Token) (s : List ℕ) → IsToken t s → AreTokens (t ∷ []) s
one_token t s is = (s, [], is, refl, sym (append-nil s))

-- ---- words

same_kind : (a b : Kind) → is_kind a b ≡ true → a ≡ b
same_kind Opening Opening h = refl
same_kind Opening Empty h = cc
same_kind Opening Closing h = cc
same_kind Empty Opening h = cc
same_kind Empty Empty h = refl
same_kind Empty Closing h = cc
same_kind Closing Opening h = cc
same_kind Closing Empty h = cc
same_kind Closing Closing h = refl

pub is_tag_sound : (kind : Kind) (name : List ℕ) (t : Tag) → is_tag kind name t ≡ true → t ≡ record { kind = kind; name = name }
is_tag_sound kind name t h =
    let (k, n) = and_parts (is_kind t.kind kind) (bytes_eq t.name name) h in
    λ i. record { kind = same_kind t.kind kind k i; name = (bytes_eq-Decides t.name name).0 n i }

-- ---- closing tags

abbrev TagBefore : Tag → List ℕ → List ℕ → Type 0
TagBefore t s r = (c : List ℕ) × IsTag t c × (s ≡ c ++ r)

closed_sound : (name t r : List ℕ) (x : Bool) → closed_at name t ≡ Some (x, r) → TagBefore (record { kind = Closing; name = name }) t r
unfolding closed_at
closed_sound name t r x e =
    option_and_then_some (λ (c : Tag × List ℕ). cond (is_tag Closing name c.0) (Some (true, c.1)) None) (tag_at t) (x, r) e λ c is e₁.
    let (ok, same) = cond_some (is_tag Closing name c.0) (true, c.1) (x, r) e₁ in
    let (s, tag_is, whole) = tag_sound t c.1 c.0 is in
    (s, subst (λ g. IsTag g s) (is_tag_sound Closing name c.0 ok) tag_is, whole ∙ ap (λ q. s ++ q.1) same)

-- ---- elements of a text alone

-- the text is the rest of an element of this form after its first tag, and what follows it
abbrev pub RestRead : {A : Type 0} → (A → List Token → Type 0) → A → List ℕ → List ℕ → List ℕ → Type 0
RestRead IsOne a front t r = (tokens : List Token) × (s : List ℕ) × IsOne a tokens × AreTokens tokens (front ++ s) × (t ≡ s ++ r)

-- what is read after a first tag is the rest of an element of this form
abbrev pub IsSound : (A : Type 0) → (Tag → List ℕ → Read A) → (A → List Token → Type 0) → Type 0
IsSound A one IsOne = (g : Tag) (front t r : List ℕ) (a : A) → IsTag g front → one g t ≡ Some (a, r) → RestRead IsOne a front t r

with_text : (name front x k t r rest : List ℕ) → IsTag (record { kind = Opening; name = name }) front → is_text x ≡ true → IsTag (record { kind = Closing; name = name }) k
    → t ≡ x ++ rest → rest ≡ k ++ r → RestRead (IsTextElement name) (value_of x) front t r
unfolding value_of
with_text name front x k t r rest first good last whole more = (
  opening name ∷ text (unescaped 0 x) ∷ closing name ∷ [],
  x ++ k,
  inl (unescaped 0 x, refl, refl),
  (front, x ++ k, first, (x, k, text_pieces (suc (length x)) x (omega arith) good, one_token (closing name) k last, refl), refl),
  whole ∙ ap (λ l. x ++ l) more ∙ sym (append_assoc x k r),
)

without_text : (name front t : List ℕ) → IsTag (record { kind = Empty; name = name }) front → RestRead (IsTextElement name) (value_of []) front t t
unfolding value_of unescaped
without_text name front t first = (empty name ∷ [], [], inr (refl, refl), (front, [], first, refl, refl), refl)

-- the content of an element of a text alone
pub content_sound : (kind : Kind) (name front t r v : List ℕ) → IsTag (record { kind = kind; name = name }) front → content_at kind name t ≡ Some (v, r) → RestRead (IsTextElement name) v front t r
content_sound Opening name front t r v first h =
    option_and_then_some (λ (x : List ℕ × List ℕ). option_map (λ (c : Bool × List ℕ). let p : List ℕ × List ℕ = (value_of x.0, c.1) in p) (closed_at name x.1)) (text_at t) (v, r) h λ x is h₁.
    mapped_some _ (closed_at name x.1) (v, r) h₁ λ c closed same.
    let (good, whole) = text_sound t x.0 x.1 is in
    let (k, last, more) = closed_sound name x.1 c.1 c.0 closed in
    subst (λ q. RestRead (IsTextElement name) q.0 front t q.1) same (with_text name front x.0 k t c.1 x.1 first good last whole more)
content_sound Empty name front t r v first h =
    subst (λ q. RestRead (IsTextElement name) q.0 front t q.1) (same_Some (value_of [], t) (v, r) h) (without_text name front t first)
content_sound Closing name front t r v first h = cc

-- ---- what comes next

abbrev NextRead : {A : Type 0} → List ℕ → (A → List Token → Type 0) → Option A → List ℕ → List ℕ → Type 0
NextRead name IsOne None t r = (gap : List ℕ) × (c : List ℕ) × (is_white_space gap ≡ true) × IsTag (record { kind = Closing; name = name }) c × (t ≡ gap ++ (c ++ r))
NextRead name IsOne (Some a) t r = (gap : List ℕ) × (tokens : List Token) × (s : List ℕ) × (is_white_space gap ≡ true) × IsOne a tokens × AreTokens tokens s × (t ≡ gap ++ (s ++ r))

next_end : {A : Type 0} (name : List ℕ) (IsOne : A → List Token → Type 0) (t r front : List ℕ) (g : Tag) → IsTag g front → after_white t ≡ front ++ r → is_tag Closing name g ≡ true → NextRead name IsOne None t r
next_end name IsOne t r front g first whole ok =
    let k = prefix_len is_white t in
    (take k t, front, run_passes is_white t, subst (λ q. IsTag q front) (is_tag_sound Closing name g ok) first, run_whole is_white t ∙ ap (λ l. take k t ++ l) whole)

next_element : {A : Type 0} (name : List ℕ) (IsOne : A → List Token → Type 0) (t r rest front : List ℕ) (a : A) → after_white t ≡ front ++ rest → RestRead IsOne a front rest r → NextRead name IsOne (Some a) t r
next_element name IsOne t r rest front a whole (tokens, s, one, are, more) =
    let k = prefix_len is_white t in
    (take k t, tokens, front ++ s, run_passes is_white t, one, are, run_whole is_white t ∙ ap (λ l. take k t ++ l) (whole ∙ ap (λ l. front ++ l) more ∙ sym (append_assoc front s r)))

abbrev something : {A : Type 0} → A × List ℕ → Option A × List ℕ
something a = (Some a.0, a.1)

next_sound : (A : Type 0) (name : List ℕ) (one : Tag → List ℕ → Read A) (IsOne : A → List Token → Type 0) → IsSound A one IsOne → (t r : List ℕ) (answer : Option A) → next_at name one t ≡ Some (answer, r) → NextRead name IsOne answer t r
unfolding next_at
next_sound A name one IsOne sound t r answer h =
    option_and_then_some (λ (q : Tag × List ℕ). cond (is_tag Closing name q.0) (Some (None, q.1)) (option_map something (one q.0 q.1))) (tag_at (after_white t)) (answer, r) h λ q is h₁.
    let (front, first, whole) = tag_sound (after_white t) q.1 q.0 is in
    elim (is_tag Closing name q.0) as (λ b. is_tag Closing name q.0 ≡ b → cond b (Some (None, q.1)) (option_map something (one q.0 q.1)) ≡ Some (answer, r) → NextRead name IsOne answer t r) [
      | true ↦ λ ok e. subst (λ (p : Option A × List ℕ). NextRead name IsOne p.0 t p.1) (same_Some (None, q.1) (answer, r) e) (next_end name IsOne t q.1 front q.0 first whole ok)
      | false ↦ λ _ e. mapped_some something (one q.0 q.1) (answer, r) e λ x found same.
          subst (λ (p : Option A × List ℕ). NextRead name IsOne p.0 t p.1) same (next_element name IsOne t x.1 q.1 front x.0 whole (sound q.0 front q.1 x.1 x.0 first found))
    ] refl h₁

-- ---- elements inside an element

abbrev InsideRead : {A : Type 0} → List ℕ → (A → List Token → Type 0) → List A → List ℕ → List ℕ → Type 0
InsideRead name IsOne found t r =
    (gap : List ℕ) × (tokens : List Token) × (s : List ℕ) × (is_white_space gap ≡ true) × AreElements IsOne found tokens × AreTokens (tokens ++ closing name ∷ []) s × (t ≡ gap ++ (s ++ r))

inside_end : {A : Type 0} (name : List ℕ) (IsOne : A → List Token → Type 0) (t r : List ℕ) → NextRead name IsOne None t r → InsideRead name IsOne [] t r
inside_end name IsOne t r (gap, c, white, last, whole) = (gap, [], c, white, refl, one_token (closing name) c last, whole)

inside_more : {A : Type 0} (name : List ℕ) (IsOne : A → List Token → Type 0) (t rest r : List ℕ) (a : A) (found : List A) → NextRead name IsOne (Some a) t rest → InsideRead name IsOne found rest r → InsideRead name IsOne (a ∷ found) t r
inside_more name IsOne t rest r a found (gap, front, s, white, one, are, whole) (gap₂, back, s₂, white₂, elements, are₂, more) = (
  gap,
  front ++ text gap₂ ∷ back,
  s ++ (gap₂ ++ s₂),
  white,
  (front, gap₂, back, one, white₂, elements, refl),
  subst (λ ts. AreTokens ts (s ++ (gap₂ ++ s₂))) (sym (append_assoc front (text gap₂ ∷ back) (closing name ∷ [])))
      (join front (text gap₂ ∷ (back ++ closing name ∷ [])) s (gap₂ ++ s₂) are (gap₂, s₂, gap_text gap₂ white₂, are₂, refl)),
  whole ∙ ap (λ l. gap ++ (s ++ l)) more ∙ simp append_assoc refl,
)

inside_step : (A : Type 0) (name : List ℕ) (one : Tag → List ℕ → Read A) (IsOne : A → List Token → Type 0) → IsSound A one IsOne → (n : ℕ) (t rest r : List ℕ) (answer : Option A) (found : List A)
    → ((t₁ r₁ : List ℕ) (found₁ : List A) → elements_at name one n t₁ ≡ Some (found₁, r₁) → InsideRead name IsOne found₁ t₁ r₁)
    → next_at name one t ≡ Some (answer, rest) → listed (elements_at name one n) answer rest ≡ Some (found, r) → InsideRead name IsOne found t r
inside_step A name one IsOne sound n t rest r None found more is h =
    subst (λ (q : List A × List ℕ). InsideRead name IsOne q.0 t q.1) (same_Some ([], rest) (found, r) h) (inside_end name IsOne t rest (next_sound A name one IsOne sound t rest None is))
inside_step A name one IsOne sound n t rest r (Some a) found more is h =
    mapped_some _ (elements_at name one n rest) (found, r) h λ x read same.
    subst (λ (q : List A × List ℕ). InsideRead name IsOne q.0 t q.1) same (inside_more name IsOne t rest x.1 a x.0 (next_sound A name one IsOne sound t rest (Some a) is) (more rest x.1 x.0 read))

inside_sound : (A : Type 0) (name : List ℕ) (one : Tag → List ℕ → Read A) (IsOne : A → List Token → Type 0) → IsSound A one IsOne → (n : ℕ) (t r : List ℕ) (found : List A) → elements_at name one n t ≡ Some (found, r) → InsideRead name IsOne found t r
unfolding elements_at
inside_sound A name one IsOne sound zero t r found h = cc
inside_sound A name one IsOne sound (suc n) t r found h =
    option_and_then_some (λ (q : Option A × List ℕ). listed (elements_at name one n) q.0 q.1) (next_at name one t) (found, r) h λ q is more.
    inside_step A name one IsOne sound n t q.1 r q.0 found (inside_sound A name one IsOne sound n) is more

full_element : {A : Type 0} (name : List ℕ) (IsOne : A → List Token → Type 0) (found : List A) (front t r : List ℕ) → IsTag (record { kind = Opening; name = name }) front → InsideRead name IsOne found t r
    → RestRead (IsElementOf name IsOne) found front t r
full_element name IsOne found front t r first (gap, inside, s, white, elements, are, whole) = (
  opening name ∷ text gap ∷ (inside ++ closing name ∷ []),
  gap ++ s,
  inl (gap, inside, white, elements, refl),
  (front, gap ++ s, first, (gap, s, gap_text gap white, are, refl), refl),
  whole ∙ sym (append_assoc gap s r),
)

empty_element : {A : Type 0} (name : List ℕ) (IsOne : A → List Token → Type 0) (front t : List ℕ) → IsTag (record { kind = Empty; name = name }) front → RestRead (IsElementOf name IsOne) [] front t t
empty_element name IsOne front t first = (empty name ∷ [], [], inr (refl, refl), (front, [], first, refl, refl), refl)

-- an element of elements
pub inner_sound : (A : Type 0) (name : List ℕ) (one : Tag → List ℕ → Read A) (IsOne : A → List Token → Type 0) → IsSound A one IsOne → IsSound (List A) (inner_at name one) (IsElementOf name IsOne)
unfolding inner_at
inner_sound A name one IsOne sound g front t r found first h =
    let other : Bool → Read (List A) = λ b. cond b (Some ([], t)) None in
    elim (is_tag Opening name g) as (λ b. is_tag Opening name g ≡ b → cond b (elements_at name one (suc (length t)) t) (other (is_tag Empty name g)) ≡ Some (found, r) → RestRead (IsElementOf name IsOne) found front t r) [
      | true ↦ λ ok e. full_element name IsOne found front t r (subst (λ q. IsTag q front) (is_tag_sound Opening name g ok) first) (inside_sound A name one IsOne sound (suc (length t)) t r found e)
      | false ↦ λ _ e.
          let (ok, same) = cond_some (is_tag Empty name g) ([], t) (found, r) e in
          subst (λ (q : List A × List ℕ). RestRead (IsElementOf name IsOne) q.0 front t q.1) same (empty_element name IsOne front t (subst (λ q. IsTag q front) (is_tag_sound Empty name g ok) first))
    ] refl h

-- an element of elements is read at a tag of its name alone
pub inner_name : (A : Type 0) (name : List ℕ) (one : Tag → List ℕ → Read A) (g : Tag) (t r : List ℕ) (found : List A) → inner_at name one g t ≡ Some (found, r) → g.name ≡ name
unfolding inner_at
inner_name A name one g t r found h =
    let other : Bool → Read (List A) = λ b. cond b (Some ([], t)) None in
    elim (is_tag Opening name g) as (λ b. is_tag Opening name g ≡ b → cond b (elements_at name one (suc (length t)) t) (other (is_tag Empty name g)) ≡ Some (found, r) → g.name ≡ name) [
      | true ↦ λ ok e. ap (λ (q : Tag). q.name) (is_tag_sound Opening name g ok)
      | false ↦ λ _ e.
          let (ok, same) = cond_some (is_tag Empty name g) ([], t) (found, r) e in
          ap (λ (q : Tag). q.name) (is_tag_sound Empty name g ok)
    ] refl h

-- what is made of an element
pub made_sound : (A B : Type 0) (make : A → Option B) (one : Tag → List ℕ → Read A) (IsOne : A → List Token → Type 0) → IsSound A one IsOne
    → IsSound B (λ g t. made_at make (one g t)) (λ b tokens. (a : A) × IsOne a tokens × (make a ≡ Some b))
made_sound A B make one IsOne sound g front t r b first h =
    option_and_then_some (λ (a : A × List ℕ). option_map (λ (b : B). let p : B × List ℕ = (b, a.1) in p) (make a.0)) (one g t) (b, r) h λ a read h₁.
    mapped_some _ (make a.0) (b, r) h₁ λ b₁ made same.
    let (tokens, s, is, are, whole) = sound g front t a.1 a.0 first read in
    (tokens, s, (a.0, is, made ∙ ap (λ (q : B × List ℕ). Some q.0) same), are, whole ∙ ap (λ (q : B × List ℕ). s ++ q.1) same)

-- ---- the root

done_sound : {A : Type 0} (a b : A) (t : List ℕ) → if_done a t ≡ Some b → (a ≡ b) × (t ≡ [])
done_sound a b [] h = (same_Some a b h, refl)
done_sound a b (c ∷ cs) h = cc

text_of_root : {A : Type 0} (IsOne : A → List Token → Type 0) (a : A) (t front t₁ r : List ℕ) → after_white t ≡ front ++ t₁ → RestRead IsOne a front t₁ r → after_white r ≡ [] → IsRoot (IsOne a) t
text_of_root IsOne a t front t₁ r whole (tokens, s, one, are, more) none =
    let before = take (prefix_len is_white t) t in
    let after = take (prefix_len is_white r) r in
    let tail : r ≡ after = run_whole is_white r ∙ ap (λ l. after ++ l) none ∙ append-nil after in (
      before,
      tokens,
      front ++ s,
      after,
      run_passes is_white t,
      one,
      are,
      run_passes is_white r,
      run_whole is_white t ∙ ap (λ l. before ++ l) (whole ∙ ap (λ l. front ++ l) (more ∙ ap (λ l. s ++ l) tail) ∙ sym (append_assoc front s after)),
    )

-- what is read as a root is a root of this form
pub root_sound : (A : Type 0) (one : Tag → List ℕ → Read A) (IsOne : A → List Token → Type 0) → IsSound A one IsOne → (t : List ℕ) (a : A) → root_of one t ≡ Some a → IsRoot (IsOne a) t
unfolding root_of
root_sound A one IsOne sound t a h =
    option_and_then_some (λ (g : Tag × List ℕ). one g.0 g.1 >>= (λ q. if_done q.0 (after_white q.1))) (tag_at (after_white t)) a h λ g is h₁.
    option_and_then_some (λ (q : A × List ℕ). if_done q.0 (after_white q.1)) (one g.0 g.1) a h₁ λ q root h₂.
    let (front, first, whole) = tag_sound (after_white t) g.1 g.0 is in
    let (same, none) = done_sound q.0 a (after_white q.1) h₂ in
    subst (λ l. IsRoot (IsOne l) t) same (text_of_root IsOne q.0 t front g.1 q.1 whole (sound g.0 front g.1 q.1 q.0 first root) none)
