-- An element is read as it was written, for any name and any inner form.
use Rattle.std.proofs.Common.{◌≡◌, inl, inr, ℕ, zero, suc, ◌+◌, ◌<◌, ◌≤◌, true, false, List, [], ◌∷◌, ◌++◌, length, Option, Some, None, refl, sym, ap, ◌∙◌, subst, arith, append_assoc, append-nil, length-append}
use Rattle.std.specs.Prelude.{bytes_eq}
use Rattle.std.specs.List.{prefix_len}
use Rattle.std.proofs.lemmas.Bool.{and_parts}
use Rattle.std.proofs.lemmas.Slice.Eq.{bytes_eq-Decides}
use Rattle.xml_text.specs.declared.tokens.Kind.{Kind}
use Rattle.xml_text.specs.declared.tokens.Kind.TheVariants.{Opening, Empty, Closing}
use Rattle.stamp_values.specs.Ascii.{slash}
use Rattle.xml_text.specs.Markup.{is_white, is_white_space, less_than, greater_than}
use Rattle.xml_text.specs.Tokens.{Tag, IsTag, IsTagOf, is_text}
use Rattle.xml_text.specs.Texts.{Token, text, AreTokens, IsText}
use Rattle.xml_text.specs.Elements.{opening, empty, closing, without_white_ends, IsTextElement, AreElements, IsElementOf, IsRoot}
use Rattle.xml_text.specs.Reading.{Read, after_white, tag_at, text_at}
use Rattle.xml_text.specs.ElementReading.{unescaped, value_of, is_kind, closed_at, content_at, next_at, elements_at, inner_at, made_at, root_of}
use Rattle.xml_text.proofs.Runs.{Stops}
use Rattle.xml_text.proofs.Complete.{tag_read, after_white_read}
use Rattle.xml_text.proofs.TextLemmas.{text_read, text_value, pieces_text, gap_written}
use Rattle.xml_text.proofs.ElementsSound.{split}

same_name : (name : List ℕ) → bytes_eq name name ≡ true
same_name name = (bytes_eq-Decides name name).1 refl

-- each tag begins with `<`
bracket_first : (kind : Kind) (name c : List ℕ) → IsTagOf kind name c → (d : List ℕ) × (c ≡ less_than ∷ d)
bracket_first Opening name c (inside, is, whole) = (name ++ inside ++ greater_than ∷ [], whole)
bracket_first Empty name c (inside, is, whole) = (name ++ inside ++ slash ∷ greater_than ∷ [], whole)
bracket_first Closing name c (gap, is, whole) = (slash ∷ (name ++ gap ++ greater_than ∷ []), whole)

pub tag_first : (g : Tag) (c : List ℕ) → IsTag g c → (d : List ℕ) × (c ≡ less_than ∷ d)
tag_first g c (named, is) = bracket_first g.kind g.name c is

tag_stops : (g : Tag) (c r : List ℕ) → IsTag g c → Stops is_white (c ++ r)
tag_stops g c r is = let (d, e) = tag_first g c is in record { first = less_than; rest = d ++ r; is = ap (λ l. l ++ r) e; fails = refl }

-- a tag after white space
tag_after_gap : (g : Tag) (gap c r : List ℕ) → is_white_space gap ≡ true → IsTag g c → tag_at (after_white (gap ++ (c ++ r))) ≡ Some (g, r)
tag_after_gap g gap c r white is = ap tag_at (after_white_read gap (c ++ r) white (tag_stops g c r is)) ∙ tag_read g c r is

text_before_tag : (g : Tag) (x c r : List ℕ) → is_text x ≡ true → IsTag g c → text_at (x ++ (c ++ r)) ≡ Some (x, c ++ r)
text_before_tag g x c r good is =
    let (d, e) = tag_first g c is in
    let whole : c ++ r ≡ less_than ∷ (d ++ r) = ap (λ l. l ++ r) e in
    ap (λ l. text_at (x ++ l)) whole ∙ text_read x (d ++ r) good ∙ ap (λ l. Some (x, l)) (sym whole)

closed_read : (name c r : List ℕ) → IsTag (record { kind = Closing; name = name }) c → closed_at name (c ++ r) ≡ Some (true, r)
unfolding closed_at
closed_read name c r is = rw (tag_read (record { kind = Closing; name = name }) c r is, same_name name) refl

-- ---- elements of a text alone

-- the element begins with a tag that is not a closing tag, and what follows the tag is read as this value
abbrev pub IsRead : (A : Type 0) → (Tag → List ℕ → Read A) → A → List ℕ → List ℕ → Type 0
IsRead A one a s r =
    (g : Tag) × (front : List ℕ) × (back : List ℕ)
    × IsTag g front × (is_kind g.kind Closing ≡ false) × (s ≡ front ++ back) × (one g (back ++ r) ≡ Some (a, r))

-- each element of this form is read as it was written, whatever follows
abbrev pub IsComplete : (A : Type 0) → (Tag → List ℕ → Read A) → (A → List Token → Type 0) → Type 0
IsComplete A one IsOne = (a : A) (tokens : List Token) (s r : List ℕ) → IsOne a tokens → AreTokens tokens s → IsRead A one a s r

-- the same for the content of an element of this name
abbrev pub ContentIs : List ℕ → List ℕ → List ℕ → List ℕ → Type 0
ContentIs name v s r =
    (kind : Kind) × (front : List ℕ) × (back : List ℕ)
    × IsTag (record { kind = kind; name = name }) front × (is_kind kind Closing ≡ false) × (s ≡ front ++ back) × (content_at kind name (back ++ r) ≡ Some (v, r))

full_content : (name x k r : List ℕ) → is_text x ≡ true → IsTag (record { kind = Closing; name = name }) k → content_at Opening name (x ++ (k ++ r)) ≡ Some (value_of x, r)
full_content name x k r good last = rw (text_before_tag (record { kind = Closing; name = name }) x k r good last, closed_read name k r last) refl

value_is : (t x : List ℕ) → IsText t x → value_of x ≡ without_white_ends t
unfolding value_of
value_is t x is = ap without_white_ends (text_value t x is)

no_value : value_of [] ≡ []
unfolding value_of unescaped
no_value = refl

text_content : (name v t s r : List ℕ) → v ≡ without_white_ends t → AreTokens (opening name ∷ text t ∷ closing name ∷ []) s → ContentIs name v s r
text_content name v t s r value (o, b₁, first, (x, b₂, is, (k, b₃, last, none, w₃), w₂), w₁) =
    let tail : b₂ ≡ k = w₃ ∙ ap (λ l. k ++ l) none ∙ append-nil k in
    let shape : b₁ ++ r ≡ x ++ (k ++ r) = ap (λ l. l ++ r) (w₂ ∙ ap (λ l. x ++ l) tail) ∙ append_assoc x k r in
    let same : value_of x ≡ v = value_is t x is ∙ sym value in
    (Opening, o, b₁, first, refl, w₁, ap (content_at Opening name) shape ∙ full_content name x k r (pieces_text t x is) last ∙ ap (λ (l : List ℕ). Some (l, r)) same)

empty_content : (name v s r : List ℕ) → v ≡ [] → AreTokens (empty name ∷ []) s → ContentIs name v s r
empty_content name v s r value (o, b, first, none, w) =
    (Empty, o, b, first, refl, w, (λ i. Some ((no_value ∙ sym value) i, none i ++ r)))

-- the content of an element of a text alone
pub content_read : (name v : List ℕ) (tokens : List Token) (s r : List ℕ) → IsTextElement name v tokens → AreTokens tokens s → ContentIs name v s r
content_read name v tokens s r (inl (t, is, value)) are = text_content name v t s r value (subst (λ ts. AreTokens ts s) is are)
content_read name v tokens s r (inr (is, value)) are = empty_content name v s r value (subst (λ ts. AreTokens ts s) is are)

-- ---- what comes next

next_read : (A : Type 0) (name : List ℕ) (one : Tag → List ℕ → Read A) (a : A) (gap s r : List ℕ) → is_white_space gap ≡ true → IsRead A one a s r → next_at name one (gap ++ (s ++ r)) ≡ Some (Some a, r)
unfolding next_at
next_read A name one a gap s r white (g, front, back, first, other, whole, read) =
    let shape : gap ++ (s ++ r) ≡ gap ++ (front ++ (back ++ r)) = ap (λ l. gap ++ (l ++ r)) whole ∙ ap (λ l. gap ++ l) (append_assoc front back r) in
    rw (shape, tag_after_gap g gap front (back ++ r) white first, other, read) refl

next_end : (A : Type 0) (name : List ℕ) (one : Tag → List ℕ → Read A) (gap c r : List ℕ) → is_white_space gap ≡ true → IsTag (record { kind = Closing; name = name }) c → next_at name one (gap ++ (c ++ r)) ≡ Some (None, r)
unfolding next_at
next_end A name one gap c r white last = rw (tag_after_gap (record { kind = Closing; name = name }) gap c r white last, same_name name) refl

-- ---- elements inside an element

regrouped : (gap a g b c r s : List ℕ) → s ≡ a ++ (g ++ b) → gap ++ (s ++ (c ++ r)) ≡ gap ++ (a ++ (g ++ (b ++ (c ++ r))))
regrouped gap a g b c r s whole = ap (λ l. gap ++ (l ++ (c ++ r))) whole ∙ simp append_assoc refl

no_elements : (A : Type 0) (name : List ℕ) (one : Tag → List ℕ → Read A) (n : ℕ) (gap s c r : List ℕ) → is_white_space gap ≡ true → s ≡ [] → IsTag (record { kind = Closing; name = name }) c
    → elements_at name one (suc n) (gap ++ (s ++ (c ++ r))) ≡ Some ([], r)
unfolding elements_at
no_elements A name one n gap s c r white none last =
    let read : next_at name one (gap ++ (s ++ (c ++ r))) ≡ Some (None, r) = ap (λ l. next_at name one (gap ++ (l ++ (c ++ r)))) none ∙ next_end A name one gap c r white last in
    rw read refl

one_element : (A : Type 0) (name : List ℕ) (one : Tag → List ℕ → Read A) (n : ℕ) (a : A) (more : List A) (t rest r : List ℕ) → next_at name one t ≡ Some (Some a, rest) → elements_at name one n rest ≡ Some (more, r)
    → elements_at name one (suc n) t ≡ Some (a ∷ more, r)
unfolding elements_at
one_element A name one n a more t rest r read others = rw (read, others) refl

elements_read : (A : Type 0) (name : List ℕ) (one : Tag → List ℕ → Read A) (IsOne : A → List Token → Type 0) → IsComplete A one IsOne → (found : List A) (tokens : List Token) (gap s c r : List ℕ) (n : ℕ)
    → is_white_space gap ≡ true → AreElements IsOne found tokens → AreTokens tokens s → IsTag (record { kind = Closing; name = name }) c → length found < n → elements_at name one n (gap ++ (s ++ (c ++ r))) ≡ Some (found, r)
elements_read A name one IsOne complete found tokens gap s c r zero white elements are last h = absurd (omega arith)
elements_read A name one IsOne complete [] tokens gap s c r (suc n) white elements are last h = no_elements A name one n gap s c r white (subst (λ ts. AreTokens ts s) elements are) last
elements_read A name one IsOne complete (a ∷ more) tokens gap s c r (suc n) white (front, g, back, is, white₂, elements, whole) are last h =
    let (x, b, are₁, (g₁, b₁, gap_is, are₂, w₁), w) = split front (text g ∷ back) s (subst (λ ts. AreTokens ts s) whole are) in
    let same : g₁ ≡ g = gap_written g g₁ white₂ gap_is in
    let shape : s ≡ x ++ (g ++ b₁) = w ∙ ap (λ l. x ++ l) (w₁ ∙ ap (λ l. l ++ b₁) same) in
    let rest = g ++ (b₁ ++ (c ++ r)) in
    ap (elements_at name one (suc n)) (regrouped gap x g b₁ c r s shape)
    ∙ one_element A name one n a more (gap ++ (x ++ rest)) rest r (next_read A name one a gap x rest white (complete a front x rest is are₁))
    (elements_read A name one IsOne complete more back g b₁ c r n white₂ elements are₂ last (omega arith))

-- ---- fewer elements than bytes

first_fits : (g : Tag) (o b s : List ℕ) → IsTag g o → s ≡ o ++ b → 1 ≤ length s
first_fits g o b s is whole =
    let (d, e) = tag_first g o is in
    let long : s ≡ less_than ∷ (d ++ b) = whole ∙ ap (λ l. l ++ b) e in
    rw long (omega arith)

element_fits : (A : Type 0) (one : Tag → List ℕ → Read A) (a : A) (s r : List ℕ) → IsRead A one a s r → 1 ≤ length s
element_fits A one a s r (g, front, back, first, other, whole, read) = first_fits g front back s first whole

elements_fit : (A : Type 0) (one : Tag → List ℕ → Read A) (IsOne : A → List Token → Type 0) → IsComplete A one IsOne → (found : List A) (tokens : List Token) (s : List ℕ) → AreElements IsOne found tokens → AreTokens tokens s → length found ≤ length s
elements_fit A one IsOne complete [] tokens s elements are = omega arith
elements_fit A one IsOne complete (a ∷ more) tokens s (front, g, back, is, white, elements, whole) are =
    let (x, b, are₁, (g₁, b₁, gap_is, are₂, w₁), w) = split front (text g ∷ back) s (subst (λ ts. AreTokens ts s) whole are) in
    let long : length s ≡ length x + (length g₁ + length b₁) = ap length (w ∙ ap (λ l. x ++ l) w₁) ∙ length-append x (g₁ ++ b₁) ∙ ap (λ n. length x + n) (length-append g₁ b₁) in
    omega (arith, element_fits A one a x [] (complete a front x [] is are₁), elements_fit A one IsOne complete more back b₁ elements are₂, long)

-- ---- an element of elements

room : {A : Type 0} (found : List A) (gap s c r : List ℕ) → length found ≤ length s → length found < suc (length (gap ++ (s ++ (c ++ r))))
room found gap s c r h = omega (arith, h, length-append gap (s ++ (c ++ r)), length-append s (c ++ r))

opened : (A : Type 0) (name : List ℕ) (one : Tag → List ℕ → Read A) (t : List ℕ) → inner_at name one (record { kind = Opening; name = name }) t ≡ elements_at name one (suc (length t)) t
unfolding inner_at
opened A name one t = rw (same_name name) refl

emptied : (A : Type 0) (name : List ℕ) (one : Tag → List ℕ → Read A) (t : List ℕ) → inner_at name one (record { kind = Empty; name = name }) t ≡ Some ([], t)
unfolding inner_at
emptied A name one t = rw (same_name name) refl

full_inner : (A : Type 0) (name : List ℕ) (one : Tag → List ℕ → Read A) (IsOne : A → List Token → Type 0) → IsComplete A one IsOne → (found : List A) (inside : List Token) (gap s r : List ℕ)
    → is_white_space gap ≡ true → AreElements IsOne found inside → AreTokens (opening name ∷ text gap ∷ (inside ++ closing name ∷ [])) s → IsRead (List A) (inner_at name one) found s r
full_inner A name one IsOne complete found inside gap s r white elements (o, b₁, first, (g, b₂, is, are, w₂), w₁) =
    let (x, b₃, are₁, (c, b₄, last, none, w₄), w₃) = split inside (closing name ∷ []) b₂ are in
    let same : g ≡ gap = gap_written gap g white is in
    let tail : b₃ ≡ c = w₄ ∙ ap (λ l. c ++ l) none ∙ append-nil c in
    let shape : b₁ ≡ gap ++ (x ++ c) = w₂ ∙ ap (λ l. l ++ b₂) same ∙ ap (λ l. gap ++ l) (w₃ ∙ ap (λ l. x ++ l) tail) in
    let t = gap ++ (x ++ (c ++ r)) in
    let whole : b₁ ++ r ≡ t = ap (λ l. l ++ r) shape ∙ append_assoc gap (x ++ c) r ∙ ap (λ l. gap ++ l) (append_assoc x c r) in
    let read = elements_read A name one IsOne complete found inside gap x c r (suc (length t)) white elements are₁ last (room found gap x c r (elements_fit A one IsOne complete found inside x elements are₁)) in
    (record { kind = Opening; name = name }, o, b₁, first, refl, w₁, ap (inner_at name one (record { kind = Opening; name = name })) whole ∙ opened A name one t ∙ read)

empty_inner : (A : Type 0) (name : List ℕ) (one : Tag → List ℕ → Read A) (found : List A) (s r : List ℕ) → found ≡ [] → AreTokens (empty name ∷ []) s → IsRead (List A) (inner_at name one) found s r
empty_inner A name one found s r nothing (o, b, first, none, w) =
    (record { kind = Empty; name = name }, o, b, first, refl, w, ap (λ l. inner_at name one (record { kind = Empty; name = name }) (l ++ r)) none ∙ emptied A name one r ∙ ap (λ (l : List A). Some (l, r)) (sym nothing))

pub inner_read : (A : Type 0) (name : List ℕ) (one : Tag → List ℕ → Read A) (IsOne : A → List Token → Type 0) → IsComplete A one IsOne → IsComplete (List A) (inner_at name one) (IsElementOf name IsOne)
inner_read A name one IsOne complete found tokens s r (inl (gap, inside, white, elements, is)) are =
    full_inner A name one IsOne complete found inside gap s r white elements (subst (λ ts. AreTokens ts s) is are)
inner_read A name one IsOne complete found tokens s r (inr (is, nothing)) are = empty_inner A name one found s r nothing (subst (λ ts. AreTokens ts s) is are)

-- what is made of an element
pub made_read : (A B : Type 0) (make : A → Option B) (one : Tag → List ℕ → Read A) (IsOne : A → List Token → Type 0) → IsComplete A one IsOne
    → IsComplete B (λ g t. made_at make (one g t)) (λ b tokens. (a : A) × IsOne a tokens × (make a ≡ Some b))
made_read A B make one IsOne complete b tokens s r (a, is, made) are =
    let (g, front, back, first, other, whole, read) = complete a tokens s r is are in
    (g, front, back, first, other, whole, rw (read, made) refl)

-- ---- the root

after_white_all : (g : List ℕ) → is_white_space g ≡ true → after_white g ≡ []
after_white_all [] h = refl
after_white_all (c ∷ cs) h =
    let (one, more) = and_parts (is_white c) (is_white_space cs) h in
    let next : 1 + prefix_len is_white cs ≡ suc (prefix_len is_white cs) = omega arith in
    rw (one, next) (after_white_all cs more)

-- a root of this form is read as it was written
pub root_read : (A : Type 0) (one : Tag → List ℕ → Read A) (IsOne : A → List Token → Type 0) → IsComplete A one IsOne → (t : List ℕ) (a : A) → IsRoot (IsOne a) t → root_of one t ≡ Some a
unfolding root_of
root_read A one IsOne complete t a (before, tokens, root, after, white, is, are, white₂, whole) =
    let (g, front, back, first, other, parts, read) = complete a tokens root after is are in
    let shape : t ≡ before ++ (front ++ (back ++ after)) = whole ∙ ap (λ l. before ++ (l ++ after)) parts ∙ ap (λ l. before ++ l) (append_assoc front back after) in
    rw (shape, tag_after_gap g before front (back ++ after) white first, read, after_white_all after white₂) refl
