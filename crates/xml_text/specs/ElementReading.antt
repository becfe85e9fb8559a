-- The reading of elements as a function, for any name and any inner form (Extensible Markup Language 1.0, sections 3.1 and 4.6).
use Rattle.std.specs.Prelude.{ℕ, zero, suc, Bool, true, false, ◌&&◌, ◌==◌, if◌then◌else◌, List, [], ◌∷◌, length, take, codes, bytes_eq, Option, Some, None, option_map}
use Rattle.xml_text.specs.declared.tokens.Kind.{Kind}
use Rattle.xml_text.specs.declared.tokens.Kind.TheVariants.{Opening, Empty, Closing}
use Rattle.stamp_values.specs.Ascii.{ampersand, quote}
use Rattle.xml_text.specs.Markup.{less_than, greater_than, apostrophe}
use Rattle.xml_text.specs.Tokens.{Tag}
use Rattle.xml_text.specs.Elements.{without_white_ends}
use Rattle.xml_text.specs.Reading.{Read, ◌>>=◌, after_white, tag_at, text_at}

-- the byte that a reference writes, from what follows its `&`
abbrev pub reference_value : List ℕ → ℕ
reference_value s =
    if bytes_eq (take 4 s) (codes "amp;") then ampersand
    else if bytes_eq (take 3 s) (codes "lt;") then less_than
    else if bytes_eq (take 3 s) (codes "gt;") then greater_than
    else if bytes_eq (take 5 s) (codes "quot;") then quote
    else apostrophe

-- how many bytes a reference has after its `&`
abbrev pub reference_len : List ℕ → ℕ
reference_len s =
    if bytes_eq (take 4 s) (codes "amp;") then 4
    else if bytes_eq (take 3 s) (codes "lt;") then 3
    else if bytes_eq (take 3 s) (codes "gt;") then 3
    else 5

-- the value of a text that is written so, after this many bytes of a reference
unfoldable pub unescaped : ℕ → List ℕ → List ℕ
unescaped k [] = []
unescaped (suc k) (c ∷ cs) = unescaped k cs
unescaped zero (c ∷ cs) = if c == ampersand then reference_value cs ∷ unescaped (reference_len cs) cs else c ∷ unescaped zero cs

-- the value of a text that is written so, without the white space at its ends
unfoldable pub value_of : List ℕ → List ℕ
value_of written = without_white_ends (unescaped 0 written)

-- whether two kinds are the same
abbrev pub is_kind : Kind → Kind → Bool
is_kind Opening Opening = true
is_kind Opening Empty = false
is_kind Opening Closing = false
is_kind Empty Opening = false
is_kind Empty Empty = true
is_kind Empty Closing = false
is_kind Closing Opening = false
is_kind Closing Empty = false
is_kind Closing Closing = true

-- whether the tag has this kind and this name
abbrev pub is_tag : Kind → List ℕ → Tag → Bool
is_tag kind name tag = is_kind tag.kind kind && bytes_eq tag.name name

-- the text after this closing tag
unfoldable pub closed_at : List ℕ → List ℕ → Read Bool
closed_at name t = tag_at t >>= (λ c. if is_tag Closing name c.0 then Some (true, c.1) else None)

-- the text of an element of a text alone, after the first tag of the element, which has this kind
abbrev pub content_at : Kind → List ℕ → List ℕ → Read (List ℕ)
content_at Opening name t = text_at t >>= (λ x. option_map (λ c. (value_of x.0, c.1)) (closed_at name x.1))
content_at Empty name t = Some (value_of [], t)
content_at Closing name t = None

-- the same text as it is written
abbrev pub written_at : Kind → List ℕ → List ℕ → Read (List ℕ)
written_at Opening name t = text_at t >>= (λ x. option_map (λ c. (x.0, c.1)) (closed_at name x.1))
written_at Empty name t = Some ([], t)
written_at Closing name t = None

-- the text of the element of a text alone at the front, if the element has this name
unfoldable pub text_element_at : List ℕ → List ℕ → Read (List ℕ)
text_element_at name t = tag_at t >>= (λ tag. if bytes_eq tag.0.name name then content_at tag.0.kind tag.0.name tag.1 else None)

-- what comes next inside an element of this name: one element more, or the end
unfoldable pub next_at : {A : Type 0} → List ℕ → (Tag → List ℕ → Read A) → List ℕ → Read (Option A)
next_at name one t =
    tag_at (after_white t)
    >>= (λ tag. if is_tag Closing name tag.0 then Some (None, tag.1) else option_map (λ a. (Some a.0, a.1)) (one tag.0 tag.1))

-- the end that was read, or the element that was read and the elements after it
abbrev pub listed : {A : Type 0} → (List ℕ → Read (List A)) → Option A → List ℕ → Read (List A)
listed more None rest = Some ([], rest)
listed more (Some a) rest = option_map (λ found. (a ∷ found.0, found.1)) (more rest)

-- the elements inside an element of this name after its opening tag, if there are fewer than n elements
unfoldable pub elements_at : {A : Type 0} → List ℕ → (Tag → List ℕ → Read A) → ℕ → List ℕ → Read (List A)
elements_at name one zero t = None
elements_at name one (suc n) t = next_at name one t >>= (λ r. listed (elements_at name one n) r.0 r.1)

-- the elements inside the element that begins with this tag, if the element has this name
unfoldable pub inner_at : {A : Type 0} → List ℕ → (Tag → List ℕ → Read A) → Tag → List ℕ → Read (List A)
inner_at name one tag t =
    if is_tag Opening name tag then elements_at name one (suc (length t)) t
    else if is_tag Empty name tag then Some ([], t)
    else None

-- what is made of what is read
abbrev pub made_at : {A B : Type 0} → (A → Option B) → Read A → Read B
made_at make read = read >>= (λ a. option_map (λ b. (b, a.1)) (make a.0))

-- the value, if nothing is left of the text
abbrev pub if_done : {A : Type 0} → A → List ℕ → Option A
if_done a [] = Some a
if_done a (c ∷ cs) = None

-- the root that the text is
unfoldable pub root_of : {A : Type 0} → (Tag → List ℕ → Read A) → List ℕ → Option A
root_of one t = tag_at (after_white t) >>= (λ tag. one tag.0 tag.1 >>= (λ a. if_done a.0 (after_white a.1)))
