-- The reading of tags and texts as functions: what is taken from the front of a text, and what is left of the text, or nothing.
use Rattle.std.specs.Prelude.{◌≡◌, ℕ, zero, suc, Bool, true, false, not, ◌==◌, if◌then◌else◌, List, [], ◌∷◌, length, take, drop, Option, Some, None, option_map, option_and_then, MatchOption}
use Rattle.std.specs.List.{prefix_len}
use Rattle.stamp_values.specs.Ascii.{slash, equals_sign}
use Rattle.xml_text.specs.declared.tokens.Kind.{Kind}
use Rattle.xml_text.specs.declared.tokens.Kind.TheVariants.{Opening, Empty, Closing}
use Rattle.xml_text.specs.declared.tokens.Tag as code
use Rattle.xml_text.specs.Markup.{less_than, greater_than, is_white, is_delimiter, is_name_byte}
use Rattle.xml_text.specs.Tokens.{is_name, is_text, has_good_references, Tag}

-- a value, and what is left of the text
abbrev pub Read : Type 0 → Type 0
Read A = Option (A × List ℕ)

infixl 10 ◌>>=◌
abbrev pub ◌>>=◌ : {A B : Type 0} → Option A → (A → Option B) → Option B
o >>= f = option_and_then f o

-- the method answered the value that is expected, and left the text that is expected
abbrev pub Gives : {A B : Type 0} → (A → B) → Option A → List ℕ → Read B → Type 0
Gives f answer left expected = MatchOption answer (expected ≡ None) (λ a. expected ≡ Some (f a, left))

-- a tag of the code, as a tag
abbrev pub tag_of : code.Tag → Tag
tag_of t = record { kind = t.kind; name = t.name.now }

-- the value itself
abbrev pub itself : {A : Type 0} → A → A
itself a = a

-- the answer of a method that takes something and gives no value of it
abbrev pub taken : {A : Type 0} → A → Bool
taken a = true

-- the text after the white space at its front
abbrev pub after_white : List ℕ → List ℕ
after_white t = drop (prefix_len is_white t) t

-- the text after this byte
abbrev pub after_byte : ℕ → List ℕ → Read Bool
after_byte b [] = None
after_byte b (c ∷ cs) = if c == b then Some (true, cs) else None

-- the name at the front
unfoldable pub name_at : List ℕ → Read (List ℕ)
name_at t =
    if is_name (take (prefix_len is_name_byte t) t)
    then Some (take (prefix_len is_name_byte t) t, drop (prefix_len is_name_byte t) t) else None

-- the text after a value and its second delimiter
unfoldable pub value_up_to : ℕ → List ℕ → Read Bool
value_up_to q t =
    if is_text (take (prefix_len (λ c. not (c == q)) t) t)
    then after_byte q (drop (prefix_len (λ c. not (c == q)) t) t) else None

-- the text after a value between delimiters
unfoldable pub value_at : List ℕ → Read Bool
value_at [] = None
value_at (q ∷ t) = if is_delimiter q then value_up_to q t else None

-- the text after an attribute, which begins with its name
unfoldable pub attribute_at : List ℕ → Read Bool
attribute_at t = name_at t >>= (λ n. after_byte equals_sign (after_white n.1) >>= (λ e. value_at (after_white e.1)))

-- the end of a tag: whether the tag is empty
unfoldable pub end_at : List ℕ → Read Bool
end_at [] = None
end_at (c ∷ cs) =
    if c == greater_than then Some (false, cs)
    else if c == slash then option_map (λ e. (true, e.1)) (after_byte greater_than cs)
    else None

-- the first of two readings, or the second if the first gives nothing
abbrev pub or_else : {A : Type 0} → Option A → Option A → Option A
or_else (Some a) other = Some a
or_else None other = other

-- what comes next after the name of a tag: its end, and whether the tag is empty, or one attribute more
unfoldable pub next_attribute_at : List ℕ → Read (Option Bool)
next_attribute_at t =
    or_else (option_map (λ e. (Some e.0, e.1)) (end_at (after_white t)))
    (if prefix_len is_white t == 0 then None else option_map (λ a. (None, a.1)) (attribute_at (after_white t)))

-- the end that was read, or what comes after the attribute that was read
abbrev pub turned : (List ℕ → Read Bool) → Option Bool → List ℕ → Read Bool
turned more (Some empty) rest = Some (empty, rest)
turned more None rest = more rest

-- the rest of a tag after its name, with fewer than n attributes: whether the tag is empty
unfoldable pub attributes_at : ℕ → List ℕ → Read Bool
attributes_at zero t = None
attributes_at (suc n) t = next_attribute_at t >>= (λ r. turned (attributes_at n) r.0 r.1)

-- the kind of a tag that has attributes, by whether the tag is empty
abbrev pub kind_of : Bool → Kind
kind_of true = Empty
kind_of false = Opening

-- the tag after `</`
unfoldable pub closing_at : List ℕ → Read Tag
closing_at t =
    name_at t >>= (λ n. option_map (λ e. (record { kind = Closing; name = n.0 }, e.1)) (after_byte greater_than (after_white n.1)))

-- the tag after `<`, if the tag is not a closing tag
unfoldable pub opening_at : List ℕ → Read Tag
opening_at t =
    name_at t
    >>= (λ n. option_map (λ e. (record { kind = kind_of e.0; name = n.0 }, e.1)) (attributes_at (suc (length n.1)) n.1))

-- the tag after `<`
abbrev pub after_bracket : List ℕ → Read Tag
after_bracket [] = opening_at []
after_bracket (c ∷ cs) = if c == slash then closing_at cs else opening_at (c ∷ cs)

-- the tag at the front
unfoldable pub tag_at : List ℕ → Read Tag
tag_at t = after_byte less_than t >>= (λ e. after_bracket e.1)

-- the text at the front, as it is written: up to the next `<` or the end
unfoldable pub text_at : List ℕ → Read (List ℕ)
text_at t =
    if has_good_references (take (prefix_len (λ c. not (c == less_than)) t) t)
    then Some (take (prefix_len (λ c. not (c == less_than)) t) t, drop (prefix_len (λ c. not (c == less_than)) t) t) else None
