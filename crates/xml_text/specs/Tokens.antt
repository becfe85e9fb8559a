-- The tags of an XML text, by the ways in which each tag may be written (Extensible Markup Language 1.0, sections 2.3, 2.4
-- and 3.1, without references by number).
use Rattle.std.specs.Prelude.{◌≡◌, ◌≢◌, ℕ, Bool, true, false, not, ◌&&◌, ◌||◌, ◌==◌, List, [], ◌∷◌, ◌++◌, take, codes, bytes_eq}
use Rattle.std.specs.List.{list_all, flat_map, All}
use Rattle.stamp_values.specs.Ascii.{ampersand, slash, equals_sign}
use Rattle.xml_text.specs.declared.tokens.Kind.{Kind}
use Rattle.xml_text.specs.declared.tokens.Kind.TheVariants.{Opening, Empty, Closing}
use Rattle.xml_text.specs.Markup.{less_than, greater_than, is_white_space, is_delimiter, is_name_start, is_name_byte}

-- the name of an element or an attribute: the first byte may begin a name, and the others may go on with a name
abbrev pub is_name : List ℕ → Bool
is_name [] = false
is_name (c ∷ cs) = is_name_start c && list_all is_name_byte cs

-- what may follow `&`
abbrev pub begins_reference : List ℕ → Bool
begins_reference s =
    bytes_eq (take 4 s) (codes "amp;") || bytes_eq (take 3 s) (codes "lt;") || bytes_eq (take 3 s) (codes "gt;")
    || bytes_eq (take 5 s) (codes "quot;") || bytes_eq (take 5 s) (codes "apos;")

-- each `&` begins one of the five references
abbrev pub has_good_references : List ℕ → Bool
has_good_references [] = true
has_good_references (c ∷ cs) = (not (c == ampersand) || begins_reference cs) && has_good_references cs

-- a text as it is written: it has no `<`, and `&` in references only
abbrev pub is_text : List ℕ → Bool
is_text s = list_all (λ c. not (c == less_than)) s && has_good_references s

-- white space, a name, `=` with white space before it and after it, and a value between two delimiters
pub record Attribute : Type 0 where
  pub gap : List ℕ
  pub name : List ℕ
  pub before : List ℕ
  pub after : List ℕ
  pub delimiter : ℕ
  pub value : List ℕ

-- the attribute as it is written
abbrev pub attribute_bytes : Attribute → List ℕ
attribute_bytes a = a.gap ++ a.name ++ a.before ++ equals_sign ∷ a.after ++ a.delimiter ∷ a.value ++ a.delimiter ∷ []

-- there is white space before the name, and the value is a text without its own delimiter
pub record IsAttribute (a : Attribute) : Type 0 where
  pub apart : a.gap ≢ []
  pub gap : is_white_space a.gap ≡ true
  pub name : is_name a.name ≡ true
  pub before : is_white_space a.before ≡ true
  pub after : is_white_space a.after ≡ true
  pub delimiter : is_delimiter a.delimiter ≡ true
  pub value : is_text a.value ≡ true
  pub undelimited : list_all (λ c. not (c == a.delimiter)) a.value ≡ true

-- what is between the name of a tag and its end: attributes, and then white space
abbrev pub AreAttributes : List ℕ → Type 0
AreAttributes s =
    (attributes : List Attribute) × (gap : List ℕ)
    × All IsAttribute attributes × (is_white_space gap ≡ true) × (s ≡ flat_map attribute_bytes attributes ++ gap)

-- a tag by what it does and by its name
pub record Tag : Type 0 where
  pub kind : Kind
  pub name : List ℕ

-- the bytes are a tag of this kind and name
abbrev pub IsTagOf : Kind → List ℕ → List ℕ → Type 0
IsTagOf Opening name s = (inside : List ℕ) × AreAttributes inside × (s ≡ less_than ∷ name ++ inside ++ greater_than ∷ [])
IsTagOf Empty name s = (inside : List ℕ) × AreAttributes inside × (s ≡ less_than ∷ name ++ inside ++ slash ∷ greater_than ∷ [])
IsTagOf Closing name s = (gap : List ℕ) × (is_white_space gap ≡ true) × (s ≡ less_than ∷ slash ∷ name ++ gap ++ greater_than ∷ [])

-- the tag may be written so
abbrev pub IsTag : Tag → List ℕ → Type 0
IsTag tag s = (is_name tag.name ≡ true) × IsTagOf tag.kind tag.name s
