-- Written elements as the tokens that a reader is to find in them (Extensible Markup Language 1.0, section 3.1).
use Rattle.std.specs.Prelude.{◌≡◌, ℕ, true, List, [], ◌∷◌, ◌++◌, Option, Some, None}
use Rattle.stamp_values.specs.Texts.{is_clean, is_utf8}
use Rattle.xml_text.specs.Texts.{Token, text}
use Rattle.xml_text.specs.Elements.{opening, closing}

-- the text as a token; a text without bytes is not a token
abbrev pub text_tokens : List ℕ → List Token
text_tokens [] = []
text_tokens (c ∷ cs) = text (c ∷ cs) ∷ []

-- an element of this name with these tokens in it
abbrev pub element_tokens : List ℕ → List Token → List Token
element_tokens name inside = opening name ∷ (inside ++ closing name ∷ [])

-- an element of this name with this text alone
abbrev pub field_tokens : List ℕ → List ℕ → List Token
field_tokens name t = element_tokens name (text_tokens t)

-- the same if there is a text, and nothing otherwise
abbrev pub given_tokens : List ℕ → Option (List ℕ) → List Token
given_tokens name None = []
given_tokens name (Some t) = field_tokens name t

-- the text is UTF-8 and has no control character
abbrev pub IsCleanText : List ℕ → Type 0
IsCleanText t = (is_utf8 t ≡ true) × (is_clean t ≡ true)
