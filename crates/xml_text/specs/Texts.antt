-- The texts between tags, and tags and texts in a row (Extensible Markup Language 1.0, sections 2.4 and 4.6).
use Rattle.std.specs.Prelude.{◌≡◌, ℕ, Bool, true, not, ◌&&◌, ◌==◌, List, [], ◌∷◌, ◌++◌, map, codes}
use Rattle.std.specs.List.{list_all, flat_map}
use Rattle.stamp_values.specs.Ascii.{ampersand, quote}
use Rattle.xml_text.specs.Markup.{less_than, greater_than, apostrophe}
use Rattle.xml_text.specs.Tokens.{Tag, IsTag}

-- a byte of a text, as it is written: the byte itself, or one of the five references
pub data Piece : Type 0 where
  plain : ℕ → Piece
  amp : Piece
  lt : Piece
  gt : Piece
  quot : Piece
  apos : Piece

-- the byte that a piece writes
abbrev pub piece_value : Piece → ℕ
piece_value (plain c) = c
piece_value amp = ampersand
piece_value lt = less_than
piece_value gt = greater_than
piece_value quot = quote
piece_value apos = apostrophe

-- how a piece is written
abbrev pub piece_bytes : Piece → List ℕ
piece_bytes (plain c) = c ∷ []
piece_bytes amp = codes "&amp;"
piece_bytes lt = codes "&lt;"
piece_bytes gt = codes "&gt;"
piece_bytes quot = codes "&quot;"
piece_bytes apos = codes "&apos;"

-- `<` and `&` are written as references
abbrev pub is_piece : Piece → Bool
is_piece (plain c) = not (c == less_than) && not (c == ampersand)
is_piece amp = true
is_piece lt = true
is_piece gt = true
is_piece quot = true
is_piece apos = true

-- the text t may be written as s
abbrev pub IsText : List ℕ → List ℕ → Type 0
IsText t s =
    (pieces : List Piece) × (list_all is_piece pieces ≡ true) × (t ≡ map piece_value pieces) × (s ≡ flat_map piece_bytes pieces)

-- a tag, or a text by its value
pub data Token : Type 0 where
  tag : Tag → Token
  text : List ℕ → Token

-- the token may be written so
abbrev pub IsToken : Token → List ℕ → Type 0
IsToken (tag t) s = IsTag t s
IsToken (text t) s = IsText t s

-- the tokens may be written so, one after the other
abbrev pub AreTokens : List Token → List ℕ → Type 0
AreTokens [] s = s ≡ []
AreTokens (t ∷ ts) s = (front : List ℕ) × (back : List ℕ) × IsToken t front × AreTokens ts back × (s ≡ front ++ back)
