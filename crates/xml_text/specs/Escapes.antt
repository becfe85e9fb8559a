-- Texts that are written with references (Extensible Markup Language 1.0, sections 2.4 and 4.6).
use Rattle.std.specs.Prelude.{◌≡◌, ℕ, Bool, true, not, ◌&&◌, ◌==◌, if◌then◌else◌, List, ◌∷◌, ◌++◌, Some}
use Rattle.std.specs.List.{list_all, flat_map}
use Rattle.stamp_values.specs.Ascii.{ampersand}
use Rattle.xml_text.specs.Markup.{less_than, greater_than}
use Rattle.xml_text.specs.Tokens.{is_text}
use Rattle.xml_text.specs.Texts.{Piece, plain, amp, lt, gt, piece_bytes, IsText}
use Rattle.xml_text.specs.Reading.{text_at}
use Rattle.xml_text.specs.ElementReading.{unescaped}

-- the piece that writes a byte: a reference for `&`, `<` and `>`, and the byte itself otherwise
abbrev pub escaped_byte : ℕ → Piece
escaped_byte c =
    if c == ampersand then amp
    else if c == less_than then lt
    else if c == greater_than then gt
    else plain c

-- the byte is written as itself
abbrev pub is_written_as_itself : ℕ → Bool
is_written_as_itself c = not (c == ampersand) && not (c == less_than) && not (c == greater_than)

-- the text as it is written
unfoldable pub escaped : List ℕ → List ℕ
escaped s = flat_map (λ c. piece_bytes (escaped_byte c)) s

-- the bytes s are how the text t is written, and how no other text is written; `<` and `>` do not occur in s, and `&` begins references
-- only; a reader takes all of s up to the next tag, and its value is t
pub record IsReadBack (t s : List ℕ) : Type 0 where
  pub written : IsText t s
  pub of_no_other : (other : List ℕ) → IsText other s → other ≡ t
  pub no_bare_reference : is_text s ≡ true
  pub no_greater_than : list_all (λ c. not (c == greater_than)) s ≡ true
  pub taken : (rest : List ℕ) → text_at (s ++ less_than ∷ rest) ≡ Some (s, less_than ∷ rest)
  pub value : unescaped 0 s ≡ t
