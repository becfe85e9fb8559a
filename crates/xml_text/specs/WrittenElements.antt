-- Tags and elements as they are written (Extensible Markup Language 1.0, sections 2.8 and 3.1).
use Rattle.std.specs.Prelude.{ℕ, List, [], ◌++◌, Option, Some, None, codes}
use Rattle.xml_text.specs.Escapes.{escaped}

-- the prolog of a body that is written
unfoldable pub prolog_text : List ℕ
prolog_text = codes "<?xml version=\"1.0\" encoding=\"utf-8\"?>"

-- the opening tag of this name as it is written
unfoldable pub opening_text : List ℕ → List ℕ
opening_text name = codes "<" ++ name ++ codes ">"

-- the closing tag of this name as it is written
unfoldable pub closing_text : List ℕ → List ℕ
closing_text name = codes "</" ++ name ++ codes ">"

-- an element of this name with this text alone, as it is written
unfoldable pub element_text : List ℕ → List ℕ → List ℕ
element_text name t = opening_text name ++ escaped t ++ closing_text name

-- the same if there is a text, and nothing otherwise
abbrev pub given_text : List ℕ → Option (List ℕ) → List ℕ
given_text name None = []
given_text name (Some t) = element_text name t

-- an element of this name with these bytes in it, as they are
unfoldable pub filled_text : List ℕ → List ℕ → List ℕ
filled_text name inner = opening_text name ++ inner ++ closing_text name
