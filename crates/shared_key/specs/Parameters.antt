-- Parameters in order, written so that neighbours with the same name share a line (Blob service REST reference,
-- 2012-02-12, Authentication for the Azure Storage Services).
use Rattle.std.specs.Prelude.{ℕ, List, [], ◌∷◌, ◌++◌, Option, Some, None, bytes_eq, if◌then◌else◌, map}
use Rattle.std.specs.Ordering.{ordering_then}
use Rattle.std.specs.declared.cmp.Ordering.{Ordering}
use Rattle.stamp_values.specs.Ascii.{line_feed, comma, colon}
use Rattle.stamp_values.specs.Order.{name_cmp}
use Rattle.shared_key.specs.Strings.{Pair}
use Rattle.shared_key.specs.declared.query.Parameter.{Parameter}

-- the name and the value of a parameter
abbrev pub pair_of : Parameter → Pair
pair_of p = (p.name.now, p.value.now)

-- the names and the values of parameters
abbrev pub pairs_of : List Parameter → List Pair
pairs_of ps = map pair_of ps

-- the order of pairs: by the bytes of the name, and then by the bytes of the value
abbrev pub pair_cmp : Pair → Pair → Ordering
pair_cmp p q = ordering_then (name_cmp p.0 q.0) (name_cmp p.1 q.1)

-- what comes before a value: a comma if the pair before it has the same name, and else a new line with the name
abbrev pub text_before_value : Option (List ℕ) → List ℕ → List ℕ
text_before_value None name = line_feed ∷ name ++ colon ∷ []
text_before_value (Some before) name =
    if bytes_eq name before then comma ∷ [] else line_feed ∷ name ++ colon ∷ []

-- the text of the pairs; `before` is the name of the pair before them, if there is one
abbrev pub pairs_text : Option (List ℕ) → List Pair → List ℕ
pairs_text before [] = []
pairs_text before (p ∷ ps) = text_before_value before p.0 ++ p.1 ++ pairs_text (Some p.0) ps
