-- The reading of a body as a function: what comes before the root, and then the root.
use Rattle.std.specs.Prelude.{ℕ, ◌&&◌, ◌==◌, if◌then◌else◌, List, [], ◌∷◌, take, drop, slice_index, codes, bytes_eq, Option, Some, None, option_and_then}
use Rattle.stamp_values.specs.Ascii.{question_mark}
use Rattle.stamp_values.specs.Texts.{is_utf8}
use Rattle.xml_text.specs.Markup.{greater_than, is_white}
use Rattle.xml_text.specs.Bodies.{are_controls_white, byte_order_mark}

-- the text after the byte order mark, if the text begins with it
abbrev pub after_mark : List ℕ → List ℕ
after_mark t = if bytes_eq (take 3 t) byte_order_mark then drop 3 t else t

-- the text after the first `?>`
unfoldable pub after_end : List ℕ → Option (List ℕ)
after_end [] = None
after_end (c ∷ cs) = if c == question_mark && slice_index cs 0 == greater_than then Some (drop 1 cs) else after_end cs

-- the text after the prolog, from what follows `<?xml`
abbrev pub prolog_end : List ℕ → Option (List ℕ)
prolog_end [] = None
prolog_end (c ∷ cs) =
    if c == question_mark && slice_index cs 0 == greater_than then Some (drop 1 cs)
    else if is_white c then after_end cs
    else None

-- the text after the prolog, if the text begins with a prolog
abbrev pub after_prolog : List ℕ → Option (List ℕ)
after_prolog t = if bytes_eq (take 5 t) (codes "<?xml") then prolog_end (drop 5 t) else Some t

-- what a body says by this reading of its root
abbrev pub body_of : {A : Type 0} → (List ℕ → Option A) → List ℕ → Option A
body_of root body =
    if is_utf8 body && are_controls_white body then option_and_then root (after_prolog (after_mark body)) else None
