-- Names, and their groups by a delimiter (Blob service REST reference, 2012-02-12, "List Blobs").
use Rattle.std.specs.Prelude.{ℕ, Bool, List, [], ◌∷◌, ◌++◌, cond, drop, length, nat_eq, Option, None, Some}
use Rattle.std.specs.List.{starts_with}
use Rattle.std.specs.Option.{option_map}

-- a text begins with a prefix
abbrev pub begins_with : List ℕ → List ℕ → Bool
begins_with text prefix = starts_with nat_eq text prefix

-- the text up to and including the first delimiter, if the text has a delimiter. The empty text is not a delimiter
abbrev pub cut_after : List ℕ → List ℕ → Option (List ℕ)
cut_after [] text = None
cut_after (b ∷ delimiter) [] = None
cut_after (b ∷ delimiter) (x ∷ text) = cond (begins_with (x ∷ text) (b ∷ delimiter)) (Some (b ∷ delimiter)) (option_map (λ cut. x ∷ cut) (cut_after (b ∷ delimiter) text))

-- the group of a name that begins with the prefix: the name up to and including the first delimiter after the prefix
abbrev pub group_of : List ℕ → List ℕ → List ℕ → Option (List ℕ)
group_of prefix delimiter name = option_map (λ cut. prefix ++ cut) (cut_after delimiter (drop (length prefix) name))
