-- Bounds from which a walk over names goes on (Blob service REST reference, 2012-02-12, "List Blobs").
use Rattle.std.specs.Prelude.{ℕ, Bool, List, [], ◌∷◌, cond, length, nat_lt, true, Option, None, Some, ◌+◌}
use Rattle.stamp_values.specs.Trees.{is_name_from}
use Rattle.list_pages.specs.Names.{begins_with}

-- the group with its last byte raised by one: what is at or past this bound is past each name of the group
abbrev pub raised : List ℕ → List ℕ
raised [] = []
raised (x ∷ []) = (x + 1) ∷ []
raised (x ∷ y ∷ xs) = x ∷ raised (y ∷ xs)

-- the last byte can be raised. No text in UTF-8 has the byte 255
abbrev pub can_be_raised : List ℕ → Bool
can_be_raised [] = true
can_be_raised (x ∷ []) = nat_lt x 255
can_be_raised (x ∷ y ∷ xs) = can_be_raised (y ∷ xs)

-- the later of two bounds
abbrev pub later_of : List ℕ → List ℕ → List ℕ
later_of a b = cond (is_name_from a b) b a

-- where the first delimiter ends, if the text is read from a place on
abbrev pub cut_from : ℕ → List ℕ → List ℕ → Option ℕ
cut_from at delimiter [] = None
cut_from at delimiter (x ∷ text) = cond (begins_with (x ∷ text) delimiter) (Some (at + length delimiter)) (cut_from (at + 1) delimiter text)
