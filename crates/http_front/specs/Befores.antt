-- A list with one value.
use Rattle.std.specs.Prelude.{◌≡◌, List, [], ◌∷◌, length}

-- the value of a list that has one
unfoldable pub only_one : {A : Type 0} → (xs : List A) → length xs ≡ 1 → A
only_one [] one = absurd (cc (one))
only_one (x ∷ xs) one = x
