-- How a list of key pairs is kept in parts, which longer lists share (the stamp's own).
use Rattle.std.specs.Prelude.{◌≡◌, ◌≤◌, ◌+◌, ◌*◌, ⊤, ℕ, List, [], ◌∷◌, ◌++◌, length}

-- the lists, one after the other
abbrev pub joined : {X : Type 0} → List (List X) → List X
joined [] = []
joined (xs ∷ rest) = xs ++ joined rest

-- each of the lists has 64 elements
abbrev pub AreFull : {X : Type 0} → List (List X) → Type 0
AreFull [] = ⊤
AreFull (xs ∷ rest) = (length xs ≡ 64) × AreFull rest

-- Parts of a list of so many elements: each older part has 64 of them. The newest part has at most 64, and it has one at least if there are
-- older parts
pub record HasParts {X : Type 0} (older : List (List X)) (newest : List X) (len : ℕ) : Type 0 where
  pub full : AreFull older
  pub bound : length newest ≤ 64
  pub begun : length newest ≡ 0 → older ≡ []
  pub count : len ≡ 64 * length older + length newest
