-- A list that was made longer by what may come after it, and then loses what did not come (the stamp's own).
use Rattle.std.specs.Prelude.{◌≡◌, ◌≢◌, ◌⊎◌, ◌<◌, ℕ, List, [], ◌∷◌, ◌++◌, length, slice_get, Option, Some, None}

-- the list, and this element after it if there is one
abbrev pub with_last : {X : Type 0} → List X → Option X → List X
with_last xs None = xs
with_last xs (Some x) = xs ++ x ∷ []

-- the list is the first list, with the one element or the other after it, with both or with none
abbrev pub IsOneOf : {X : Type 0} → List X → Option X → Option X → List X → Type 0
IsOneOf xs one other ys = (ys ≡ xs) ⊎ ((ys ≡ with_last xs one) ⊎ ((ys ≡ with_last xs other) ⊎ (ys ≡ with_last (with_last xs one) other)))

-- this list of so many known elements, and up to two elements after these, can become the other list by leaving some of the two out
pub record CanBecome {X : Type 0} (known : ℕ) (all ys : List X) : Type 0 where
  pub first : List X
  pub one : Option X
  pub other : Option X
  pub all_is : all ≡ with_last (with_last first one) other
  pub known_is : known ≡ length first
  pub becomes : IsOneOf first one other ys

-- both lists have an element at this position, and these two differ
pub record IsOtherAt {X : Type 0} (xs ys : List X) (place : ℕ) : Type 0 where
  pub below : place < length xs
  pub under : place < length ys
  pub differs : slice_get ys place ≢ slice_get xs place

-- if both lists have an element at this position, it is the same element
abbrev pub AgreesAt : {X : Type 0} → List X → List X → ℕ → Type 0
AgreesAt xs ys place = place < length xs → place < length ys → slice_get ys place ≡ slice_get xs place
