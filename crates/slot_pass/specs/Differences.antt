-- Where two lists differ (the stamp's own).
use Rattle.std.specs.Prelude.{◌≡◌, ◌≢◌, ℕ, ◌<◌, List, length, take, slice_get}

-- The list is not a beginning of the other list, and this is the first position where it is not: the list has an element at this position, the
-- other list has another element there or has none, and before this position both are the same
pub record DiffersAt {X : Type 0} (list other : List X) (place : ℕ) : Type 0 where
  pub below : place < length list
  pub same : take place list ≡ take place other
  pub differs : slice_get other place ≢ slice_get list place

-- both lists have an element at this position, these two differ, and before this position the lists are the same
pub record PartsAt {X : Type 0} (xs ys : List X) (place : ℕ) : Type 0 where
  pub below : place < length xs
  pub under : place < length ys
  pub same : take place xs ≡ take place ys
  pub differs : slice_get ys place ≢ slice_get xs place
