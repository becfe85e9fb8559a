-- Lists in order (Blob service REST reference, 2012-02-12, Authentication for the Azure Storage Services:
-- "lexicographically").
use Rattle.std.specs.Prelude.{◌≡◌, cond, List, [], ◌∷◌}
use Rattle.std.specs.List.Sorted.{IsPermutation, IsSorted}
use Rattle.std.specs.Ordering.{is_lt}
use Rattle.std.specs.declared.cmp.Ordering.{Ordering}

-- the list with x put before its first member that is not before x
unfoldable pub inserted : {X : Type 0} → (X → X → Ordering) → X → List X → List X
inserted cmp x [] = x ∷ []
inserted cmp x (y ∷ ys) = cond (is_lt (cmp y x)) (y ∷ inserted cmp x ys) (x ∷ y ∷ ys)

-- the members of a list, put into order one after the other
unfoldable pub in_order : {X : Type 0} → (X → X → Ordering) → List X → List X
in_order cmp [] = []
in_order cmp (x ∷ xs) = inserted cmp x (in_order cmp xs)

-- ys has the members of xs and is sorted, and it is the only list with these members that is sorted
pub record IsArrangement {X : Type 0} (cmp : X → X → Ordering) (xs ys : List X) : Type 0 where
  pub same_members : IsPermutation xs ys
  pub sorted : IsSorted cmp ys
  pub only : (zs : List X) → IsPermutation xs zs → IsSorted cmp zs → zs ≡ ys
