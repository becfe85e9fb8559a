-- Uncommitted blocks that are looked up one after another ("Put Block List" of the Blob service REST reference, 2012-02-12).
use Rattle.std.specs.Prelude.{◌≡◌, ℕ, List, ◌∷◌, Option, Some, None}
use Rattle.std.specs.FinMap as finite
use Rattle.std.specs.FinMap.{FinMap}
use Rattle.std.specs.List.{AllByRecursion}
use Rattle.std.specs.Map.Iter.{deref_pair}
use denote.Ref.{Bor}
use Rattle.stamp_values.specs.Order.{name_cmp}

-- the next block, if there is one, and the later blocks
abbrev pub from_next : {C : Type 0} → Option (Bor (List ℕ) × Bor C) → List (List ℕ × C) → List (List ℕ × C)
from_next None later = later
from_next (Some next) later = deref_pair next ∷ later

-- each of these blocks is in the map, under its id
abbrev pub AreBlocks : {C : Type 0} → FinMap name_cmp C → List (List ℕ × C) → Type 0
AreBlocks m es = AllByRecursion (λ e. finite.get m e.0 ≡ Some e.1) es
