-- The finite map that a tree by ids of blocks holds ("Put Block" of the Blob service REST reference, 2012-02-12).
use Rattle.std.specs.Prelude.{ℕ, List}
use Rattle.std.specs.BTreeMap.{BTreeMap}
use Rattle.std.specs.FinMap.{FinMap}
use Rattle.stamp_values.specs.Order.{name_cmp}
use Rattle.stamp_values.specs.Trees.{tree_map}

-- the map that a tree by ids holds
abbrev pub id_map : {X : Type 0} → BTreeMap (List ℕ) X → FinMap name_cmp X
id_map t = tree_map (λ id. id) t
