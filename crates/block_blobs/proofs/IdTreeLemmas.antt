-- What a tree by ids of blocks does, said of the map by ids that it holds. In each lemma t is the tree before, m the map that it
-- holds, and u the tree after.
use Rattle.std.proofs.Common.{◌≡◌, ℕ, List, [], ◌∷◌, length, map, Option, Some, BTreeMap, refl, ◌∙◌, ap, sym, subst}
use Rattle.std.specs.Prelude.{IsSome}
use Rattle.std.specs.BTreeMap.{get_by, IsOrdered, UpdatesBy, WritesThrough}
use Rattle.std.specs.FinMap.{FinMap, insert, get, entries}
use Rattle.stamp_values.specs.Order.{name_cmp, names_total, names_exact}
use Rattle.stamp_values.specs.Trees.{entry_key}
use Rattle.stamp_values.proofs.TreeMaps.{get-held, tree_map-insert, entries-tree_map, length-entries}
use Rattle.block_blobs.specs.IdTrees.{id_map}

same_entries : {X : Type 0} (es : List (List ℕ × X)) → map (entry_key (λ (id : List ℕ). id)) es ≡ es
same_entries [] = refl
same_entries (e ∷ es) = ap (λ es. e ∷ es) (same_entries es)

module _ {X : Type 0} (m : FinMap name_cmp X) (t : BTreeMap (List ℕ) X) where
  -- a look-up by an id
  pub found : (id : List ℕ) (v : Option X) → id_map t ≡ m → v ≡ get_by (name_cmp id) t → v ≡ get m id
  found id v = get-held names_total (λ id. id) m t id v

  -- a value that was put under an id
  pub inserted : (u : BTreeMap (List ℕ) X) (id : List ℕ) (v : X) → id_map t ≡ m → UpdatesBy name_cmp (name_cmp id) t u (Some v) → id_map u ≡ insert m id v
  inserted u id v = tree_map-insert names_total (λ id. id) names_exact m t u id v

  -- a value that was written in the place of the value of an id
  pub written : (u : BTreeMap (List ℕ) X) (id : List ℕ) (v w : X) → id_map t ≡ m → get_by (name_cmp id) t ≡ Some v → WritesThrough name_cmp (name_cmp id) t w u → id_map u ≡ insert m id w
  written u id v w holds has put = inserted u id w holds (put.3 (subst IsSome (sym has) refl))

  -- the entries in their order
  pub listed : (es : List (List ℕ × X)) → id_map t ≡ m → IsOrdered name_cmp t → es ≡ t.entries → es ≡ entries m
  listed es holds up is = is ∙ sym (same_entries t.entries) ∙ entries-tree_map names_total (λ id. id) names_exact m t holds up

  -- the number of entries
  pub counted : (n : ℕ) → id_map t ≡ m → IsOrdered name_cmp t → n ≡ length t.entries → n ≡ length (entries m)
  counted n holds up is = is ∙ length-entries names_total (λ id. id) names_exact m t holds up
