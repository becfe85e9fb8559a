-- What a tree by keys does, said of the map by keys that it holds. In each lemma t is the tree before, m the map that it holds, and u
-- the tree after.
use Rattle.std.proofs.Common.{◌≡◌, ◌&&◌, true, filter, List, map, Option, Some, None, BTreeMap, ◌∙◌, ap, sym}
use Rattle.std.specs.BTreeMap.{get_by, IsOrdered, IsUnchanged, Updates}
use Rattle.std.specs.BTreeMap.Range.{entries_below, entries_from}
use Rattle.std.specs.FinMap.{FinMap, from_entries, insert, remove, get, entries, retain_keys}
use Rattle.stamp_values.specs.Order.{key_cmp, keys_total, keys_exact}
use Rattle.stamp_values.specs.Trees.{entry_key, is_below, is_from, keyed_map, own_key}
use Rattle.stamp_values.specs.declared.key.Key.{Key}
use Rattle.stamp_values.proofs.TreeMaps.{get-held, tree_map-insert, tree_map-remove, tree_map-where, entries-from, entries-tree_map}

module _ {X : Type 0} (m : FinMap key_cmp X) (t : BTreeMap Key X) where
  -- a look-up by a key
  pub found_keyed : (key : Key) (v : Option X) → keyed_map t ≡ m → v ≡ get_by (key_cmp key) t → v ≡ get m key
  found_keyed key v = get-held keys_total own_key m t key v

  -- a key without a value
  pub absent_keyed : (key : Key) → keyed_map t ≡ m → get_by (key_cmp key) t ≡ None → get m key ≡ None
  absent_keyed key holds absent = sym (found_keyed key None holds (sym absent))

  -- a value that was put under a key
  pub inserted_keyed : (u : BTreeMap Key X) (v : X) (key : Key) → keyed_map t ≡ m → Updates key_cmp t u key (Some v) → keyed_map u ≡ insert m key v
  inserted_keyed u v key = tree_map-insert keys_total own_key keys_exact m t u key v

  -- a key that was removed
  pub removed_keyed : (u : BTreeMap Key X) (key : Key) → keyed_map t ≡ m → Updates key_cmp t u key None → keyed_map u ≡ remove m key
  removed_keyed u key = tree_map-remove keys_total own_key keys_exact m t u key

  -- the entries in their order
  pub listed_keyed : (es : List (Key × X)) → keyed_map t ≡ m → IsOrdered key_cmp t → es ≡ t.entries → map (entry_key own_key) es ≡ entries m
  listed_keyed es holds up is = ap (λ es. map (entry_key own_key) es) is ∙ entries-tree_map keys_total own_key keys_exact m t holds up

  -- the entries from a bound on
  pub keyed_from : (es : List (Key × X)) (bound : Key) → keyed_map t ≡ m → IsOrdered key_cmp t
      → es ≡ filter (λ e. is_from bound e.0 && true) t.entries → map (entry_key own_key) es ≡ filter (λ e. is_from bound e.0) (entries m)
  keyed_from es bound = entries-from keys_total own_key keys_exact m t es (is_from bound)

  -- the entries whose keys come before a key
  pub kept_below : (u : BTreeMap Key X) (key : Key) → keyed_map t ≡ m → u.entries ≡ entries_below (key_cmp key) t.entries → keyed_map u ≡ retain_keys m (is_below key)
  kept_below u key = tree_map-where keys_total own_key keys_exact m t u (is_below key)

  -- the entries of a key and of the keys after it
  pub moved_from : (u : BTreeMap Key X) (key : Key) → keyed_map t ≡ m → u.entries ≡ entries_from (key_cmp key) t.entries → keyed_map u ≡ retain_keys m (is_from key)
  moved_from u key = tree_map-where keys_total own_key keys_exact m t u (is_from key)

  -- a tree that stayed as it was
  pub same_tree : (u : BTreeMap Key X) → keyed_map t ≡ m → IsUnchanged t u → keyed_map u ≡ m
  same_tree u holds same = ap (λ (es : List (Key × X)). from_entries {R = key_cmp} (map (entry_key own_key) es)) same ∙ holds
