-- Look-ups in a container and in a world: after content is read by a function, and after a change.
use Rattle.std.proofs.Common.{◌≡◌, ℕ, List, [], ◌∷◌, ◌++◌, Option, Some, None, refl, sym, ap, ◌∙◌, map, unwrap_or}
use Rattle.std.specs.Prelude.{find, cond, Bool, true, false}
use Rattle.std.specs.Ordering.{eq_by_cmp, is_eq}
use Rattle.std.specs.Cmp.{eq_by_cmp_equiv}
use Rattle.std.specs.declared.cmp.Ordering.{Ordering}
use Rattle.std.specs.declared.cmp.Ordering.TheVariants.{Less, Equal, Greater}
use Rattle.std.specs.Option.{option_map, option_and_then, option_to_list}
use Rattle.std.specs.FinMap as finite
use Rattle.stamp_values.specs.Order.{names_total, names_exact, key_cmp, keys_total, keys_exact}
use Rattle.stamp_types.specs.World.{Blob, Part, World, no_blob, no_part, blob_in, part_at, block_value, committed_value, blob_value, part_value, world_value, taken_blocks, content_from, committed_content, has_block_id, block_of, changed, changed_in}
use Rattle.stamp_types.specs.Changes.{KeyedAct}
use Rattle.stamp_values.specs.declared.key.Key.{Key}
use Rattle.stamp_values.specs.declared.block.Taken.{Taken}
use Rattle.stamp_values.specs.declared.block.BlockSource.{BlockSource}
use Rattle.stamp_values.specs.declared.block.BlockSource.TheVariants as source
use Rattle.stamp_types.specs.declared.piece.Piece.{Piece}
use Rattle.stamp_types.specs.declared.committed.Block.{Block}
use Rattle.stamp_types.specs.declared.committed.Committed.{Committed}
use Rattle.stamp_values.proofs.MapsLemmas.{get-map_values, map_values-empty}

-- ---- readings

pub map-append : {X Y : Type 0} (f : X → Y) (xs ys : List X) → map f (xs ++ ys) ≡ map f xs ++ map f ys
map-append f [] ys = refl
map-append f (x ∷ xs) ys = ap (λ zs. f x ∷ zs) (map-append f xs ys)

unwrap_or-map : {X Y : Type 0} (g : X → Y) (o : Option X) (x : X) (y : Y) → g x ≡ y → unwrap_or (option_map g o) y ≡ g (unwrap_or o x)
unwrap_or-map g None x y e = sym e
unwrap_or-map g (Some z) x y e = refl

module _ {C D : Type 0} (f : C → D) where
  pub blob_value-no_blob : blob_value f no_blob ≡ no_blob
  blob_value-no_blob = λ i. record { committed = None; uncommitted = map_values-empty names_total names_exact f i }

  pub part_value-no_part : part_value f no_part ≡ no_part
  part_value-no_part = λ i. record { count = 0; standing = None; blobs = map_values-empty names_total names_exact (blob_value f) i }

  pub blob_in-part_value : (p : Part C) (name : List ℕ) → blob_in (part_value f p) name ≡ blob_value f (blob_in p name)
  blob_in-part_value p name =
      ap (λ o. unwrap_or o no_blob) (get-map_values names_total (blob_value f) p.blobs name)
      ∙ unwrap_or-map (blob_value f) (finite.get p.blobs name) no_blob no_blob blob_value-no_blob

  pub part_at-world_value : (w : World C) (k : Key) → part_at (world_value f w) k ≡ part_value f (part_at w k)
  part_at-world_value w k =
      ap (λ o. unwrap_or o no_part) (get-map_values keys_total (part_value f) w k)
      ∙ unwrap_or-map (part_value f) (finite.get w k) no_part no_part part_value-no_part

  found_block : (id : List ℕ) (bs : List (Block C)) → option_map (λ block. block.content) (find (has_block_id id) (map (block_value f) bs)) ≡ option_map f (option_map (λ block. block.content) (find (has_block_id id) bs))
  found_block id [] = refl
  found_block id (b ∷ bs) = elim (has_block_id id b) as (λ t. option_map (λ (block : Block D). block.content) (cond t (Some (block_value f b)) (find (has_block_id id) (map (block_value f) bs))) ≡ option_map f (option_map (λ (block : Block C). block.content) (cond t (Some b) (find (has_block_id id) bs)))) [
    | true ↦ refl
    | false ↦ found_block id bs
  ]

  content_in : (id : List ℕ) (o : Option (Committed C)) → option_and_then (committed_content id) (option_map (committed_value f) o) ≡ option_map f (option_and_then (committed_content id) o)
  content_in id None = refl
  content_in id (Some c) = found_block id c.blocks

  content_from-blob_value : (s : BlockSource) (id : List ℕ) (b : Blob C) → content_from s id (blob_value f b) ≡ option_map f (content_from s id b)
  content_from-blob_value source.Uncommitted id b = get-map_values names_total f b.uncommitted id
  content_from-blob_value source.Committed id b = content_in id b.committed

  one_block : (id : List ℕ) (o : Option C) → option_to_list (option_map (block_of id) (option_map f o)) ≡ map (block_value f) (option_to_list (option_map (block_of id) o))
  one_block id None = refl
  one_block id (Some c) = refl

  pub taken_blocks-blob_value : (b : Blob C) (es : List Taken) → taken_blocks (blob_value f b) es ≡ map (block_value f) (taken_blocks b es)
  taken_blocks-blob_value b [] = refl
  taken_blocks-blob_value b (e ∷ es) =
      (λ i. option_to_list (option_map (block_of e.id) (content_from-blob_value e.from e.id b i)) ++ taken_blocks-blob_value b es i)
      ∙ ap (λ front. front ++ map (block_value f) (taken_blocks b es)) (one_block e.id (content_from e.from e.id b))
      ∙ sym (map-append (block_value f) (option_to_list (option_map (block_of e.id) (content_from e.from e.id b))) (taken_blocks b es))

-- ---- what a change does to the container that it names, and to other containers

pub equal_if_is_eq : (o : Ordering) → is_eq o ≡ true → o ≡ Equal
equal_if_is_eq Less h = cc
equal_if_is_eq Equal h = refl
equal_if_is_eq Greater h = cc

chosen : {X : Type 0} (b : Bool) (x : X) (o : Option X) (d : X) → b ≡ true → unwrap_or (cond b (Some x) o) d ≡ x
chosen true x o d h = refl
chosen false x o d h = cc

passed : {X : Type 0} (b : Bool) (x : X) (o : Option X) → (b ≡ true → ⊥) → cond b (Some x) o ≡ o
passed true x o h = absurd (h refl)
passed false x o h = refl

pub part_at-changed_in : {C : Type 0} (f : List Piece → C) (w : World C) (c : KeyedAct) → part_at (changed_in f w c) c.key ≡ changed f c.act (part_at w c.key)
part_at-changed_in f w c =
    ap (λ o. unwrap_or o no_part) (finite.get-insert keys_total w c.key (changed f c.act (part_at w c.key)) c.key)
    ∙ chosen (eq_by_cmp key_cmp c.key c.key) (changed f c.act (part_at w c.key)) (finite.get w c.key) no_part ((eq_by_cmp_equiv keys_total).refl c.key)

pub part_at-changed_in_others : {C : Type 0} (f : List Piece → C) (w : World C) (c : KeyedAct) (k : Key) → (k ≡ c.key → ⊥) → part_at (changed_in f w c) k ≡ part_at w k
part_at-changed_in_others f w c k other =
    ap (λ o. unwrap_or o no_part)
    (finite.get-insert keys_total w c.key (changed f c.act (part_at w c.key)) k
    ∙ passed (eq_by_cmp key_cmp k c.key) (changed f c.act (part_at w c.key)) (finite.get w k) (λ h. other (keys_exact k c.key (equal_if_is_eq (key_cmp k c.key) h))))
