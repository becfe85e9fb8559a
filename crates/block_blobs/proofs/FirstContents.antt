-- Committed blocks by their ids: what the index of them has, and what a look-up in it finds.
use Rattle.std.proofs.Common.{◌≡◌, ℕ, true, false, cond, List, [], ◌∷◌, ◌++◌, map, length, get_or, drop, suc, ◌-◌, ◌<◌, ◌≤◌, Option, Some, None, refl, sym, ap, ◌∙◌, arith}
use Rattle.std.specs.Prelude.{find, flat_map, nat_eq, unwrap_or}
use Rattle.std.specs.Option.{option_map, option_and_then, option_to_list}
use Rattle.std.specs.BTreeMap.{insert_entry, is_at}
use Rattle.std.specs.Map.{lookup}
use Rattle.std.specs.Map.Iter.{deref_pair}
use Rattle.std.specs.Cmp.Lexicographic.{slice_cmp, pointwise, texts_ties}
use Rattle.std.specs.FinMap as finite
use Rattle.std.specs.FinMap.{entries, entries-insert, from_entries, get-entries, get-from_entries, len-empty, len-entries}
use Rattle.std.specs.FinMap.Entries.{by_order, put}
use Rattle.std.specs.Ordering.{is_eq, nat_cmp, match_ordering}
use Rattle.std.specs.declared.cmp.Ordering.TheVariants.{Less, Equal, Greater}
use Rattle.std.proofs.Math.Seq.{drop-cons, drop-length}
use Rattle.std.proofs.lemmas.List.{nil_from_length}
use denote.Ref.{Bor}
use Rattle.stamp_values.specs.Order.{name_cmp, names_total}
use Rattle.stamp_types.specs.declared.committed.Block.{Block}
use Rattle.stamp_types.specs.declared.committed.Committed.{Committed}
use Rattle.stamp_types.specs.World.{committed_content, has_block_id}
use Rattle.block_blobs.specs.FirstBlocks.{IsIndex, blocks_of, entries_with, first_contents, id_entries}

-- what a tree of references has after an insertion, read
pub read_insert : {X : Type 0} (es : List (Bor (List ℕ) × Bor X)) (k : Bor (List ℕ)) (v : Bor X)
    → map deref_pair (insert_entry (λ x y. slice_cmp nat_cmp x.now y.now) es k v) ≡ put name_cmp k.now v.now (map deref_pair es)
read_insert [] k v = refl
read_insert (e ∷ es) k v =
    elim (slice_cmp nat_cmp k.now e.0.now) as (λ r. map deref_pair (match_ordering r ((k, v) ∷ e ∷ es) ((e.0, v) ∷ es) (e ∷ insert_entry (λ x y. slice_cmp nat_cmp x.now y.now) es k v))
    ≡ by_order r ((k.now, v.now) ∷ deref_pair e ∷ map deref_pair es) ((e.0.now, v.now) ∷ map deref_pair es) (deref_pair e ∷ put name_cmp k.now v.now (map deref_pair es))) [
      | Less ↦ refl
      | Equal ↦ refl
      | Greater ↦ ap (λ r. deref_pair e ∷ r) (read_insert es k v)
    ]

-- what a look-up in a tree of references finds, read
pub read_lookup : {X : Type 0} (es : List (Bor (List ℕ) × Bor X)) (q : List ℕ)
    → option_map (λ v. v.now) (lookup (is_at (λ k. slice_cmp nat_cmp q k.now)) es) ≡ finite.find name_cmp q (map deref_pair es)
read_lookup [] q = refl
read_lookup (e ∷ es) q =
    elim (slice_cmp nat_cmp q e.0.now) as (λ r. option_map (λ v. v.now) (cond (is_eq r) (Some e.1) (lookup (is_at (λ k. slice_cmp nat_cmp q k.now)) es))
    ≡ cond (is_eq r) (Some e.1.now) (finite.find name_cmp q (map deref_pair es))) [
      | Less ↦ read_lookup es q
      | Equal ↦ refl
      | Greater ↦ read_lookup es q
    ]

module _ {C : Type 0} where
  -- the entries of blocks, with one more block, which has an id, before them
  pub first_contents-id : (b : Block C) (bs : List (Block C)) (id : List ℕ) → b.id ≡ Some id
      → entries (first_contents (b ∷ bs)) ≡ put name_cmp id b.content (entries (first_contents bs))
  first_contents-id b bs id is =
      ap (λ (o : Option (List ℕ)). entries (from_entries {R = name_cmp} (option_to_list (option_map (λ id. (id, b.content)) o) ++ flat_map id_entries bs))) is
      ∙ entries-insert names_total (first_contents bs) id b.content

  -- the entries of blocks, with one more block, which has no id, before them
  pub first_contents-whole : (b : Block C) (bs : List (Block C)) → b.id ≡ None → entries (first_contents (b ∷ bs)) ≡ entries (first_contents bs)
  first_contents-whole b bs is =
      ap (λ (o : Option (List ℕ)). entries (from_entries {R = name_cmp} (option_to_list (option_map (λ id. (id, b.content)) o) ++ flat_map id_entries bs))) is

  found_first : (o : Option (List ℕ)) (q : List ℕ) (b : Block C) (bs : List (Block C))
      → finite.find name_cmp q (flat_map id_entries bs) ≡ option_map (λ block. block.content) (find (has_block_id q) bs)
      → finite.find name_cmp q (option_to_list (option_map (λ id. (id, b.content)) o) ++ flat_map id_entries bs)
      ≡ option_map (λ block. block.content) (cond (unwrap_or (option_map (λ other. pointwise nat_eq q other) o) false) (Some b) (find (has_block_id q) bs))
  found_first None q b bs rest = rest
  found_first (Some id) q b bs rest =
      ap (λ t. cond t (Some b.content) (finite.find name_cmp q (flat_map id_entries bs))) (sym (texts_ties q id))
      ∙ elim (pointwise nat_eq q id) as (λ t. cond t (Some b.content) (finite.find name_cmp q (flat_map id_entries bs)) ≡ option_map (λ block. block.content) (cond t (Some b) (find (has_block_id q) bs))) [
        | true ↦ refl
        | false ↦ rest
      ]

  -- a look-up among the ids of blocks finds the content of the first block of the id
  find-id_entries : (bs : List (Block C)) (q : List ℕ) → finite.find name_cmp q (flat_map id_entries bs) ≡ option_map (λ block. block.content) (find (has_block_id q) bs)
  find-id_entries [] q = refl
  find-id_entries (b ∷ bs) q = found_first b.id q b bs (find-id_entries bs q)

  -- a look-up among the blocks of a committed part is a look-up in the committed part
  pub in_blocks : (o : Option (Committed C)) (q : List ℕ) → option_map (λ block. block.content) (find (has_block_id q) (blocks_of o)) ≡ option_and_then (committed_content q) o
  in_blocks None q = refl
  in_blocks (Some c) q = refl

-- a look-up in the index of blocks finds the content of the first block of the id
pub find_first : {C : Type 0} (bs : List (Block C)) (es : List (List ℕ × C)) (q : List ℕ) → IsIndex bs es
    → finite.find name_cmp q es ≡ option_map (λ block. block.content) (find (has_block_id q) bs)
find_first bs es q index =
    ap (finite.find name_cmp q) index ∙ sym (get-entries (first_contents bs) q)
    ∙ get-from_entries names_total (flat_map id_entries bs) q ∙ find-id_entries bs q

module _ {C : Type 0} where
  no_contents : entries (finite.empty {X = C} {R = name_cmp}) ≡ []
  no_contents = nil_from_length _ (sym (len-entries _) ∙ len-empty name_cmp C)

  -- before a block is inserted, no block is left out of the tree
  pub nothing_held : (bs : List (Block C)) (es : List (Bor (List ℕ) × Bor C)) → es ≡ [] → map deref_pair es ≡ entries (first_contents (drop (length bs) bs))
  nothing_held bs es is = ap (map deref_pair) is ∙ sym no_contents ∙ ap (λ (bs : List (Block C)). entries (first_contents bs)) (sym (drop-length bs))

  next_left : (bs : List (Block C)) (left : ℕ) (b : Block C) → 0 < left → left ≤ length bs → b ≡ get_or bs (left - 1) b → drop (left - 1) bs ≡ b ∷ drop left bs
  next_left bs left b some within is =
      let more : suc (left - 1) ≡ left = omega arith in
      drop-cons bs (left - 1) b (omega arith) ∙ (λ i. sym is i ∷ drop (more i) bs)

  entries_with-first_contents : (b : Block C) (bs : List (Block C)) (o : Option (List ℕ)) → b.id ≡ o → entries (first_contents (b ∷ bs)) ≡ entries_with o b.content (entries (first_contents bs))
  entries_with-first_contents b bs None is = first_contents-whole b bs is
  entries_with-first_contents b bs (Some id) is = first_contents-id b bs id is

  -- one more block, from the end
  pub held_more : (bs : List (Block C)) (left : ℕ) (b : Block C) (es later : List (List ℕ × C))
      → 0 < left → left ≤ length bs → b ≡ get_or bs (left - 1) b → later ≡ entries_with b.id b.content es
      → es ≡ entries (first_contents (drop left bs)) → later ≡ entries (first_contents (drop (left - 1) bs))
  held_more bs left b es later some within is put held =
      put ∙ ap (entries_with b.id b.content) held ∙ sym (entries_with-first_contents b (drop left bs) b.id refl)
      ∙ ap (λ (bs : List (Block C)). entries (first_contents bs)) (sym (next_left bs left b some within is))
