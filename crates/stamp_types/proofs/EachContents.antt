-- What is so of each content in a container: how it follows, and how a change keeps it.
use Rattle.std.proofs.Common.{◌≡◌, ◌↔◌, ℕ, ◌+◌, get_or, subst, Bool, true, false, cond, List, [], ◌∷◌, All, Option, Some, None, IfSome, sym, map, unwrap_or}
use Rattle.std.specs.Prelude.{find}
use Rattle.std.specs.Option.{option_map, option_and_then, option_to_list}
use Rattle.std.specs.FinMap as finite
use Rattle.std.specs.FinMap.{FinMap}
use Rattle.std.specs.Ordering.{eq_by_cmp}
use Rattle.std.proofs.lemmas.List.Elements.{All-nil, All-cons, All-head, All-tail, All-append, All-weaker, All-map}
use Rattle.std.proofs.lemmas.Option.{IfSome_then}
use Rattle.stamp_values.specs.Order.{name_cmp, names_total, key_cmp, keys_total}
use Rattle.stamp_values.specs.declared.block.Taken.{Taken}
use Rattle.stamp_values.specs.declared.block.BlockSource.{BlockSource}
use Rattle.stamp_values.specs.declared.block.BlockSource.TheVariants as source
use Rattle.stamp_types.specs.World.{Blob, Part, World, no_blob, no_part, blob_in, part_at, block_value, committed_value, blob_value, part_value, has_block_id, block_of, committed_content, content_from, taken_blocks, with_committed, committed_with_metadata, uncommitted_entry, whole_block, blobs_after, changed, changed_in}
use Rattle.stamp_types.specs.Contents.{EachCommittedContent, EachBlobContent, EachContent, EachWorldContent, EachActContent}
use Rattle.stamp_types.specs.Changes.{KeyedAct, content_of}
use Rattle.stamp_types.specs.declared.piece.Piece.{Piece}
use Rattle.stamp_types.specs.declared.committed.Block.{Block}
use Rattle.stamp_types.specs.declared.committed.Committed.{Committed}
use Rattle.stamp_types.specs.declared.committed.UncommittedBlock.{UncommittedBlock}
use Rattle.stamp_types.specs.declared.act.SetMetadata.{SetMetadata}
use Rattle.stamp_types.specs.declared.act.Act.{Act}
use Rattle.stamp_types.specs.declared.act.Act.TheVariants as act
use Rattle.stamp_types.proofs.WorldLemmas.{blob_in-part_value}
use Rattle.stamp_values.proofs.MapsLemmas.{get-map_values}

-- ---- what is found in a list or in a map

-- what is so of both values that a choice may give is so of the one that it gives
of_choice : {X : Type 0} (P : Option X → Type 0) (b : Bool) (o q : Option X) → P o → P q → P (cond b o q)
of_choice P true o q first second = first
of_choice P false o q first second = second

-- what is so of each element is so of the one that is found
of_found : {X : Type 0} (P : X → Type 0) (test : X → Bool) (xs : List X) → All P xs → IfSome (find test xs) P
of_found P test [] each = tt
of_found P test (x ∷ xs) each = of_choice (λ o. IfSome o P) (test x) (Some x) (find test xs) (All-head P x xs each) (of_found P test xs (All-tail P x xs each))

-- what is so of a value once it is read is so of the value read
of_read : {X Y : Type 0} (P : Y → Type 0) (f : X → Y) (o : Option X) → IfSome o (λ x. P (f x)) → IfSome (option_map f o) P
of_read P f None is = tt
of_read P f (Some x) is = is

-- what is so of the value read is so of the value that was read
to_read : {X Y : Type 0} (P : Y → Type 0) (f : X → Y) (o : Option X) → IfSome (option_map f o) P → IfSome o (λ x. P (f x))
to_read P f None is = tt
to_read P f (Some x) is = is

module _ {C : Type 0} (P : C → Type 0) where
  -- a blob that never was has no content
  pub EachBlobContent-no_blob : EachBlobContent P no_blob
  EachBlobContent-no_blob = record { committed = tt; uncommitted = λ id. subst (λ o. IfSome o P) (sym (finite.get-empty name_cmp id)) tt }

  -- P holds of each content of the blobs in a map
  abbrev EachIn : FinMap name_cmp (Blob C) → Type 0
  EachIn blobs = (name : List ℕ) → EachBlobContent P (unwrap_or (finite.get blobs name) no_blob)

  -- P holds of each content of the blob that a look-up gives
  abbrev OfFound : Option (Blob C) → Type 0
  OfFound o = EachBlobContent P (unwrap_or o no_blob)

  -- no blobs
  each_empty : EachIn finite.empty
  each_empty = λ name. subst OfFound (sym (finite.get-empty name_cmp name)) EachBlobContent-no_blob

  -- one blob put
  each_inserted : (blobs : FinMap name_cmp (Blob C)) (name : List ℕ) (b : Blob C) → EachBlobContent P b → EachIn blobs → EachIn (finite.insert blobs name b)
  each_inserted blobs name b new old = λ other.
      subst OfFound (sym (finite.get-insert names_total blobs name b other)) (of_choice OfFound (eq_by_cmp name_cmp other name) (Some b) (finite.get blobs other) new (old other))

  -- one blob removed
  each_removed : (blobs : FinMap name_cmp (Blob C)) (name : List ℕ) → EachIn blobs → EachIn (finite.remove blobs name)
  each_removed blobs name old = λ other.
      subst OfFound (sym (finite.get-remove names_total blobs name other)) (of_choice OfFound (eq_by_cmp name_cmp other name) None (finite.get blobs other) EachBlobContent-no_blob (old other))

  -- a container without blobs has no content
  pub EachContent-empty : (p : Part C) → p.blobs ≡ finite.empty → EachContent P p
  EachContent-empty p none = subst EachIn (sym none) each_empty

  -- a container that never was has no content
  pub EachContent-no_part : EachContent P no_part
  EachContent-no_part = each_empty

  -- a world without containers has no content
  pub EachWorldContent-empty : EachWorldContent P finite.empty
  EachWorldContent-empty = λ key. subst (λ (o : Option (Part C)). EachContent P (unwrap_or o no_part)) (sym (finite.get-empty key_cmp key)) EachContent-no_part

  -- what is so of all content is so of each in a blob
  pub EachBlobContent-all : ((content : C) → P content) → (b : Blob C) → EachBlobContent P b
  EachBlobContent-all all b = record { committed = any_committed b.committed; uncommitted = λ id. any_found (finite.get b.uncommitted id) }
    where
      any_found : (o : Option C) → IfSome o P
      any_found None = tt
      any_found (Some content) = all content

      any_committed : (o : Option (Committed C)) → IfSome o (EachCommittedContent P)
      any_committed None = tt
      any_committed (Some c) = λ k d within. all (get_or c.blocks k d).content

  -- what is so of all content is so of each in a container
  pub EachContent-all : ((content : C) → P content) → (p : Part C) → EachContent P p
  EachContent-all all p = λ name. EachBlobContent-all all (blob_in p name)

  -- what follows for all content follows for each in a blob
  pub EachBlobContent-then : (Q : C → Type 0) → ((content : C) → P content → Q content) → (b : Blob C) → EachBlobContent P b → EachBlobContent Q b
  EachBlobContent-then Q then b each = record {
    committed = IfSome_then b.committed each.committed (λ c. All-weaker (λ (block : Block C). P block.content) (λ block. Q block.content) (λ block. then block.content) c.blocks);
    uncommitted = λ id. IfSome_then (finite.get b.uncommitted id) (each.uncommitted id) then;
  }

  -- what follows for all content follows for each in a container
  pub EachContent-then : (Q : C → Type 0) → ((content : C) → P content → Q content) → (p : Part C) → EachContent P p → EachContent Q p
  EachContent-then Q then p each = λ name. EachBlobContent-then Q then (blob_in p name) (each name)

  -- what follows for all content follows for each in a world
  pub EachWorldContent-then : (Q : C → Type 0) → ((content : C) → P content → Q content) → (w : World C) → EachWorldContent P w → EachWorldContent Q w
  EachWorldContent-then Q then w each = λ key. EachContent-then Q then (part_at w key) (each key)

  -- ---- what an act does to it

  -- one uncommitted block more
  each_uncommitted : (blocks : FinMap name_cmp C) (id : List ℕ) (content : C) → P content → ((other : List ℕ) → IfSome (finite.get blocks other) P) → (other : List ℕ) → IfSome (finite.get (finite.insert blocks id content) other) P
  each_uncommitted blocks id content new old = λ other.
      subst (λ o. IfSome o P) (sym (finite.get-insert names_total blocks id content other)) (of_choice (λ o. IfSome o P) (eq_by_cmp name_cmp other id) (Some content) (finite.get blocks other) new (old other))

  -- no uncommitted block
  none_uncommitted : (id : List ℕ) → IfSome (finite.get (finite.empty {X = C} {R = name_cmp}) id) P
  none_uncommitted id = subst (λ o. IfSome o P) (sym (finite.get-empty name_cmp id)) tt

  -- the content of the first committed block of an id
  each_committed : (o : Option (Committed C)) (id : List ℕ) → IfSome o (EachCommittedContent P) → IfSome (option_and_then (committed_content id) o) P
  each_committed None id each = tt
  each_committed (Some c) id each = of_read P (λ (block : Block C). block.content) _ (of_found (λ (block : Block C). P block.content) (has_block_id id) c.blocks each)

  -- the content that is found among the blocks that a block list says
  pub IfSome-content_from : (s : BlockSource) (id : List ℕ) (b : Blob C) → EachBlobContent P b → IfSome (content_from s id b) P
  IfSome-content_from source.Uncommitted id b each = each.uncommitted id
  IfSome-content_from source.Committed id b each = each_committed b.committed id each.committed

  -- a block for content that was found, and no block if no content was found
  each_block : (id : List ℕ) (o : Option C) → IfSome o P → All (λ (block : Block C). P block.content) (option_to_list (option_map (block_of id) o))
  each_block id None is = All-nil _
  each_block id (Some content) is = All-cons (λ (block : Block C). P block.content) (block_of id content) [] is (All-nil _)

  -- the blocks that a block list takes
  each_taken : (b : Blob C) → EachBlobContent P b → (entries : List Taken) → All (λ (block : Block C). P block.content) (taken_blocks b entries)
  each_taken b each [] = All-nil _
  each_taken b each (e ∷ es) =
      All-append (λ (block : Block C). P block.content) (option_to_list (option_map (block_of e.id) (content_from e.from e.id b))) (taken_blocks b es)
      (each_block e.id (content_from e.from e.id b) (IfSome-content_from e.from e.id b each)) (each_taken b each es)

  -- other metadata of a blob
  each_with_metadata : (n : ℕ) (a : SetMetadata) (p : Part C) (o : Option (Committed C)) → IfSome o (EachCommittedContent P) → EachContent P p → EachIn (with_committed p a.blob (option_map (committed_with_metadata n a) o))
  each_with_metadata n a p None each old = old
  each_with_metadata n a p (Some c) each old = each_inserted p.blobs a.blob _ (record { committed = each; uncommitted = (old a.blob).uncommitted }) old

-- ---- content that is read

module _ {C D : Type 0} (P : D → Type 0) (f : C → D) where
  -- the committed part of a blob
  committed_read : (o : Option (Committed C)) → IfSome o (EachCommittedContent (λ x. P (f x))) → IfSome (option_map (committed_value f) o) (EachCommittedContent P)
  committed_read None each = tt
  committed_read (Some c) each = All-map (λ (block : Block D). P block.content) (block_value f) c.blocks each

  -- the committed part of a blob, from what was read
  committed_unread : (o : Option (Committed C)) → IfSome (option_map (committed_value f) o) (EachCommittedContent P) → IfSome o (EachCommittedContent (λ x. P (f x)))
  committed_unread None each = tt
  committed_unread (Some c) each = blocks_unread c.blocks each
    where
      blocks_unread : (bs : List (Block C)) → All (λ (block : Block D). P block.content) (map (block_value f) bs) → All (λ (block : Block C). P (f block.content)) bs
      blocks_unread [] all = All-nil _
      blocks_unread (b ∷ bs) all =
          All-cons (λ (block : Block C). P (f block.content)) b bs
          (All-head (λ (block : Block D). P block.content) (block_value f b) (map (block_value f) bs) all)
          (blocks_unread bs (All-tail (λ (block : Block D). P block.content) (block_value f b) (map (block_value f) bs) all))

  -- the blob
  blob_read : (b : Blob C) → EachBlobContent (λ x. P (f x)) b → EachBlobContent P (blob_value f b)
  blob_read b each = record {
    committed = committed_read b.committed each.committed;
    uncommitted = λ id. subst (λ o. IfSome o P) (sym (get-map_values names_total f b.uncommitted id)) (of_read P f (finite.get b.uncommitted id) (each.uncommitted id));
  }

  -- the blob, from what was read
  blob_unread : (b : Blob C) → EachBlobContent P (blob_value f b) → EachBlobContent (λ x. P (f x)) b
  blob_unread b each = record {
    committed = committed_unread b.committed each.committed;
    uncommitted = λ id. to_read P f (finite.get b.uncommitted id) (subst (λ o. IfSome o P) (get-map_values names_total f b.uncommitted id) (each.uncommitted id));
  }

  -- what is so of each content once it is read is so of each content of the container read
  pub EachContent-part_value : (p : Part C) → EachContent (λ x. P (f x)) p → EachContent P (part_value f p)
  EachContent-part_value p each = λ name. subst (EachBlobContent P) (sym (blob_in-part_value f p name)) (blob_read (blob_in p name) (each name))

  -- what is so of each content of the container read is so of each content once it is read
  pub EachContent-from_part_value : (p : Part C) → EachContent P (part_value f p) → EachContent (λ x. P (f x)) p
  EachContent-from_part_value p each = λ name. blob_unread (blob_in p name) (subst (EachBlobContent P) (blob_in-part_value f p name) (each name))

-- ---- after a change

module _ {C : Type 0} (P : C → Type 0) (f : List Piece → C) where
  -- the first uncommitted block of an id in a row
  each_listed : (id : List ℕ) (us : List UncommittedBlock) → All (λ (u : UncommittedBlock). P (f u.content)) us → IfSome (finite.find name_cmp id (map (uncommitted_entry f) us)) P
  each_listed id [] each = tt
  each_listed id (u ∷ us) each =
      of_choice (λ o. IfSome o P) (eq_by_cmp name_cmp id u.id) (Some (f u.content)) (finite.find name_cmp id (map (uncommitted_entry f) us))
      (All-head (λ (w : UncommittedBlock). P (f w.content)) u us each) (each_listed id us (All-tail (λ (w : UncommittedBlock). P (f w.content)) u us each))

  -- the uncommitted blocks of a row
  each_stored : (us : List UncommittedBlock) → All (λ (u : UncommittedBlock). P (f u.content)) us → (id : List ℕ) → IfSome (finite.get (finite.from_entries {R = name_cmp} (map (uncommitted_entry f) us)) id) P
  each_stored us each = λ id. subst (λ o. IfSome o P) (sym (finite.get-from_entries names_total (map (uncommitted_entry f) us) id)) (each_listed id us each)

  -- the blobs that an act leaves
  blobs_each : (n : ℕ) (a : Act) (p : Part C) → EachContent P p → EachActContent (λ ps. P (f ps)) a → EachIn P (blobs_after f n a p)
  blobs_each n (act.CreateContainer a) p old new = old
  blobs_each n (act.SetContainerMetadata a) p old new = old
  blobs_each n (act.SetAcl a) p old new = old
  blobs_each n act.DeleteContainer p old new = each_empty P
  blobs_each n (act.PutBlob a) p old new =
      each_inserted P p.blobs a.blob _
      (record { committed = All-cons (λ (block : Block C). P block.content) (whole_block (f a.content)) [] new (All-nil _); uncommitted = none_uncommitted P }) old
  blobs_each n (act.SetMetadata a) p old new = each_with_metadata P n a p (blob_in p a.blob).committed (old a.blob).committed old
  blobs_each n (act.DeleteBlob a) p old new = each_removed P p.blobs a.blob old
  blobs_each n (act.PutBlock a) p old new =
      each_inserted P p.blobs a.blob _
      (record { committed = (old a.blob).committed; uncommitted = each_uncommitted P (blob_in p a.blob).uncommitted a.id (f a.content) new (old a.blob).uncommitted }) old
  blobs_each n (act.PutBlockList a) p old new =
      each_inserted P p.blobs a.blob _ (record { committed = each_taken P (blob_in p a.blob) (old a.blob) a.entries; uncommitted = none_uncommitted P }) old
  blobs_each n (act.ContainerRow a) p old new = old
  blobs_each n (act.StoredBlob a) p old new =
      each_inserted P p.blobs a.blob _
      (record { committed = committed_read P f a.committed new.0; uncommitted = each_stored a.uncommitted new.1 }) old

  -- after a change, a container has the content that it had and the content that the act brings, and no other content
  pub EachContent-changed : (a : Act) (p : Part C) → EachContent P p → EachActContent (λ ps. P (f ps)) a → EachContent P (changed f a p)
  EachContent-changed a p old new = blobs_each (p.count + 1) a p old new

  -- the same in a world
  pub EachWorldContent-changed_in : (w : World C) (c : KeyedAct) → EachWorldContent P w → EachActContent (λ ps. P (f ps)) c.act → EachWorldContent P (changed_in f w c)
  EachWorldContent-changed_in w c old new = λ key.
      subst (λ (o : Option (Part C)). EachContent P (unwrap_or o no_part)) (sym (finite.get-insert keys_total w c.key (changed f c.act (part_at w c.key)) key))
      (of_choice (λ (o : Option (Part C)). EachContent P (unwrap_or o no_part)) (eq_by_cmp key_cmp key c.key) (Some (changed f c.act (part_at w c.key))) (finite.get w key)
      (EachContent-changed c.act (part_at w c.key) (old c.key) new) (old key))

-- ---- what an act brings

module _ (P : List Piece → Type 0) where
  -- of an act that comes with content, it is that content
  pub EachActContent-content_of : (a : Act) (ps : List Piece) → content_of a ≡ Some ps → EachActContent P a ↔ P ps
  EachActContent-content_of (act.PutBlob a) ps own = let same : a.content ≡ ps = cc in (subst P same, subst P (sym same))
  EachActContent-content_of (act.PutBlock a) ps own = let same : a.content ≡ ps = cc in (subst P same, subst P (sym same))
  EachActContent-content_of other ps own = cc

  -- what is so of all pieces is so of each content that an act brings
  pub EachActContent-all : ((ps : List Piece) → P ps) → (a : Act) → EachActContent P a
  EachActContent-all all (act.PutBlob a) = all a.content
  EachActContent-all all (act.PutBlock a) = all a.content
  EachActContent-all all (act.StoredBlob a) = (any_committed a.committed, λ k d within. all (get_or a.uncommitted k d).content)
    where
      any_committed : (o : Option (Committed (List Piece))) → IfSome o (EachCommittedContent P)
      any_committed None = tt
      any_committed (Some c) = λ k d within. all (get_or c.blocks k d).content
  EachActContent-all all other = tt

  -- what follows for all pieces follows for each content that an act brings
  pub EachActContent-then : (Q : List Piece → Type 0) → ((ps : List Piece) → P ps → Q ps) → (a : Act) → EachActContent P a → EachActContent Q a
  EachActContent-then Q then (act.PutBlob a) each = then a.content each
  EachActContent-then Q then (act.PutBlock a) each = then a.content each
  EachActContent-then Q then (act.StoredBlob a) each = (
    IfSome_then a.committed each.0 (λ c. All-weaker (λ (block : Block (List Piece)). P block.content) (λ block. Q block.content) (λ block. then block.content) c.blocks),
    All-weaker (λ (u : UncommittedBlock). P u.content) (λ u. Q u.content) (λ u. then u.content) a.uncommitted each.1,
  )
  EachActContent-then Q then other each = tt
