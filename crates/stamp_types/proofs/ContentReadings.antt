-- Content read by a function: in two steps, by another function that agrees, and before a change or after it.
use Rattle.std.proofs.Common.{◌≡◌, ℕ, ◌+◌, List, [], ◌∷◌, All, Option, Some, None, IfSome, refl, sym, ap, ◌∙◌, map, unwrap_or, length}
use Rattle.std.specs.Option.{option_map}
use Rattle.std.specs.Cmp.{IsTotalOrder}
use Rattle.std.specs.declared.cmp.Ordering.{Ordering}
use Rattle.std.specs.FinMap as finite
use Rattle.std.specs.FinMap.{FinMap, IsAntisymmetric, same_map}
use Rattle.std.proofs.lemmas.List.Elements.{All-head, All-tail, All-weaker}
use Rattle.stamp_values.specs.Order.{name_cmp, names_total, names_exact, keys_total, keys_exact}
use Rattle.stamp_values.specs.Maps.{map_values, entry_value}
use Rattle.stamp_types.specs.Pieces.{pieces_len}
use Rattle.stamp_types.specs.Changes.{KeyedAct, content_of, act_with}
use Rattle.stamp_types.specs.World.{Blob, Part, World, no_blob, no_part, blob_in, part_at, block_value, committed_value, blob_value, part_value, world_value, taken_blocks, with_committed, committed_with_metadata, uncommitted_entry, whole_block, count_after, standing_after, blobs_after, changed, changed_in}
use Rattle.stamp_types.specs.Contents.{EachCommittedContent, EachBlobContent, EachContent, EachWorldContent, EachActContent}
use Rattle.stamp_types.specs.declared.piece.Piece.{Piece}
use Rattle.stamp_types.specs.declared.committed.Block.{Block}
use Rattle.stamp_types.specs.declared.committed.Committed.{Committed}
use Rattle.stamp_types.specs.declared.committed.UncommittedBlock.{UncommittedBlock}
use Rattle.stamp_types.specs.declared.act.SetMetadata.{SetMetadata}
use Rattle.stamp_types.specs.declared.act.Act.{Act}
use Rattle.stamp_types.specs.declared.act.Act.TheVariants as act
use Rattle.stamp_values.proofs.MapsLemmas.{option_map-chain, get-map_values, map_values-empty, map_values-insert, map_values-remove, map_values-from_entries}
use Rattle.stamp_types.proofs.WorldLemmas.{blob_in-part_value, part_at-world_value, taken_blocks-blob_value}

-- ---- lists and maps

-- two functions, one after the other
map-chain : {X Y Z : Type 0} (g : Y → Z) (f : X → Y) (xs : List X) → map g (map f xs) ≡ map (λ x. g (f x)) xs
map-chain g f [] = refl
map-chain g f (x ∷ xs) = ap (λ ys. g (f x) ∷ ys) (map-chain g f xs)

-- two functions that agree on each element
map-alike : {X Y : Type 0} (f g : X → Y) (xs : List X) → All (λ x. f x ≡ g x) xs → map f xs ≡ map g xs
map-alike f g [] alike = refl
map-alike f g (x ∷ xs) alike =
    λ i. All-head (λ y. f y ≡ g y) x xs alike i ∷ map-alike f g xs (All-tail (λ y. f y ≡ g y) x xs alike) i

-- two functions that agree on the value, if there is a value
option_map-alike : {X Y : Type 0} (f g : X → Y) (o : Option X) → IfSome o (λ x. f x ≡ g x) → option_map f o ≡ option_map g o
option_map-alike f g None alike = refl
option_map-alike f g (Some x) alike = ap (λ y. Some y) alike

module _ {K X : Type 0} {R : K → K → Ordering} (o : IsTotalOrder R) (same : IsAntisymmetric R) where
  -- two functions, one after the other
  map_values-chain : {Y Z : Type 0} (g : Y → Z) (f : X → Y) (m : FinMap R X) → map_values g (map_values f m) ≡ map_values (λ x. g (f x)) m
  map_values-chain g f m = same_map o same _ _ (λ q.
      get-map_values o g (map_values f m) q ∙ ap (option_map g) (get-map_values o f m q) ∙ option_map-chain g f (finite.get m q)
      ∙ sym (get-map_values o (λ x. g (f x)) m q))

  -- two functions that agree on each value
  map_values-alike : {Y : Type 0} (f g : X → Y) (m : FinMap R X) → ((q : K) → IfSome (finite.get m q) (λ x. f x ≡ g x)) → map_values f m ≡ map_values g m
  map_values-alike f g m alike = same_map o same _ _ (λ q.
      get-map_values o f m q ∙ option_map-alike f g (finite.get m q) (alike q) ∙ sym (get-map_values o g m q))

-- ---- in two steps

module _ {C D E : Type 0} (g : D → E) (f : C → D) where
  -- a committed part
  committed_value-chain : (c : Committed C) → committed_value g (committed_value f c) ≡ committed_value (λ x. g (f x)) c
  committed_value-chain c = λ i. record { etag = c.etag; made = c.made; props = c.props; metadata = c.metadata; blocks = map-chain (block_value g) (block_value f) c.blocks i }

  -- a committed part, if there is a committed part
  committed_part_value-chain : (o : Option (Committed C)) → option_map (committed_value g) (option_map (committed_value f) o) ≡ option_map (committed_value (λ x. g (f x))) o
  committed_part_value-chain None = refl
  committed_part_value-chain (Some c) = ap (λ d. Some d) (committed_value-chain c)

  -- a blob
  blob_value-chain : (b : Blob C) → blob_value g (blob_value f b) ≡ blob_value (λ x. g (f x)) b
  blob_value-chain b = λ i. record { committed = committed_part_value-chain b.committed i; uncommitted = map_values-chain names_total names_exact g f b.uncommitted i }

  -- what is read by f and then by g is read by both together
  pub part_value-chain : (p : Part C) → part_value g (part_value f p) ≡ part_value (λ x. g (f x)) p
  part_value-chain p = λ i. record {
    count = p.count;
    standing = p.standing;
    blobs = (map_values-chain names_total names_exact (blob_value g) (blob_value f) p.blobs ∙ (λ j. map_values (λ b. blob_value-chain b j) p.blobs)) i;
  }

  -- what is read of a world by f and then by g is read by both together
  pub world_value-chain : (w : World C) → world_value g (world_value f w) ≡ world_value (λ x. g (f x)) w
  world_value-chain w = map_values-chain keys_total keys_exact (part_value g) (part_value f) w ∙ (λ i. map_values (λ p. part_value-chain p i) w)

-- ---- by functions that agree

module _ {C D : Type 0} (f g : C → D) where
  -- a block
  block_value-alike : (block : Block C) → f block.content ≡ g block.content → block_value f block ≡ block_value g block
  block_value-alike block same = λ i. record { id = block.id; content = same i }

  -- a committed part
  committed_value-alike : (c : Committed C) → EachCommittedContent (λ x. f x ≡ g x) c → committed_value f c ≡ committed_value g c
  committed_value-alike c alike = λ i. record { etag = c.etag; made = c.made; props = c.props; metadata = c.metadata; blocks = blocks i }
    where
      blocks : map (block_value f) c.blocks ≡ map (block_value g) c.blocks
      blocks = map-alike (block_value f) (block_value g) c.blocks (All-weaker (λ (block : Block C). f block.content ≡ g block.content) (λ block. block_value f block ≡ block_value g block) block_value-alike c.blocks alike)

  -- a committed part, if there is a committed part
  committed_part_value-alike : (o : Option (Committed C)) → IfSome o (EachCommittedContent (λ x. f x ≡ g x)) → option_map (committed_value f) o ≡ option_map (committed_value g) o
  committed_part_value-alike None alike = refl
  committed_part_value-alike (Some c) alike = ap (λ d. Some d) (committed_value-alike c alike)

  -- a blob
  blob_value-alike : (b : Blob C) → EachBlobContent (λ x. f x ≡ g x) b → blob_value f b ≡ blob_value g b
  blob_value-alike b alike =
      λ i. record { committed = committed_part_value-alike b.committed alike.committed i; uncommitted = map_values-alike names_total names_exact f g b.uncommitted alike.uncommitted i }

  -- a blob that a look-up finds
  found_blob-alike : (o : Option (Blob C)) → EachBlobContent (λ x. f x ≡ g x) (unwrap_or o no_blob) → IfSome o (λ b. blob_value f b ≡ blob_value g b)
  found_blob-alike None alike = tt
  found_blob-alike (Some b) alike = blob_value-alike b alike

  -- functions that agree on each content of a container read the same container
  pub part_value-alike : (p : Part C) → EachContent (λ x. f x ≡ g x) p → part_value f p ≡ part_value g p
  part_value-alike p alike = λ i. record {
    count = p.count;
    standing = p.standing;
    blobs = map_values-alike names_total names_exact (blob_value f) (blob_value g) p.blobs (λ name. found_blob-alike (finite.get p.blobs name) (alike name)) i;
  }

  -- a container that a look-up finds
  found_part-alike : (o : Option (Part C)) → EachContent (λ x. f x ≡ g x) (unwrap_or o no_part) → IfSome o (λ p. part_value f p ≡ part_value g p)
  found_part-alike None alike = tt
  found_part-alike (Some p) alike = part_value-alike p alike

  -- functions that agree on each content of a world read the same world
  pub world_value-alike : (w : World C) → EachWorldContent (λ x. f x ≡ g x) w → world_value f w ≡ world_value g w
  world_value-alike w alike = map_values-alike keys_total keys_exact (part_value f) (part_value g) w (λ key. found_part-alike (finite.get w key) (alike key))

-- the sizes of bytes that are as long as their pieces are the sizes of the pieces
pub part_value-sizes : (f : List Piece → List ℕ) (p : Part (List Piece)) → EachContent (λ ps. length (f ps) ≡ pieces_len ps) p → part_value length (part_value f p) ≡ part_value pieces_len p
part_value-sizes f p long = part_value-chain length f p ∙ part_value-alike (λ ps. length (f ps)) pieces_len p long

-- ---- across a change

module _ {C D : Type 0} (g : C → D) (f : List Piece → C) where
  -- Set Blob Metadata
  with_new_metadata : (n : ℕ) (a : SetMetadata) (p : Part C) (o : Option (Committed C))
      → map_values (blob_value g) (with_committed p a.blob (option_map (committed_with_metadata n a) o))
      ≡ with_committed (part_value g p) a.blob (option_map (committed_with_metadata n a) (option_map (committed_value g) o))
  with_new_metadata n a p None = refl
  with_new_metadata n a p (Some c) =
      map_values-insert names_total names_exact (blob_value g) p.blobs a.blob _
      ∙ ap (λ b. finite.insert (map_values (blob_value g) p.blobs) a.blob b)
      (λ i. record { committed = Some (committed_with_metadata n a (committed_value g c)); uncommitted = (sym (blob_in-part_value g p a.blob) i).uncommitted })

  -- the blobs that an act leaves
  blobs_value : (n : ℕ) (a : Act) (p : Part C) → map_values (blob_value g) (blobs_after f n a p) ≡ blobs_after (λ ps. g (f ps)) n a (part_value g p)
  blobs_value n (act.CreateContainer a) p = refl
  blobs_value n (act.SetContainerMetadata a) p = refl
  blobs_value n (act.SetAcl a) p = refl
  blobs_value n act.DeleteContainer p = map_values-empty names_total names_exact (blob_value g)
  blobs_value n (act.PutBlob a) p =
      map_values-insert names_total names_exact (blob_value g) p.blobs a.blob _
      ∙ ap (finite.insert (map_values (blob_value g) p.blobs) a.blob)
      (λ i. record { committed = Some (record { etag = n; made = a.moment; props = a.props; metadata = a.metadata; blocks = whole_block (g (f a.content)) ∷ [] }); uncommitted = map_values-empty names_total names_exact g i })
  blobs_value n (act.SetMetadata a) p =
      with_new_metadata n a p (blob_in p a.blob).committed
      ∙ ap (λ (b : Blob D). with_committed (part_value g p) a.blob (option_map (committed_with_metadata n a) b.committed)) (sym (blob_in-part_value g p a.blob))
  blobs_value n (act.DeleteBlob a) p = map_values-remove names_total names_exact (blob_value g) p.blobs a.blob
  blobs_value n (act.PutBlock a) p =
      map_values-insert names_total names_exact (blob_value g) p.blobs a.blob _
      ∙ ap (finite.insert (map_values (blob_value g) p.blobs) a.blob)
      ((λ i. record { committed = option_map (committed_value g) (blob_in p a.blob).committed; uncommitted = map_values-insert names_total names_exact g (blob_in p a.blob).uncommitted a.id (f a.content) i })
      ∙ ap (λ (b : Blob D). record { committed = b.committed; uncommitted = finite.insert b.uncommitted a.id (g (f a.content)) }) (sym (blob_in-part_value g p a.blob)))
  blobs_value n (act.PutBlockList a) p =
      map_values-insert names_total names_exact (blob_value g) p.blobs a.blob _
      ∙ ap (finite.insert (map_values (blob_value g) p.blobs) a.blob)
      (λ i. record {
        committed = Some (record { etag = n; made = a.moment; props = a.props; metadata = a.metadata; blocks = (sym (taken_blocks-blob_value g (blob_in p a.blob) a.entries) ∙ ap (λ b. taken_blocks b a.entries) (sym (blob_in-part_value g p a.blob))) i });
        uncommitted = map_values-empty names_total names_exact g i;
      })
  blobs_value n (act.ContainerRow a) p = refl
  blobs_value n (act.StoredBlob a) p =
      map_values-insert names_total names_exact (blob_value g) p.blobs a.blob _
      ∙ ap (finite.insert (map_values (blob_value g) p.blobs) a.blob)
      (λ i. record {
        committed = committed_part_value-chain g f a.committed i;
        uncommitted = (map_values-from_entries names_total names_exact g (map (uncommitted_entry f) a.uncommitted)
            ∙ ap (λ es. finite.from_entries {R = name_cmp} es) (map-chain (entry_value g) (uncommitted_entry f) a.uncommitted)) i;
      })

  -- what is read after a change is what the change leaves of what was read before
  pub part_value-changed : (a : Act) (p : Part C) → part_value g (changed f a p) ≡ changed (λ ps. g (f ps)) a (part_value g p)
  part_value-changed a p = λ i. record { count = count_after a p.count; standing = standing_after (p.count + 1) a p.standing; blobs = blobs_value (p.count + 1) a p i }

  -- what is read of a world after a change is what the change leaves of what was read before
  pub world_value-changed_in : (w : World C) (c : KeyedAct) → world_value g (changed_in f w c) ≡ changed_in (λ ps. g (f ps)) (world_value g w) c
  world_value-changed_in w c =
      map_values-insert keys_total keys_exact (part_value g) w c.key _
      ∙ ap (finite.insert (world_value g w) c.key)
      (part_value-changed c.act (part_at w c.key) ∙ ap (changed (λ ps. g (f ps)) c.act) (sym (part_at-world_value g w c.key)))

-- ---- an act whose content is read otherwise

module _ {D : Type 0} (f g : List Piece → D) (p : Part D) where
  -- the uncommitted blocks of a row
  uncommitted_alike : (us : List UncommittedBlock) → All (λ (u : UncommittedBlock). f u.content ≡ g u.content) us → map (uncommitted_entry f) us ≡ map (uncommitted_entry g) us
  uncommitted_alike us alike = map-alike (uncommitted_entry f) (uncommitted_entry g) us (All-weaker (λ (u : UncommittedBlock). f u.content ≡ g u.content) (λ u. uncommitted_entry f u ≡ uncommitted_entry g u) (λ u same. λ i. (u.id, same i)) us alike)

  -- functions that agree on each content that an act brings read the same change
  pub changed-alike : (a : Act) → EachActContent (λ ps. f ps ≡ g ps) a → changed f a p ≡ changed g a p
  changed-alike (act.PutBlob a) alike = ap (λ content. changed (λ ps. content) (act.PutBlob a) p) alike
  changed-alike (act.PutBlock a) alike = ap (λ content. changed (λ ps. content) (act.PutBlock a) p) alike
  changed-alike (act.StoredBlob a) alike = λ i. record {
    count = p.count;
    standing = p.standing;
    blobs = finite.insert p.blobs a.blob (record {
      committed = committed_part_value-alike f g a.committed alike.0 i;
      uncommitted = finite.from_entries {R = name_cmp} (uncommitted_alike a.uncommitted alike.1 i);
    });
  }
  changed-alike other alike = refl

  -- an act with other pieces, if f reads these pieces as g reads the act's own pieces
  pub changed-act_with : (a : Act) (ps : List Piece) → IfSome (content_of a) (λ qs. f ps ≡ g qs) → (content_of a ≡ None → EachActContent (λ qs. f qs ≡ g qs) a) → changed f (act_with a ps) p ≡ changed g a p
  changed-act_with (act.PutBlob a) ps alike rest = ap (λ content. changed (λ qs. content) (act.PutBlob a) p) alike
  changed-act_with (act.PutBlock a) ps alike rest = ap (λ content. changed (λ qs. content) (act.PutBlock a) p) alike
  changed-act_with (act.StoredBlob a) ps alike rest = changed-alike (act.StoredBlob a) (rest refl)
  changed-act_with other ps alike rest = refl

-- the same over a container whose contents both functions read alike
pub changed-act_with_alike : {D : Type 0} (f g : List Piece → D) (a : Act) (ps : List Piece) (p : Part (List Piece)) → EachContent (λ qs. f qs ≡ g qs) p → IfSome (content_of a) (λ qs. f ps ≡ g qs) → (content_of a ≡ None → EachActContent (λ qs. f qs ≡ g qs) a) → changed f (act_with a ps) (part_value f p) ≡ changed g a (part_value g p)
changed-act_with_alike f g a ps p kept alike rest =
    ap (changed f (act_with a ps)) (part_value-alike f g p kept) ∙ changed-act_with f g (part_value g p) a ps alike rest
