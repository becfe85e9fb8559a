-- What the stamp holds, and how a change alters it (Calder et al., SOSP 2011, sections 2 and 5; Blob service REST reference, 2012-02-12).
-- Content is a parameter: a list of bytes, or the pieces that a list of bytes is cut into.
use Rattle.std.specs.Prelude.{ℕ, ◌+◌, Bool, false, List, [], ◌∷◌, Option, Some, None, nat_eq, map, find, unwrap_or}
use Rattle.std.specs.List.{flat_map}
use Rattle.std.specs.Option.{option_map, option_and_then, option_to_list}
use Rattle.std.specs.Cmp.Lexicographic.{pointwise}
use Rattle.std.specs.FinMap as finite
use Rattle.std.specs.FinMap.{FinMap}
use Rattle.stamp_values.specs.Order.{name_cmp, key_cmp}
use Rattle.stamp_values.specs.Maps.{map_values}
use Rattle.stamp_values.specs.declared.key.Key.{Key}
use Rattle.stamp_values.specs.declared.block.Taken.{Taken}
use Rattle.stamp_values.specs.declared.block.BlockSource.{BlockSource}
use Rattle.stamp_values.specs.declared.block.BlockSource.TheVariants as source
use Rattle.stamp_types.specs.declared.piece.Piece.{Piece}
use Rattle.stamp_types.specs.declared.standing.Standing.{Standing}
use Rattle.stamp_types.specs.declared.committed.Block.{Block}
use Rattle.stamp_types.specs.declared.committed.Committed.{Committed}
use Rattle.stamp_types.specs.declared.committed.UncommittedBlock.{UncommittedBlock}
use Rattle.stamp_types.specs.declared.act.SetContainerMetadata.{SetContainerMetadata}
use Rattle.stamp_types.specs.declared.act.SetAcl.{SetAcl}
use Rattle.stamp_types.specs.declared.act.SetMetadata.{SetMetadata}
use Rattle.stamp_types.specs.declared.act.Act.{Act}
use Rattle.stamp_types.specs.declared.act.Act.TheVariants as act
use Rattle.stamp_types.specs.Changes.{KeyedAct}

-- a blob: its committed part, if it has a committed part, and its uncommitted blocks by their ids
pub record Blob (C : Type 0) : Type 0 where
  pub committed : Option (Committed C)
  pub uncommitted : FinMap name_cmp C

-- one container: how many changes it has seen, what it has beside its blobs if it exists, and its blobs by their names
pub record Part (C : Type 0) : Type 0 where
  pub count : ℕ
  pub standing : Option Standing
  pub blobs : FinMap name_cmp (Blob C)

-- the containers by account and name
abbrev pub World : Type 0 → Type 0
World C = FinMap key_cmp (Part C)

-- the blob of a name that was never used
abbrev pub no_blob : {C : Type 0} → Blob C
no_blob = record { committed = None; uncommitted = finite.empty }

-- a container that never was
abbrev pub no_part : {C : Type 0} → Part C
no_part = record { count = 0; standing = None; blobs = finite.empty }

-- the container of this key in the world
abbrev pub part_at : {C : Type 0} → World C → Key → Part C
part_at w key = unwrap_or (finite.get w key) no_part

-- the blob of this name in the container
abbrev pub blob_in : {C : Type 0} → Part C → List ℕ → Blob C
blob_in p name = unwrap_or (finite.get p.blobs name) no_blob

-- ---- blocks that a Put Block List takes over

-- the block has this id; a block that Put Blob wrote has no id
abbrev pub has_block_id : {C : Type 0} → List ℕ → Block C → Bool
has_block_id id block = unwrap_or (option_map (λ other. pointwise nat_eq id other) block.id) false

-- the content of the first committed block of an id
abbrev pub committed_content : {C : Type 0} → List ℕ → Committed C → Option C
committed_content id c = option_map (λ block. block.content) (find (has_block_id id) c.blocks)

-- the content of the block of an id, among the uncommitted or the committed blocks, as the list says
abbrev pub content_from : {C : Type 0} → BlockSource → List ℕ → Blob C → Option C
content_from source.Uncommitted id b = finite.get b.uncommitted id
content_from source.Committed id b = option_and_then (committed_content id) b.committed

-- a block of an id
abbrev pub block_of : {C : Type 0} → List ℕ → C → Block C
block_of id content = record { id = Some id; content = content }

-- the blocks that are found, in the order of the list
abbrev pub taken_blocks : {C : Type 0} → Blob C → List Taken → List (Block C)
taken_blocks b entries = flat_map (λ e. option_to_list (option_map (block_of e.id) (content_from e.from e.id b))) entries

-- ---- content read by a function

-- the same block with its content read by f
abbrev pub block_value : {C D : Type 0} → (C → D) → Block C → Block D
block_value f block = record { id = block.id; content = f block.content }

-- the same committed part with each content read by f
abbrev pub committed_value : {C D : Type 0} → (C → D) → Committed C → Committed D
committed_value f c = record { etag = c.etag; made = c.made; props = c.props; metadata = c.metadata; blocks = map (block_value f) c.blocks }

-- the same blob with each content read by f
abbrev pub blob_value : {C D : Type 0} → (C → D) → Blob C → Blob D
blob_value f b = record { committed = option_map (committed_value f) b.committed; uncommitted = map_values f b.uncommitted }

-- the same container with each content read by f
abbrev pub part_value : {C D : Type 0} → (C → D) → Part C → Part D
part_value f p = record { count = p.count; standing = p.standing; blobs = map_values (blob_value f) p.blobs }

-- the same containers with each content read by f
abbrev pub world_value : {C D : Type 0} → (C → D) → World C → World D
world_value f w = map_values (part_value f) w

-- ---- changes, with the content that each change brings read by f

-- the blobs with this blob under the name
abbrev pub with_blob : {C : Type 0} → Part C → List ℕ → Blob C → FinMap name_cmp (Blob C)
with_blob p name b = finite.insert p.blobs name b

-- the id of an uncommitted block, and its content read by f
abbrev pub uncommitted_entry : {C : Type 0} → (List Piece → C) → UncommittedBlock → List ℕ × C
uncommitted_entry f u = (u.id, f u.content)

-- the block that Put Blob writes: it has no id
abbrev pub whole_block : {C : Type 0} → C → Block C
whole_block content = record { id = None; content = content }

-- the blobs with this committed part in the blob of the name, if there is a committed part; otherwise the same blobs
abbrev pub with_committed : {C : Type 0} → Part C → List ℕ → Option (Committed C) → FinMap name_cmp (Blob C)
with_committed p name None = p.blobs
with_committed p name (Some c) = with_blob p name (record { committed = Some c; uncommitted = (blob_in p name).uncommitted })

-- a container with other metadata: its level and its policies stay as they were
abbrev pub standing_with_metadata : ℕ → SetContainerMetadata → Standing → Standing
standing_with_metadata n a s = record { etag = n; made = a.moment; metadata = a.metadata; acl = s.acl }

-- a container with another level and other policies: its metadata stays as it was
abbrev pub standing_with_acl : ℕ → SetAcl → Standing → Standing
standing_with_acl n a s = record { etag = n; made = a.moment; metadata = s.metadata; acl = a.acl }

-- a blob with other metadata: the headers that are kept with it and its blocks stay as they were
abbrev pub committed_with_metadata : {C : Type 0} → ℕ → SetMetadata → Committed C → Committed C
committed_with_metadata n a c = record { etag = n; made = a.moment; props = c.props; metadata = a.metadata; blocks = c.blocks }

-- the container's blobs as the act leaves them, if the container has seen n changes after the act
abbrev pub blobs_after : {C : Type 0} → (List Piece → C) → ℕ → Act → Part C → FinMap name_cmp (Blob C)
blobs_after f n (act.CreateContainer a) p = p.blobs
blobs_after f n (act.SetContainerMetadata a) p = p.blobs
blobs_after f n (act.SetAcl a) p = p.blobs
blobs_after f n act.DeleteContainer p = finite.empty
blobs_after f n (act.PutBlob a) p =
    with_blob p a.blob (record {
      committed = Some (record { etag = n; made = a.moment; props = a.props; metadata = a.metadata; blocks = whole_block (f a.content) ∷ [] });
      uncommitted = finite.empty;
    })
blobs_after f n (act.SetMetadata a) p = with_committed p a.blob (option_map (committed_with_metadata n a) (blob_in p a.blob).committed)
blobs_after f n (act.DeleteBlob a) p = finite.remove p.blobs a.blob
blobs_after f n (act.PutBlock a) p =
    with_blob p a.blob (record {
      committed = (blob_in p a.blob).committed;
      uncommitted = finite.insert (blob_in p a.blob).uncommitted a.id (f a.content);
    })
blobs_after f n (act.PutBlockList a) p =
    with_blob p a.blob (record {
      committed = Some (record { etag = n; made = a.moment; props = a.props; metadata = a.metadata; blocks = taken_blocks (blob_in p a.blob) a.entries });
      uncommitted = finite.empty;
    })
blobs_after f n (act.ContainerRow a) p = p.blobs
blobs_after f n (act.StoredBlob a) p =
    with_blob p a.blob (record {
      committed = option_map (committed_value f) a.committed;
      uncommitted = finite.from_entries (map (uncommitted_entry f) a.uncommitted);
    })

-- what the container has beside its blobs as the act leaves it, if the container has seen n changes after the act: a change of a blob leaves this as it was
abbrev pub standing_after : ℕ → Act → Option Standing → Option Standing
standing_after n (act.CreateContainer a) o = Some (record { etag = n; made = a.moment; metadata = a.metadata; acl = record { level = a.level; policies = [] } })
standing_after n (act.SetContainerMetadata a) o = option_map (standing_with_metadata n a) o
standing_after n (act.SetAcl a) o = option_map (standing_with_acl n a) o
standing_after n act.DeleteContainer o = None
standing_after n (act.ContainerRow a) o = a.standing
standing_after n other o = o

-- how many changes the container has seen after the act: each change raises the count by one, and the row of a container sets it
abbrev pub count_after : Act → ℕ → ℕ
count_after (act.ContainerRow a) n = a.count
count_after (act.StoredBlob a) n = n
count_after other n = n + 1

-- the container as the act leaves it
abbrev pub changed : {C : Type 0} → (List Piece → C) → Act → Part C → Part C
changed f a p = record {
  count = count_after a p.count;
  standing = standing_after (p.count + 1) a p.standing;
  blobs = blobs_after f (p.count + 1) a p;
}

-- the world as a change of one container leaves it
abbrev pub changed_in : {C : Type 0} → (List Piece → C) → World C → KeyedAct → World C
changed_in f w c = finite.insert w c.key (changed f c.act (part_at w c.key))

-- the pieces themselves, for a world whose content is pieces
abbrev pub same_pieces : List Piece → List Piece
same_pieces ps = ps
