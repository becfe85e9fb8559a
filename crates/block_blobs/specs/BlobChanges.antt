-- One blob as a change leaves it ("Put Blob", "Put Block", "Put Block List", "Set Blob Metadata" of the Blob service REST reference, 2012-02-12).
use Rattle.std.specs.Prelude.{ℕ, List, [], ◌∷◌, Option, Some, None}
use Rattle.std.specs.Option.{option_map}
use Rattle.std.specs.FinMap as finite
use Rattle.stamp_types.specs.declared.act.PutBlob.{PutBlob}
use Rattle.stamp_types.specs.declared.act.PutBlockList.{PutBlockList}
use Rattle.stamp_types.specs.declared.act.SetMetadata.{SetMetadata}
use Rattle.stamp_types.specs.declared.committed.Committed.{Committed}
use Rattle.stamp_types.specs.declared.piece.Piece.{Piece}
use Rattle.stamp_types.specs.Changes.{blocks_len}
use Rattle.stamp_types.specs.World.{Blob, committed_with_metadata, taken_blocks, whole_block}

-- how many bytes the content of a blob has; 0 if the blob has no committed part
abbrev pub content_len : Option (Committed (List Piece)) → ℕ
content_len None = 0
content_len (Some c) = blocks_len c.blocks

-- the blob with this content under the id among its uncommitted blocks
abbrev pub blob_with_block : {C : Type 0} → List ℕ → C → Blob C → Blob C
blob_with_block id content b = record { committed = b.committed; uncommitted = finite.insert b.uncommitted id content }

-- the blob that a Put Block List leaves, if the container has seen n changes after it
abbrev pub blob_of_list : {C : Type 0} → ℕ → PutBlockList → Blob C → Blob C
blob_of_list n a b = record {
  committed = Some (record { etag = n; made = a.moment; props = a.props; metadata = a.metadata; blocks = taken_blocks b a.entries });
  uncommitted = finite.empty;
}

-- the blob that a Put Blob leaves, if the container has seen n changes after it
abbrev pub blob_of_put : ℕ → PutBlob → Blob (List Piece)
blob_of_put n a = record {
  committed = Some (record { etag = n; made = a.moment; props = a.props; metadata = a.metadata; blocks = whole_block a.content ∷ [] });
  uncommitted = finite.empty;
}

-- the blob with other metadata, if it has a committed part, when the container has seen n changes after that
abbrev pub blob_with_metadata : {C : Type 0} → ℕ → SetMetadata → Blob C → Blob C
blob_with_metadata n a b = record { committed = option_map (committed_with_metadata n a) b.committed; uncommitted = b.uncommitted }
