-- Blocks of a blob as readers and Put Block List find them (Blob service REST reference, 2012-02-12, "Put Block", "Put Block List",
-- "Get Block List").
use Rattle.std.specs.Prelude.{◌≡◌, ℕ, Bool, true, false, not, List, [], ◌∷◌, ◌++◌, length, map, Option, Some, unwrap_or}
use Rattle.std.specs.List.{flat_map}
use Rattle.std.specs.Option.{option_or}
use Rattle.std.specs.FinMap.{is_sorted}
use Rattle.stamp_values.specs.declared.block.BlockKinds.{BlockKinds}
use Rattle.stamp_values.specs.declared.block.Lookup.{Lookup}
use Rattle.stamp_values.specs.declared.block.Lookup.TheVariants as lookup
use Rattle.stamp_values.specs.declared.block.Wanted.{Wanted}
use Rattle.stamp_values.specs.declared.op.Op.{Op}
use Rattle.stamp_values.specs.declared.op.Op.TheVariants as op
use Rattle.stamp_values.specs.Order.{name_cmp}
use Rattle.stamp_values.specs.declared.block.BlockSource.TheVariants as source
use Rattle.stamp_types.specs.World.{Blob, content_from}
use Rattle.body_forms.specs.WrittenLists.{ListedBlock}
use Rattle.range_rows.specs.ShownBlocks.{shows_uncommitted}

-- the operation, with these kinds of blocks, reads only what is committed of a blob: it reads the blob, its properties or its
-- metadata, or it lists blocks of kinds that do not have the uncommitted blocks
abbrev pub reads_committed : Op → Option BlockKinds → Bool
reads_committed op.GetBlob kinds = true
reads_committed op.BlobProperties kinds = true
reads_committed op.GetMetadata kinds = true
reads_committed op.GetBlockList kinds = not (shows_uncommitted kinds)
reads_committed _ kinds = false

-- the content of the block of this id, where a list looks for it: among the uncommitted blocks or among the committed ones; `Latest`
-- is the uncommitted block, or else the committed one
abbrev pub content_by : {C : Type 0} → Lookup → List ℕ → Blob C → Option C
content_by lookup.Uncommitted id b = content_from source.Uncommitted id b
content_by lookup.Committed id b = content_from source.Committed id b
content_by lookup.Latest id b = option_or (content_from source.Uncommitted id b) (content_from source.Committed id b)

-- the content of a wanted block
abbrev pub wanted_content : {C : Type 0} → Blob C → Wanted → Option C
wanted_content b w = content_by w.lookup w.id b

-- the content of all wanted blocks, in their order; a block that is not found adds no bytes
abbrev pub wanted_bytes : Blob (List ℕ) → List Wanted → List ℕ
wanted_bytes b ws = flat_map (λ w. unwrap_or (wanted_content b w) []) ws

-- the operation puts, commits or deletes a blob, and so takes away its uncommitted blocks
abbrev pub takes_blocks : Op → Bool
takes_blocks op.PutBlob = true
takes_blocks op.PutBlockList = true
takes_blocks op.DeleteBlob = true
takes_blocks _ = false

-- a wanted block as a list of blocks shows it: its id, and how many bytes the blob has for it
abbrev pub wanted_listed : Blob (List ℕ) → Wanted → ListedBlock
wanted_listed b w = record { id = w.id; len = length (unwrap_or (wanted_content b w) []) }

-- the ids of the blocks rise by their bytes, so no id is listed twice
abbrev pub rises_by_id : List ListedBlock → Bool
rises_by_id us = is_sorted name_cmp (map (λ u. (u.id, u.len)) us)

-- the block is in the list
abbrev pub IsListed : List ListedBlock → ListedBlock → Type 0
IsListed us u = (before : List ListedBlock) × (after : List ListedBlock) × (us ≡ before ++ u ∷ after)

-- The blocks rise by their ids. They are the uncommitted blocks of the blob, each with its number of bytes, and no other blocks.
pub record ListsUncommitted (b : Blob (List ℕ)) (us : List ListedBlock) : Type 0 where
  pub rising : rises_by_id us ≡ true
  pub each : (id content : List ℕ) → content_from source.Uncommitted id b ≡ Some content → IsListed us (record { id = id; len = length content })
  pub only : (u : ListedBlock) → IsListed us u → (content : List ℕ) × (content_from source.Uncommitted u.id b ≡ Some content) × (u.len ≡ length content)
