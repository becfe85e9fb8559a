-- The blocks that Get Block List shows (Blob service REST reference, 2012-02-12, "Get Block List").
use Rattle.std.specs.Prelude.{ℕ, Bool, true, false, if◌then◌else◌, List, [], Option, Some, None, map}
use Rattle.std.specs.FinMap.{FinMap, entries}
use Rattle.std.specs.List.{flat_map}
use Rattle.std.specs.Option.{option_map, option_to_list}
use Rattle.stamp_values.specs.Order.{name_cmp}
use Rattle.stamp_values.specs.declared.block.BlockKinds.{BlockKinds}
use Rattle.stamp_values.specs.declared.block.BlockKinds.TheVariants as kinds
use Rattle.stamp_types.specs.declared.committed.Block.{Block}
use Rattle.stamp_types.specs.declared.committed.Committed.{Committed}
use Rattle.stamp_types.specs.World.{Blob}
use Rattle.body_forms.specs.WrittenLists.{ListedBlock, block_list_text}

-- the block as it is listed, if it has an id
abbrev pub listed_block : Block ℕ → List ListedBlock
listed_block b = option_to_list (option_map (λ id. record { id = id; len = b.content }) b.id)

-- the blocks that have an id, in their order
abbrev pub shown_blocks : List (Block ℕ) → List ListedBlock
shown_blocks bs = flat_map listed_block bs

-- the committed blocks that have an id, in their order
abbrev pub listed_committed : Option (Committed ℕ) → List ListedBlock
listed_committed None = []
listed_committed (Some c) = shown_blocks c.blocks

-- the block of an id and a size, as it is listed
abbrev pub listed_entry : List ℕ × ℕ → ListedBlock
listed_entry e = record { id = e.0; len = e.1 }

-- the uncommitted blocks, in the order of their ids
abbrev pub listed_uncommitted : FinMap name_cmp ℕ → List ListedBlock
listed_uncommitted m = map listed_entry (entries m)

-- the kinds have the committed blocks; these are the kinds of a request that asks for no kinds
abbrev pub shows_committed : Option BlockKinds → Bool
shows_committed (Some kinds.Uncommitted) = false
shows_committed other = true

-- the kinds have the uncommitted blocks
abbrev pub shows_uncommitted : Option BlockKinds → Bool
shows_uncommitted (Some kinds.Uncommitted) = true
shows_uncommitted (Some kinds.All) = true
shows_uncommitted other = false

-- the blocks, if they are shown
abbrev pub if_shown : Bool → List ListedBlock → Option (List ListedBlock)
if_shown shown blocks = if shown then Some blocks else None

-- the block lists of these kinds, as they are written
abbrev pub list_text : Option BlockKinds → Blob ℕ → List ℕ
list_text k b =
    block_list_text (if_shown (shows_committed k) (listed_committed b.committed)) (if_shown (shows_uncommitted k) (listed_uncommitted b.uncommitted))
