-- Committed blocks by their ids ("Put Block List" of the Blob service REST reference, 2012-02-12).
use Rattle.std.specs.Prelude.{◌≡◌, ℕ, List, [], Option, Some, None, flat_map}
use Rattle.std.specs.Option.{option_map, option_to_list}
use Rattle.std.specs.FinMap.{FinMap, entries, from_entries}
use Rattle.std.specs.FinMap.Entries.{put}
use Rattle.stamp_values.specs.Order.{name_cmp}
use Rattle.stamp_types.specs.declared.committed.Block.{Block}
use Rattle.stamp_types.specs.declared.committed.Committed.{Committed}

-- the id of a block with its content, if the block has an id
abbrev pub id_entries : {C : Type 0} → Block C → List (List ℕ × C)
id_entries block = option_to_list (option_map (λ id. (id, block.content)) block.id)

-- the entries with this content under the id, if there is an id
abbrev pub entries_with : {C : Type 0} → Option (List ℕ) → C → List (List ℕ × C) → List (List ℕ × C)
entries_with None content es = es
entries_with (Some id) content es = put name_cmp id content es

-- the content of blocks by their ids: of blocks of one id, the content of the first
abbrev pub first_contents : {C : Type 0} → List (Block C) → FinMap name_cmp C
first_contents blocks = from_entries (flat_map id_entries blocks)

-- the blocks of a committed part; an absent committed part has no blocks
abbrev pub blocks_of : {C : Type 0} → Option (Committed C) → List (Block C)
blocks_of None = []
blocks_of (Some c) = c.blocks

-- the entries are the content of blocks by their ids, in the order of the ids
abbrev pub IsIndex : {C : Type 0} → List (Block C) → List (List ℕ × C) → Type 0
IsIndex blocks es = es ≡ entries (first_contents blocks)
