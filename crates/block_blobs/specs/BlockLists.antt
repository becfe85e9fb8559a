-- Block lists: where their blocks are found, and what is wrong with a list ("Put Block List" of the Blob service REST reference, 2012-02-12).
use Rattle.std.specs.Prelude.{ℕ, zero, suc, Bool, true, false, ◌&&◌, IsTrue, IfSome, if◌then◌else◌, nat_lt, is_some, is_none, bytes_eq, sum_by, List, [], ◌∷◌, length, Option, Some, None, find, map, position, flat_map}
use Rattle.std.specs.Cmp.Lexicographic.{pointwise}
use Rattle.std.specs.FinMap as finite
use Rattle.std.specs.Option.{option_map, option_and_then, option_to_list}
use Rattle.stamp_values.specs.Limits.{entries_limit, blob_limit}
use Rattle.stamp_values.specs.declared.block.Lookup.{Lookup}
use Rattle.stamp_values.specs.declared.block.Lookup.TheVariants as lookup
use Rattle.stamp_values.specs.declared.block.BlockSource.{BlockSource}
use Rattle.stamp_values.specs.declared.block.BlockSource.TheVariants as source
use Rattle.stamp_values.specs.declared.block.Taken.{Taken}
use Rattle.stamp_values.specs.declared.block.Wanted.{Wanted}
use Rattle.stamp_types.specs.declared.piece.Piece.{Piece}
use Rattle.stamp_types.specs.Changes.{blocks_len, is_in_one_piece}
use Rattle.stamp_types.specs.Pieces.{pieces_len}
use Rattle.stamp_types.specs.declared.committed.Block.{Block}
use Rattle.stamp_types.specs.World.{Blob, block_of, content_from, taken_blocks, whole_block}
use Rattle.block_blobs.specs.declared.block_fault.BlockFault.{BlockFault}
use Rattle.block_blobs.specs.declared.block_fault.BlockFault.TheVariants as fault

-- where Put Block List looks for a block, in this order
abbrev pub sources_of : Lookup → List BlockSource
sources_of lookup.Latest = source.Uncommitted ∷ source.Committed ∷ []
sources_of lookup.Committed = source.Committed ∷ []
sources_of lookup.Uncommitted = source.Uncommitted ∷ []

-- where the wanted block is found: the first of these sources in which the blob has a block of the id
abbrev pub source_of : {C : Type 0} → Blob C → Wanted → Option BlockSource
source_of b w = find (λ s. is_some (content_from s w.id b)) (sources_of w.lookup)

-- the entry of a block that is found in this source
abbrev pub taken_from : Wanted → BlockSource → Taken
taken_from w s = record { id = w.id; from = s }

-- the entries of the wanted blocks that are found, in their order
abbrev pub found_entries : {C : Type 0} → Blob C → List Wanted → List Taken
found_entries b ws = flat_map (λ w. option_to_list (option_map (taken_from w) (source_of b w))) ws

-- where the wanted blocks are found, in their order, without those that are not found
abbrev pub found_sources : {C : Type 0} → Blob C → List Wanted → List BlockSource
found_sources b ws = flat_map (λ w. option_to_list (source_of b w)) ws

-- the content of the wanted block, if it is found
abbrev pub found_content : {C : Type 0} → Blob C → Wanted → Option C
found_content b w = option_and_then (λ s. content_from s w.id b) (source_of b w)

-- the wanted blocks that are found, in their order, without their ids
abbrev pub found_blocks : {C : Type 0} → Blob C → List Wanted → List (Block C)
found_blocks b ws = flat_map (λ w. option_to_list (option_map whole_block (found_content b w))) ws

-- the entries of wanted blocks that are found in these sources, in their order
unfoldable pub entries_from : List Wanted → List BlockSource → List Taken
entries_from [] ss = []
entries_from (w ∷ ws) [] = []
entries_from (w ∷ ws) (s ∷ ss) = taken_from w s ∷ entries_from ws ss

-- the position of the first wanted block that is not found
abbrev pub first_missing : {C : Type 0} → Blob C → List Wanted → Option ℕ
first_missing b ws = position (λ w. is_none (source_of b w)) ws

-- the position of the first entry whose block is not where the entry says
abbrev pub first_absent : {C : Type 0} → Blob C → List Taken → Option ℕ
first_absent b ts = position (λ t. is_none (content_from t.from t.id b)) ts

-- the entry that takes an uncommitted block
abbrev pub uncommitted_taken : {C : Type 0} → List ℕ × C → Taken
uncommitted_taken e = record { id = e.0; from = source.Uncommitted }

-- the entries that take all uncommitted blocks, in the order of their ids
abbrev pub all_entries : {C : Type 0} → Blob C → List Taken
all_entries b = map uncommitted_taken (finite.entries b.uncommitted)

-- the block of content that an uncommitted block becomes, with its id
abbrev pub block_of_entry : {C : Type 0} → List ℕ × C → Block C
block_of_entry e = block_of e.0 e.1

-- the block is looked for among the uncommitted blocks first
abbrev pub is_uncommitted_first : Lookup → Bool
is_uncommitted_first lookup.Committed = false
is_uncommitted_first other = true

-- the wanted block is the uncommitted block of this id, if there is one
abbrev pub wants_id : Wanted → List ℕ → Bool
wants_id w id = is_uncommitted_first w.lookup && bytes_eq w.id id

-- the list wants these uncommitted blocks, in this order
abbrev pub want_each : {C : Type 0} → List Wanted → List (List ℕ × C) → Bool
want_each ws es = pointwise (λ w e. wants_id w e.0) ws es

-- the list wants all uncommitted blocks, at least one, in the order of their ids
abbrev pub wants_all : {C : Type 0} → Blob C → List Wanted → Bool
wants_all b [] = false
wants_all b (w ∷ ws) = want_each (w ∷ ws) (finite.entries b.uncommitted)

-- how many bytes uncommitted blocks have together
abbrev pub entries_len : List (List ℕ × List Piece) → ℕ
entries_len es = sum_by (λ e. pieces_len e.1) es

-- the blocks of the entries that are found, in their order, without their ids
abbrev pub unnamed_blocks : {C : Type 0} → Blob C → List Taken → List (Block C)
unnamed_blocks b ts = flat_map (λ t. option_to_list (option_map whole_block (content_from t.from t.id b))) ts

-- the blocks with this id at this place, if there is a block at this place
unfoldable pub named_at : {C : Type 0} → ℕ → List ℕ → List (Block C) → List (Block C)
named_at i id [] = []
named_at zero id (block ∷ blocks) = block_of id block.content ∷ blocks
named_at (suc i) id (block ∷ blocks) = block ∷ named_at i id blocks

-- the blocks with the ids of the entries, the first block with the first id
unfoldable pub named_blocks : {C : Type 0} → List Taken → List (Block C) → List (Block C)
named_blocks [] blocks = blocks
named_blocks (t ∷ ts) [] = []
named_blocks (t ∷ ts) (block ∷ blocks) = block_of t.id block.content ∷ named_blocks ts blocks

-- how many bytes the blocks of the entries have together, each block as often as it is listed
abbrev pub listed_len : Blob (List Piece) → List Taken → ℕ
listed_len b ts = blocks_len (taken_blocks b ts)

-- the fault of a list from its first block that is not found, the number of its entries, and the bytes of its blocks: the first of the
-- three faults whose cause exists
abbrev pub list_fault : Option ℕ → ℕ → ℕ → Option BlockFault
list_fault (Some i) count len = Some (fault.NotFound i)
list_fault None count len =
    if nat_lt entries_limit count then Some fault.TooMany
    else (if nat_lt blob_limit len then Some fault.TooLarge else None)

-- the fault of a list of wanted blocks
abbrev pub wanted_fault : Blob (List Piece) → List Wanted → Option BlockFault
wanted_fault b ws = list_fault (first_missing b ws) (length ws) (listed_len b (found_entries b ws))

-- the fault of a list whose entries say where their blocks are
abbrev pub taken_fault : Blob (List Piece) → List Taken → Option BlockFault
taken_fault b ts = list_fault (first_absent b ts) (length ts) (listed_len b ts)

-- each block that a list may take is in one piece
abbrev pub EachInOnePiece : Blob (List Piece) → Type 0
EachInOnePiece b = (s : BlockSource) (id : List ℕ) → IfSome (content_from s id b) (λ content. IsTrue (is_in_one_piece content))
