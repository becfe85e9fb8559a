-- The changes whose records blocks are (SOSP 2011, section 5: the commit log).
use Rattle.std.specs.Prelude.{ℕ, List, Option}
use Rattle.std.specs.List.{filter_map}
use Rattle.std.specs.Result.{result_ok}
use Rattle.extent_node.specs.Copies.{Block}
use Rattle.stamp_types.specs.Changes.{KeyedAct}
use Rattle.log_record.specs.ReadRecords.{record_of}

-- a change, and the epoch that its record says
abbrev pub Recorded : Type 0
Recorded = KeyedAct × ℕ

-- the change whose record the block is, if it is a record
abbrev pub change_in : Block → Option Recorded
change_in block = result_ok (record_of block)

-- the changes whose records the blocks are, in their order
abbrev pub changes_of : List Block → List Recorded
changes_of blocks = filter_map change_in blocks
