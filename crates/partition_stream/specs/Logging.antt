-- What the append of a record does to a log.
use Rattle.std.specs.Prelude.{◌≡◌, ◌⊎◌, ℕ, Option, Some, None, Result, Ok, Err, List, [], ◌∷◌, ◌++◌}
use Rattle.extent_node.specs.Copies.{Block}
use Rattle.extent_node.specs.Faults.{held}
use Rattle.stream_manager.specs.Places.{blocks_of, is_kept}
use Rattle.stream_manager.specs.Streams.{Streamed, laid}
use Rattle.partition_stream.specs.declared.faults.TakeFault.{TakeFault}
use Rattle.partition_stream.specs.declared.faults.TakeFault.TheVariants as fault

-- the log has the block that was in doubt, if it was kept, and then these blocks, and this block is in doubt
pub record HasMore (s : Streamed) (added : List Block) (tried : Option Block) (t : Streamed) : Type 0 where
  pub blocks : blocks_of (laid t) ≡ blocks_of (laid s) ++ (held (is_kept (laid s) s.last (laid t)) s.last.tried ++ added)
  pub left : t.last.tried ≡ tried

-- the log has the same blocks, and the same doubt
pub record IsSameStream (s t : Streamed) : Type 0 where
  pub blocks : laid t ≡ laid s
  pub last : t.last ≡ s.last

-- the append of a record, which is never too large
abbrev pub IsRecordAppended : Result ℕ TakeFault → Streamed → Block → Streamed → Type 0
IsRecordAppended (Ok _) s block t = HasMore s (block ∷ []) None t
IsRecordAppended (Err fault.Doubt) s block t = HasMore s [] (Some block) t
IsRecordAppended (Err fault.Busy) s block t = HasMore s [] None t ⊎ IsSameStream s t
IsRecordAppended (Err fault.NoMemory) s block t = t ≡ s
