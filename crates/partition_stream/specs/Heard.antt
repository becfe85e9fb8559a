-- Calls of the streams that hear: of each three asks one was answered, unless the call says that nodes were out of reach.
use Rattle.std.specs.Prelude.{⊤, Result, Ok, Err}
use Rattle.extent_node.specs.Faults.{Calls}
use Rattle.extent_seal.specs.Heard.{AsksAreHeard}
use Rattle.partition_stream.specs.declared.faults.CompactionFault.{CompactionFault}
use Rattle.partition_stream.specs.declared.faults.CompactionFault.TheVariants as compaction_fault

-- if content is put again, or memory runs out, no ask was in vain at all nodes
abbrev pub HearsCompaction : {T : Type 0} → Result T CompactionFault → Calls → Calls → Calls → Calls → Type 0
HearsCompaction (Ok moved) old new failed_old failed_new = AsksAreHeard old new failed_old failed_new
HearsCompaction (Err compaction_fault.Busy) old new failed_old failed_new = ⊤
HearsCompaction (Err compaction_fault.Unreachable) old new failed_old failed_new = ⊤
HearsCompaction (Err compaction_fault.NoMemory) old new failed_old failed_new = AsksAreHeard old new failed_old failed_new
