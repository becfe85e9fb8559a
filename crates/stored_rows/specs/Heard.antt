-- Calls of stored rows that hear: of each three asks one was answered, unless the call says that nodes were out of reach.
use Rattle.std.specs.Prelude.{⊤, Result, Ok, Err}
use Rattle.extent_node.specs.Faults.{Calls}
use Rattle.extent_seal.specs.Heard.{AsksAreHeard}
use Rattle.stamp_types.specs.Changes.{KeyedAct}
use Rattle.stream_manager.specs.declared.faults.StoredFault.{StoredFault}
use Rattle.stream_manager.specs.declared.faults.StoredFault.TheVariants as stored
use Rattle.partition_stream.specs.declared.faults.TakeFault.{TakeFault}
use Rattle.partition_stream.specs.declared.faults.TakeFault.TheVariants as take
use Rattle.stored_rows.specs.declared.logging.Unlogged.{Unlogged}
use Rattle.stored_rows.specs.declared.logging.Unlogged.TheVariants as log

-- if a call does what it should, or memory runs out, no ask of it was in vain at all nodes
abbrev pub HearsStored : {T : Type 0} → Result T StoredFault → Calls → Calls → Calls → Calls → Type 0
HearsStored (Ok _) old new failed_old failed_new = AsksAreHeard old new failed_old failed_new
HearsStored (Err stored.Busy) old new failed_old failed_new = ⊤
HearsStored (Err stored.NoMemory) old new failed_old failed_new = AsksAreHeard old new failed_old failed_new

-- the same of a change that is taken, and of rows that are written again
abbrev pub HearsTake : {T : Type 0} → Result T TakeFault → Calls → Calls → Calls → Calls → Type 0
HearsTake (Ok _) old new failed_old failed_new = AsksAreHeard old new failed_old failed_new
HearsTake (Err take.Busy) old new failed_old failed_new = ⊤
HearsTake (Err take.Doubt) old new failed_old failed_new = ⊤
HearsTake (Err take.NoMemory) old new failed_old failed_new = AsksAreHeard old new failed_old failed_new

-- the same of a change that is put and logged
abbrev pub HearsLogged : Result KeyedAct Unlogged → Calls → Calls → Calls → Calls → Type 0
HearsLogged (Ok _) old new failed_old failed_new = AsksAreHeard old new failed_old failed_new
HearsLogged (Err log.Busy) old new failed_old failed_new = ⊤
HearsLogged (Err (log.Doubt d)) old new failed_old failed_new = ⊤
HearsLogged (Err log.NoMemory) old new failed_old failed_new = AsksAreHeard old new failed_old failed_new
