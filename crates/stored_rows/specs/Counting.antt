-- How many faults the wire counts over calls of stored rows.
use Rattle.std.specs.Prelude.{◌<◌, Result, Ok, Err}
use Rattle.extent_node.specs.Faults.{Calls}
use Rattle.extent_seal.specs.Counting.{Grows, all_faults}
use Rattle.stamp_types.specs.Changes.{KeyedAct}
use Rattle.stream_manager.specs.declared.faults.StoredFault.{StoredFault}
use Rattle.stream_manager.specs.declared.faults.StoredFault.TheVariants as stored
use Rattle.partition_stream.specs.declared.faults.TakeFault.{TakeFault}
use Rattle.partition_stream.specs.declared.faults.TakeFault.TheVariants as take
use Rattle.stored_rows.specs.declared.logging.Unlogged.{Unlogged}
use Rattle.stored_rows.specs.declared.logging.Unlogged.TheVariants as log

-- a fault was counted, and no fault is taken back
abbrev pub Fails : Calls → Calls → Type 0
Fails old new = (all_faults old < all_faults new) × Grows old new

-- a change is not taken only if a fault was counted or memory ran out
abbrev pub FailsTake : Result (Unit {0}) TakeFault → Calls → Calls → Type 0
FailsTake (Ok _) old new = Grows old new
FailsTake (Err take.Busy) old new = Fails old new
FailsTake (Err take.Doubt) old new = Fails old new
FailsTake (Err take.NoMemory) old new = Grows old new

-- the same of a change that is put and logged
abbrev pub FailsLogged : Result KeyedAct Unlogged → Calls → Calls → Type 0
FailsLogged (Ok _) old new = Grows old new
FailsLogged (Err log.Busy) old new = Fails old new
FailsLogged (Err (log.Doubt d)) old new = Fails old new
FailsLogged (Err log.NoMemory) old new = Grows old new

-- a call is Busy only if a fault was counted in it
abbrev pub FailsStored : {T : Type 0} → Result T StoredFault → Calls → Calls → Type 0
FailsStored (Ok _) old new = Grows old new
FailsStored (Err stored.Busy) old new = Fails old new
FailsStored (Err stored.NoMemory) old new = Grows old new
