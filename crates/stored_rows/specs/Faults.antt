-- Which fault of stored rows a fault of streams is.
use Rattle.stamp_types.specs.Changes.{KeyedAct}
use Rattle.extent_seal.specs.declared.sealed.ReadFault.{ReadFault}
use Rattle.extent_seal.specs.declared.sealed.ReadFault.TheVariants as read
use Rattle.stream_manager.specs.declared.faults.StoredFault.{StoredFault}
use Rattle.stream_manager.specs.declared.faults.StoredFault.TheVariants as stored
use Rattle.partition_stream.specs.declared.faults.CompactionFault.{CompactionFault}
use Rattle.partition_stream.specs.declared.faults.CompactionFault.TheVariants as compaction
use Rattle.partition_stream.specs.declared.faults.TakeFault.{TakeFault}
use Rattle.partition_stream.specs.declared.faults.TakeFault.TheVariants as take
use Rattle.stored_rows.specs.declared.logging.Unlogged.{Unlogged}
use Rattle.stored_rows.specs.declared.logging.Unlogged.TheVariants as unlogged

-- the fault of a change whose content was not put
abbrev pub unlogged_of_put : StoredFault → Unlogged
unlogged_of_put stored.Busy = unlogged.Busy
unlogged_of_put stored.NoMemory = unlogged.NoMemory

-- the fault of a change that was not logged
abbrev pub unlogged_by : TakeFault → KeyedAct → Unlogged
unlogged_by take.Busy kept = unlogged.Busy
unlogged_by take.Doubt kept = unlogged.Doubt kept
unlogged_by take.NoMemory kept = unlogged.NoMemory

-- the fault of a load whose read failed
abbrev pub stored_fault_of_read : ReadFault → StoredFault
stored_fault_of_read read.Unreachable = stored.Busy
stored_fault_of_read read.NoMemory = stored.NoMemory

-- the fault of a row whose content was not put again
abbrev pub stored_fault_of_compaction : CompactionFault → StoredFault
stored_fault_of_compaction compaction.Busy = stored.Busy
stored_fault_of_compaction compaction.Unreachable = stored.Busy
stored_fault_of_compaction compaction.NoMemory = stored.NoMemory
