-- Rows that a sweep writes again beside the changes of a slot (Calder et al., SOSP 2011, section 5.3: checkpoints). The stamp's own
-- rule is that a row may be in doubt beside.
use Rattle.std.specs.Prelude.{◌≡◌, None}
use Rattle.stream_manager.specs.declared.faults.StoredFault.{StoredFault}
use Rattle.stream_manager.specs.declared.faults.StoredFault.TheVariants as stored
use Rattle.partition_stream.specs.declared.faults.TakeFault.{TakeFault}
use Rattle.partition_stream.specs.declared.faults.TakeFault.TheVariants as take
use Rattle.stored_rows.specs.Compactions.{KeepsTheRange}
use Rattle.stored_rows.specs.States.{Stored, own_doubt_of}

-- each container of the range is as it was, and at most a row is in doubt
pub record KeepsContainers (s t : Stored) : Type 0 where
  pub kept : KeepsTheRange s t
  pub own : own_doubt_of t ≡ None

-- what a slot answers if a row was not written: it does not wait until it is known whether a row is kept, since each container is the same
abbrev pub row_fault : TakeFault → StoredFault
row_fault take.Busy = stored.Busy
row_fault take.Doubt = stored.Busy
row_fault take.NoMemory = stored.NoMemory

-- what a change answers if the rows that it reads were not written
abbrev pub fault_before : StoredFault → TakeFault
fault_before stored.Busy = take.Busy
fault_before stored.NoMemory = take.NoMemory
