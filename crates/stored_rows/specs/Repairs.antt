-- What a repair of an extent of stored rows leaves, and what the wire counts over it (SOSP 2011, section 4.3).
use Rattle.std.specs.Prelude.{◌≡◌, ⊤, ℕ, true, IsSomeAnd, Result, Ok, Err}
use Rattle.std.specs.List.{slice_get}
use Rattle.extent_node.specs.Faults.{Calls}
use Rattle.extent_node.specs.declared.wire.Node.{Node}
use Rattle.extent_seal.specs.Counting.{Grows}
use Rattle.extent_seal.specs.Extents.{answer_of}
use Rattle.stream_manager.specs.Streams.{Streamed}
use Rattle.stream_manager.specs.declared.faults.RepairFault.{RepairFault}
use Rattle.stream_manager.specs.declared.faults.RepairFault.TheVariants as repair
use Rattle.partition_stream.specs.declared.repair.StreamName.{StreamName}
use Rattle.stored_rows.specs.Counting.{Fails}
use Rattle.stored_rows.specs.declared.repaired.Repaired.{Repaired}
use Rattle.stored_rows.specs.declared.repaired.Unrepaired.{Unrepaired}
use Rattle.stored_rows.specs.declared.repaired.Unrepaired.TheVariants as unrepaired

-- the fault of a repair, without the stream and the extent
abbrev pub fault_of : Unrepaired → RepairFault
fault_of (unrepaired.NoSuchExtent none) = repair.NoSuchExtent
fault_of unrepaired.Unreachable = repair.Unreachable
fault_of unrepaired.NoMemory = repair.NoMemory

-- what a repair answers, without the stream, the extent and the node
abbrev pub unnamed : Result Repaired Unrepaired → Result (Unit {0}) RepairFault
unnamed (Ok r) = Ok tt
unnamed (Err e) = Err (fault_of e)

-- the answer is of this stream, of this extent and of this node
abbrev pub IsRepairOf : StreamName → ℕ → Node → Result Repaired Unrepaired → Type 0
IsRepairOf part extent node (Ok r) = r ≡ record { part = part; extent = extent; node = node }
IsRepairOf part extent node (Err (unrepaired.NoSuchExtent none)) = none ≡ record { part = part; extent = extent }
IsRepairOf part extent node (Err unrepaired.Unreachable) = ⊤
IsRepairOf part extent node (Err unrepaired.NoMemory) = ⊤

-- a sealed extent of the stream has this number, and the node has a copy of it
abbrev pub HasCopyOn : Node → ℕ → Streamed → Type 0
HasCopyOn node extent s = IsSomeAnd (slice_get s.sealed extent) (λ e. answer_of e.kept node ≡ true)

-- a repair is Unreachable only if a fault was counted in it
abbrev pub FailsRepair : Result (Unit {0}) RepairFault → Calls → Calls → Type 0
FailsRepair (Ok _) old new = Grows old new
FailsRepair (Err repair.NoSuchExtent) old new = Grows old new
FailsRepair (Err repair.Unreachable) old new = Fails old new
FailsRepair (Err repair.NoMemory) old new = Grows old new
