-- What a repair of an extent does to a stream, and what the wire counts over it (SOSP 2011, section 4.3).
use Rattle.std.specs.Prelude.{◌≡◌, ◌⊎◌, ℕ, true, false, Result, Ok, Err, List, slice_set}
use Rattle.std.specs.List.{slice_get}
use Rattle.std.specs.Option.{option_map_or}
use Rattle.extent_node.specs.Faults.{Calls}
use Rattle.extent_node.specs.declared.wire.Node.{Node}
use Rattle.extent_seal.specs.Extents.{Closed, answer_of}
use Rattle.extent_seal.specs.Repairs.{Copies, FailsToCopy, with_copy}
use Rattle.extent_seal.specs.declared.sealed.ReadFault.{ReadFault}
use Rattle.extent_seal.specs.declared.sealed.ReadFault.TheVariants as read
use Rattle.stream_manager.specs.Streams.{Streamed}
use Rattle.stream_manager.specs.declared.faults.RepairFault.{RepairFault}
use Rattle.stream_manager.specs.declared.faults.RepairFault.TheVariants as fault

-- a fault of the copy is the fault of the repair
abbrev pub fault_of : ReadFault → RepairFault
fault_of read.Unreachable = fault.Unreachable
fault_of read.NoMemory = fault.NoMemory

-- the sealed extents, one of them with a copy on the node
abbrev pub with_copy_at : Node → ℕ → List Closed → List Closed
with_copy_at n e sealed = option_map_or (λ c. slice_set sealed e (with_copy n c)) (slice_get sealed e) sealed

-- the stream, one of its sealed extents with a copy on the node
abbrev pub repaired : Node → ℕ → Streamed → Streamed
repaired n e s = record { limit = s.limit; sealed = with_copy_at n e s.sealed; last = s.last }

-- no call, and no fault
pub record IsUnheard (old new failed_old failed_new : Calls) : Type 0 where
  pub uncalled : new ≡ old
  pub unfailed : failed_new ≡ failed_old

-- the calls of a repair of an extent on a node, and those that failed: no call if the node has a copy
pub record Repairs (n : Node) (e : Closed) (old new failed_old failed_new : Calls) : Type 0 where
  pub there : answer_of e.kept n ≡ true → IsUnheard old new failed_old failed_new
  pub lacking : answer_of e.kept n ≡ false → Copies n e old new failed_old failed_new

-- the calls of a repair by its result, and those that failed: a repair is Unreachable only if the node has no copy and gets no copy
abbrev pub CountsRepair : Result (Unit {0}) RepairFault → Node → Closed → Calls → Calls → Calls → Calls → Type 0
CountsRepair (Ok _) n e old new failed_old failed_new = Repairs n e old new failed_old failed_new
CountsRepair (Err fault.Unreachable) n e old new failed_old failed_new = (answer_of e.kept n ≡ false) × FailsToCopy n e old new failed_old failed_new
CountsRepair (Err fault.NoMemory) n e old new failed_old failed_new = (answer_of e.kept n ≡ false) × IsUnheard old new failed_old failed_new
CountsRepair (Err fault.NoSuchExtent) n e old new failed_old failed_new = ⊥

-- a repair was refused before a node was called
abbrev pub IsUnheardFault : Result (Unit {0}) RepairFault → Type 0
IsUnheardFault r = (r ≡ Err fault.NoSuchExtent) ⊎ (r ≡ Err fault.NoMemory)
