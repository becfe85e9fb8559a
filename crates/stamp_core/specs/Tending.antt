-- The answer of the machine to a care of a slot, and the value that goes with the care (Calder et al., SOSP 2011, sections 4 and 5).
use Rattle.std.specs.Prelude.{◌≡◌, ⊤, Result, Ok, Err}
use Rattle.core_run.specs.declared.step.Outcome.TheVariants as outcome
use Rattle.core_run.specs.declared.step.StepFault.TheVariants as fault
use Rattle.core_run.specs.Machine.{Answer}
use Rattle.stored_rows.specs.Repairs.{fault_of}
use Rattle.stamp_core.specs.CoreSteps.{fault_of_repair, fault_of_slot}
use Rattle.stamp_core.specs.declared.care.CoreCare.{CoreCare}
use Rattle.stamp_core.specs.declared.care.CoreCare.TheVariants as care
use Rattle.stamp_core.specs.declared.tended.Tended.{Tended}
use Rattle.stamp_core.specs.declared.tended.Tended.TheVariants as tended
use Rattle.stamp_core.specs.declared.tended.Untended.{Untended}
use Rattle.stamp_core.specs.declared.tended.Untended.TheVariants as untended

-- the answer of the machine: a care that was taken is made
abbrev pub care_answer : Result Tended Untended → Answer
care_answer (Ok given) = Ok outcome.Made
care_answer (Err untended.NoSuchSlot) = Err fault.NoSuchSlot
care_answer (Err (untended.Slot f)) = Err (fault_of_slot f)
care_answer (Err (untended.Repair f)) = Err (fault_of_repair (fault_of f))

-- the value is of this care, and the value of a repair is of this stream, this extent and this node
abbrev pub IsOf : CoreCare → Tended → Type 0
IsOf care.Settle tended.Settled = ⊤
IsOf care.Seal (tended.Sealed sealed) = ⊤
IsOf care.Load tended.Loaded = ⊤
IsOf care.Checkpoint (tended.Checkpointed replaced) = ⊤
IsOf care.Compact (tended.Swept swept) = ⊤
IsOf care.Unload (tended.Unloaded rows) = ⊤
IsOf (care.Move server) (tended.Moved rows) = ⊤
IsOf (care.Repair stream extent node) (tended.Repaired repaired) = repaired ≡ record { part = stream; extent = extent; node = node }
IsOf x other = ⊥
