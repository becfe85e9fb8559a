-- Cares of a slot that its lock lends.
use Rattle.std.proofs.Common.{◌≡◌, ◌≢◌, ℕ, List, Result, Ok, Err, refl, subst}
use Rattle.extent_node.specs.Faults.{Calls}
use Rattle.extent_node.specs.declared.wire.Node.{Node}
use Rattle.partition_stream.specs.declared.repair.StreamName.{StreamName}
use Rattle.stamp_values.specs.declared.key.Key.{Key}
use Rattle.stream_manager.specs.declared.faults.StoredFault.{StoredFault}
use Rattle.stream_manager.specs.declared.faults.StoredFault.TheVariants as stored
use Rattle.stored_rows.specs.Counting.{FailsStored}
use Rattle.stored_rows.specs.Repairs.{FailsRepair, IsRepairOf, unnamed}
use Rattle.stored_rows.specs.declared.repaired.Repaired.{Repaired}
use Rattle.stored_rows.specs.declared.repaired.Unrepaired.{Unrepaired}
use Rattle.slot_state.specs.Slots.{SlotState}
use Rattle.stored_slot.specs.Settled.{LeavesRepaired, LeavesSettled, SettlesOrFails}
use Rattle.stamp_locks.specs.declared.care.Care.{Care}
use Rattle.stamp_locks.specs.declared.care.Care.TheVariants as care
use Rattle.stamp_locks.specs.declared.faults.TendFault.{TendFault}
use Rattle.stamp_locks.specs.declared.faults.TendFault.TheVariants as tend
use Rattle.stamp_locks.specs.Lent.{BeginsSpan, IsTended, TendsLent, told_repair, told_slot}

module _ (s s' : SlotState) (old new : Calls) where
  pub settled : (r : Result (Unit {0}) StoredFault) → SettlesOrFails r s s' → FailsStored r old new → TendsLent care.Settle s old new (told_slot r) s'
  settled (Ok u) left counted = (left, counted)
  settled (Err f) left counted = (left, counted)

  pub sealed : (r : Result (Unit {0}) StoredFault) → LeavesSettled r s s' → FailsStored r old new → TendsLent care.Seal s old new (told_slot r) s'
  sealed (Ok u) left counted = (left, counted)
  sealed (Err f) left counted = (left, counted)

  pub loaded : (r : Result (Unit {0}) StoredFault) → LeavesSettled r s s' → FailsStored r old new → TendsLent care.Load s old new (told_slot r) s'
  loaded (Ok u) left counted = (left, counted)
  loaded (Err f) left counted = (left, counted)

  pub written : (r : Result (Unit {0}) StoredFault) → LeavesSettled r s s' → FailsStored r old new → TendsLent care.Checkpoint s old new (told_slot r) s'
  written (Ok u) left counted = (left, counted)
  written (Err f) left counted = (left, counted)

  pub swept : (r : Result (Unit {0}) StoredFault) → LeavesSettled r s s' → FailsStored r old new → TendsLent care.Compact s old new (told_slot r) s'
  swept (Ok u) left counted = (left, counted)
  swept (Err f) left counted = (left, counted)

  pub repaired : (stream : StreamName) (extent : ℕ) (node : Node) (r : Result Repaired Unrepaired) → IsRepairOf stream extent node r → LeavesRepaired (unnamed r) s s' → FailsRepair (unnamed r) old new
      → TendsLent (care.Repair stream extent node) s old new (told_repair r) s'
  repaired stream extent node r own left counted = record { called = r; told = refl; own = own; left = left; counted = counted }

-- ---- as it is told outside of the lock

-- a care that was taken does not say that no slot has the number
not_taken : (r : Result (Unit {0}) TendFault) → r ≡ Err tend.NoSuchSlot → r ≡ Ok tt → ⊥
not_taken r is taken = cc

not_repaired : (called : Result Repaired Unrepaired) → Err tend.NoSuchSlot ≡ told_repair called → ⊥
not_repaired (Ok r) is = cc
not_repaired (Err f) is = cc

module _ (s s' : SlotState) (old new : Calls) where
  not_lent : (x : Care) → TendsLent x s old new (Err tend.NoSuchSlot) s' → ⊥
  not_lent care.Settle tended = tended
  not_lent care.Seal tended = tended
  not_lent care.Load tended = tended
  not_lent care.Checkpoint tended = tended
  not_lent care.Compact tended = tended
  not_lent care.Unload tended = not_taken (Err tend.NoSuchSlot) refl tended.0
  not_lent (care.Repair stream extent node) tended = not_repaired tended.called tended.told

  -- a slot that was tended exists
  pub exists_still : (x : Care) (r : Result (Unit {0}) TendFault) → TendsLent x s old new r s' → r ≢ Err tend.NoSuchSlot
  exists_still x r tended = λ is. not_lent x (subst (λ (a : Result (Unit {0}) TendFault). TendsLent x s old new a s') is tended)

module _ {W : Type 0} (faults : W → Calls) (points : List Key) (i : ℕ) (x : Care) (s s' : SlotState) (old new : W) where
  pub told_tended : (r : Result (Unit {0}) TendFault) → BeginsSpan points i s → TendsLent x s (faults old) (faults new) r s' → IsTended faults i x r
  told_tended (Ok u) begins tended = record { points = points; slot = s; next = s'; old = old; new = new; begins = begins; tended = tended }
  told_tended (Err tend.NoSuchSlot) begins tended = absurd (not_lent s s' (faults old) (faults new) x tended)
  told_tended (Err (tend.Slot stored.Busy)) begins tended = record { points = points; slot = s; next = s'; old = old; new = new; begins = begins; tended = tended }
  told_tended (Err (tend.Slot stored.NoMemory)) begins tended = tt
  told_tended (Err (tend.Repair f)) begins tended = record { points = points; slot = s; next = s'; old = old; new = new; begins = begins; tended = tended }
