-- What becomes of a change of a slot that is in doubt (Calder et al., SOSP 2011, section 5; that a change may be in doubt is the stamp's own).
use Rattle.std.specs.Prelude.{◌≡◌, ◌⊎◌, Bool, true, false, Option, Some, None, IsSome, Result, Ok, Err}
use Rattle.stamp_values.specs.declared.key.Key.{Key}
use Rattle.stamp_types.specs.declared.past.Past.{Past}
use Rattle.stream_manager.specs.declared.faults.RepairFault.{RepairFault}
use Rattle.stream_manager.specs.declared.faults.RepairFault.TheVariants as repair
use Rattle.stream_manager.specs.declared.faults.StoredFault.{StoredFault}
use Rattle.stream_manager.specs.declared.faults.StoredFault.TheVariants as stored
use Rattle.stored_rows.specs.declared.faults.Ended.{Ended}
use Rattle.stored_rows.specs.declared.faults.Ended.TheVariants as ended
use Rattle.stored_rows.specs.declared.repaired.Unrepaired.{Unrepaired}
use Rattle.stored_rows.specs.declared.repaired.Unrepaired.TheVariants as unrepaired
use Rattle.slot_state.specs.HistoryMaps.{Histories, with_entry, without_last}
use Rattle.slot_state.specs.Slots.{SlotState, lower_half, upper_half}

-- the slot after its doubt was kept: the change is the last entry of its container
abbrev pub kept : SlotState → Past → SlotState
kept s e = record s { histories = with_entry s.histories e; doubt = None }

-- the slot after its doubt was dropped: the change was not made
abbrev pub dropped : SlotState → SlotState
dropped s = record s { doubt = None }

-- a change in doubt is kept or dropped, as a whole; without a doubt nothing changes
abbrev pub SettlesDoubtBy : Option Past → SlotState → SlotState → Type 0
SettlesDoubtBy None s t = t ≡ s
SettlesDoubtBy (Some e) s t = (t ≡ kept s e) ⊎ (t ≡ dropped s)

-- the doubt of the slot is settled, if there is one
abbrev pub SettlesSlot : SlotState → SlotState → Type 0
SettlesSlot s t = SettlesDoubtBy s.doubt s t

-- what a settle does: it settles the doubt; or it fails, which it does only if there is a doubt, and nothing changes
abbrev pub SettlesOrFails : Result (Unit {0}) StoredFault → SlotState → SlotState → Type 0
SettlesOrFails (Ok u) s t = SettlesSlot s t
SettlesOrFails (Err e) s t = IsSome s.doubt × (t ≡ s)

-- a step settles the doubt, and then changes nothing; or it fails, also before the doubt is settled
abbrev pub LeavesSettled : {T : Type 0} → Result T StoredFault → SlotState → SlotState → Type 0
LeavesSettled (Ok u) s t = SettlesSlot s t
LeavesSettled (Err e) s t = SettlesSlot s t ⊎ (IsSome s.doubt × (t ≡ s))

-- a slot without a doubt is cut: it is its lower half, and the upper half is answered; or the cut fails, and nothing changes
abbrev pub Cuts : Result SlotState StoredFault → SlotState → Key → SlotState → Type 0
Cuts (Ok upper) s middle t = (t ≡ lower_half s middle) × (upper ≡ upper_half s middle)
Cuts (Err e) s middle t = t ≡ s

-- a cut settles the doubt, and then the slot is its lower half, and the upper half is answered; or it fails, also before the doubt is settled
abbrev pub CutsSettled : Result SlotState StoredFault → SlotState → Key → SlotState → Type 0
CutsSettled (Ok upper) s middle t = (m : SlotState) × (SettlesSlot s m × ((t ≡ lower_half m middle) × (upper ≡ upper_half m middle)))
CutsSettled (Err e) s middle t = SettlesSlot s t ⊎ (IsSome s.doubt × (t ≡ s))

-- a repair settles the doubt, and then changes nothing, also if the stream has no such extent; or it fails, also before the doubt is settled
abbrev pub LeavesRepaired : Result (Unit {0}) RepairFault → SlotState → SlotState → Type 0
LeavesRepaired (Ok u) s t = SettlesSlot s t
LeavesRepaired (Err repair.NoSuchExtent) s t = SettlesSlot s t
LeavesRepaired (Err repair.Unreachable) s t = SettlesSlot s t ⊎ (IsSome s.doubt × (t ≡ s))
LeavesRepaired (Err repair.NoMemory) s t = SettlesSlot s t ⊎ (IsSome s.doubt × (t ≡ s))

-- what a repair answers if the doubt cannot be settled
abbrev pub repair_fault_of : StoredFault → Unrepaired
repair_fault_of stored.Busy = unrepaired.Unreachable
repair_fault_of stored.NoMemory = unrepaired.NoMemory

-- the histories after the change of an entry was settled: they have the entry if the change is kept
abbrev pub follows : Result Ended StoredFault → Histories → Past → Histories
follows (Ok ended.Kept) h e = with_entry h e
follows other h e = h

-- the change that was in doubt is kept
abbrev pub keeps_change : Result Ended StoredFault → Bool
keeps_change (Ok ended.Kept) = true
keeps_change other = false

-- the histories after an entry of the key was pushed: the entry stays, or is taken back
abbrev pub pushed_left : Bool → Histories → Key → Histories
pushed_left true h key = h
pushed_left false h key = without_last h key
