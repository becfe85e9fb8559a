-- What a change of a slot leaves, if it is taken, if it is in doubt, and if it is neither (Calder et al., SOSP 2011, section 5; that a
-- change may be in doubt is the stamp's own).
use Rattle.std.specs.Prelude.{Option, Some, None, Result, Ok, Err}
use Rattle.stamp_types.specs.declared.past.Past.{Past}
use Rattle.stream_manager.specs.declared.faults.StoredFault.{StoredFault}
use Rattle.partition_stream.specs.declared.faults.TakeFault.{TakeFault}
use Rattle.partition_stream.specs.declared.faults.TakeFault.TheVariants as fault
use Rattle.stored_rows.specs.declared.faults.Ended.{Ended}
use Rattle.slot_state.specs.HistoryMaps.{Histories, with_entry}
use Rattle.slot_state.specs.Slots.{SlotState}

-- the histories have the entry if its change is taken
abbrev pub with_taken : Result (Unit {0}) TakeFault → Histories → Past → Histories
with_taken (Ok u) h e = with_entry h e
with_taken (Err f) h e = h

-- the entry is in doubt if its change is
abbrev pub doubted_entry : Result (Unit {0}) TakeFault → Past → Option Past
doubted_entry (Err fault.Doubt) e = Some e
doubted_entry other e = None

-- the slot after a try of the change of an entry
abbrev pub slot_taken : Result (Unit {0}) TakeFault → SlotState → Past → SlotState
slot_taken r s e = record s { histories = with_taken r s.histories e; doubt = doubted_entry r e }

-- the entry stays in doubt if the settle fails
abbrev pub doubt_left : Result Ended StoredFault → Past → Option Past
doubt_left (Ok u) e = None
doubt_left (Err f) e = Some e
