-- Repairs of a slot, which settle a doubt first.
use Rattle.std.proofs.Common.{◌≡◌, ◌≤◌, ◌∙◌, inl, inr, ℕ, IsSome, Result, Ok, Err, length, sym, ap, subst}
use Rattle.std.specs.Arc.{arc_value}
use Rattle.std.specs.Prelude.{◌↔◌, OnErr}
use Rattle.extent_node.specs.Faults.{Calls}
use Rattle.extent_node.specs.declared.wire.Node.{Node}
use Rattle.extent_seal.specs.Counting.{Grows}
use Rattle.stream_manager.specs.declared.faults.RepairFault.{RepairFault}
use Rattle.stream_manager.specs.declared.faults.RepairFault.TheVariants as repair
use Rattle.stream_manager.specs.declared.faults.StoredFault.{StoredFault}
use Rattle.stream_manager.specs.declared.faults.StoredFault.TheVariants as stored
use Rattle.partition_stream.specs.Repairs.{stream_of}
use Rattle.partition_stream.specs.declared.repair.StreamName.{StreamName}
use Rattle.stored_rows.specs.Counting.{FailsStored}
use Rattle.stored_rows.specs.Repairs.{FailsRepair, IsRepairOf, unnamed}
use Rattle.stored_rows.specs.States.{MeansTheSame, Stored, doubt_of, own_doubt}
use Rattle.stored_rows.specs.declared.repaired.Repaired.{Repaired}
use Rattle.stored_rows.specs.declared.repaired.Unrepaired.{Unrepaired}
use Rattle.stored_rows.proofs.CountLemmas.{fails_later, grows_twice}
use Rattle.slot_state.specs.HistoryMaps.{Histories}
use Rattle.slot_state.specs.Slots.{SlotState}
use Rattle.stored_slot.specs.Meanings.{AreOfStreams, slot_with}
use Rattle.stored_slot.specs.Parts.{AreOfSlot, slot_of}
use Rattle.stored_slot.specs.Settled.{LeavesRepaired, SettlesSlot, repair_fault_of}
use Rattle.stored_slot.specs.declared.parts.SlotParts.{SlotParts}
use Rattle.stored_slot.proofs.MeaningLemmas.{same_replays, slot_same}
use Rattle.stored_slot.proofs.ServeLemmas.{none_kept, settled_parts}

abbrev failed : RepairFault → Result (Unit {0}) RepairFault
failed f = Err f

-- ---- the settle failed

pub unrepaired : (f : StoredFault) (g : Unrepaired) (s t : SlotState) → g ≡ repair_fault_of f → IsSome s.doubt × (t ≡ s) → LeavesRepaired (unnamed (Err g)) s t
unrepaired stored.Busy g s t is same = subst (λ (x : Unrepaired). LeavesRepaired (unnamed (Err x)) s t) (sym is) (inr same)
unrepaired stored.NoMemory g s t is same = subst (λ (x : Unrepaired). LeavesRepaired (unnamed (Err x)) s t) (sym is) (inr same)

pub unrepaired_fails : (f : StoredFault) (g : Unrepaired) (a b : Calls) → g ≡ repair_fault_of f → FailsStored {T = Unit {0}} (Err f) a b → FailsRepair (unnamed (Err g)) a b
unrepaired_fails stored.Busy g a b is counted = subst (λ (x : Unrepaired). FailsRepair (unnamed (Err x)) a b) (sym is) counted
unrepaired_fails stored.NoMemory g a b is counted = subst (λ (x : Unrepaired). FailsRepair (unnamed (Err x)) a b) (sym is) counted

-- a failed settle names nothing
pub unrepaired_own : (f : StoredFault) (g : Unrepaired) (part : StreamName) (extent : ℕ) (node : Node) → g ≡ repair_fault_of f → IsRepairOf part extent node (Err g)
unrepaired_own stored.Busy g part extent node is = subst (λ (x : Unrepaired). IsRepairOf part extent node (Err x)) (sym is) tt
unrepaired_own stored.NoMemory g part extent node is = subst (λ (x : Unrepaired). IsRepairOf part extent node (Err x)) (sym is) tt

-- a failed settle does not say that the extent does not exist
pub unrepaired_unrefused : (f : StoredFault) (g : Unrepaired) (T : Type 0) → g ≡ repair_fault_of f → unnamed (Err g) ≡ failed repair.NoSuchExtent → T
unrepaired_unrefused stored.Busy g T is wrong = let no : failed repair.Unreachable ≡ failed repair.NoSuchExtent = ap (λ (x : Unrepaired). unnamed (Err x)) (sym is) ∙ wrong in absurd cc
unrepaired_unrefused stored.NoMemory g T is wrong = let no : failed repair.NoMemory ≡ failed repair.NoSuchExtent = ap (λ (x : Unrepaired). unnamed (Err x)) (sym is) ∙ wrong in absurd cc

-- ---- a repair after a settle

pub repair_later : (r : Result (Unit {0}) RepairFault) (a b c : Calls) → Grows a b → FailsRepair r b c → FailsRepair r a c
repair_later (Ok u) a b c grown counted = grows_twice a b c grown counted
repair_later (Err repair.NoSuchExtent) a b c grown counted = grows_twice a b c grown counted
repair_later (Err repair.Unreachable) a b c grown counted = fails_later a b c grown counted
repair_later (Err repair.NoMemory) a b c grown counted = grows_twice a b c grown counted

left_repaired : (r : Result (Unit {0}) RepairFault) (s m t : SlotState) → SettlesSlot s m → t ≡ m → LeavesRepaired r s t
left_repaired (Ok u) s m t settled same = subst (λ (x : SlotState). SettlesSlot s x) (sym same) settled
left_repaired (Err repair.NoSuchExtent) s m t settled same = subst (λ (x : SlotState). SettlesSlot s x) (sym same) settled
left_repaired (Err repair.Unreachable) s m t settled same = inl (subst (λ (x : SlotState). SettlesSlot s x) (sym same) settled)
left_repaired (Err repair.NoMemory) s m t settled same = inl (subst (λ (x : SlotState). SettlesSlot s x) (sym same) settled)

module _ {H : Type 0} (held : H → Histories) (p m : SlotParts H) (settled : SettlesSlot (slot_of held p) (slot_of held m)) (are : AreOfSlot held m) where
  pub repair_kept : (u : Stored) → MeansTheSame m.stored u → doubt_of u ≡ doubt_of m.stored → AreOfStreams (arc_value m.pairs) (held m.histories) u m.doubt
  repair_kept u same doubt =
      let here = settled_parts held p m settled are in
      none_kept (arc_value m.pairs) (held m.histories) u m.doubt (same_replays (arc_value m.pairs) (held m.histories) m.stored u here.replays same.range same.bytes)
      (ap own_doubt doubt ∙ here.sure) here.none

  pub repair_left : (u : Stored) (r : Result (Unit {0}) RepairFault) → MeansTheSame m.stored u → LeavesRepaired r (slot_of held p) (slot_with (arc_value m.pairs) (held m.histories) u m.doubt)
  repair_left u r same =
      left_repaired r (slot_of held p) (slot_of held m) (slot_with (arc_value m.pairs) (held m.histories) u m.doubt) settled
      (slot_same (arc_value m.pairs) (held m.histories) m.stored u m.doubt same.range)

-- the extent does not exist after the repair if it did not exist before it
pub refused_still : (part : StreamName) (e : ℕ) (s t : Stored) (r : Result Repaired Unrepaired) → ((unnamed r ≡ failed repair.NoSuchExtent) ↔ (length (stream_of part s.streams).sealed ≤ e)) → OnErr r (t ≡ s)
    → unnamed r ≡ failed repair.NoSuchExtent → length (stream_of part t.streams).sealed ≤ e
refused_still part e s t (Ok u) refused same is = cc
refused_still part e s t (Err f) refused same is = subst (λ (x : Stored). length (stream_of part x.streams).sealed ≤ e) (sym same) (refused.0 is)
