-- Steps of a slot that settle a doubt and then leave the slot as it is.
use Rattle.std.proofs.Common.{◌≡◌, true, Option, None, Result, Ok, Err, sym, ap, subst}
use Rattle.std.specs.Arc.{arc_value}
use Rattle.std.specs.Prelude.{OnErr, OnOk}
use Rattle.extent_node.specs.Faults.{Calls}
use Rattle.extent_seal.specs.Counting.{Grows}
use Rattle.stamp_types.specs.declared.past.Past.{Past}
use Rattle.stream_manager.specs.declared.faults.StoredFault.{StoredFault}
use Rattle.stream_manager.specs.declared.faults.StoredFault.TheVariants as stored
use Rattle.stored_rows.specs.Checkpoints.{MeansTheRange}
use Rattle.stored_rows.specs.Counting.{FailsStored}
use Rattle.stored_rows.specs.States.{MeansTheSame, Stored, doubt_of}
use Rattle.stored_rows.proofs.CountLemmas.{fails_later, grows_twice}
use Rattle.slot_state.specs.HistoryMaps.{Histories}
use Rattle.slot_state.specs.Pairs.{Pairs}
use Rattle.stored_slot.specs.Meanings.{AreOfStreams, slot_with}
use Rattle.stored_slot.specs.Parts.{AreOfSlot, AreSettled, slot_of}
use Rattle.stored_slot.specs.Settled.{LeavesSettled, SettlesSlot}
use Rattle.stored_slot.specs.declared.parts.SlotParts.{SlotParts}
use Rattle.stored_slot.proofs.MeaningLemmas.{left_settled, range_kept, sealed_kept, slot_same}
use Rattle.stored_slot.proofs.ServeLemmas.{loaded, loaded_replays, loaded_slot, loaded_sure, none_kept, none_same, settled_parts}

-- a call that comes after others
pub stored_later : {T : Type 0} (r : Result T StoredFault) (a b c : Calls) → Grows a b → FailsStored r b c → FailsStored r a c
stored_later (Ok x) a b c grown counted = grows_twice a b c grown counted
stored_later (Err stored.Busy) a b c grown counted = fails_later a b c grown counted
stored_later (Err stored.NoMemory) a b c grown counted = grows_twice a b c grown counted

-- after a load that was made the rows are loaded
pub load_loads : (t u : Stored) (r : Result (Unit {0}) StoredFault) → OnOk r (u ≡ loaded t) → OnOk r (u.is_loaded ≡ true)
load_loads t u (Ok x) ok = ap (λ (v : Stored). v.is_loaded) ok
load_loads t u (Err f) ok = tt

module _ {H : Type 0} (held : H → Histories) (p m : SlotParts H) (settled : SettlesSlot (slot_of held p) (slot_of held m)) (are : AreOfSlot held m) where
  abbrev pairs : Pairs
  pairs = arc_value m.pairs

  abbrev h : Histories
  h = held m.histories

  abbrev d : Option Past
  d = m.doubt

  here : AreSettled held m
  here = settled_parts held p m settled are

  -- a load
  pub load_kept : (u : Stored) (r : Result (Unit {0}) StoredFault) → OnOk r (u ≡ loaded m.stored) → OnErr r (u ≡ m.stored) → AreOfStreams pairs h u d
  load_kept u (Ok x) ok err = none_kept pairs h u d (loaded_replays pairs h m.stored u ok here.replays) (loaded_sure pairs h m.stored u ok here.sure) here.none
  load_kept u (Err f) ok err = none_same pairs h m.stored u d err here.replays here.sure here.none

  load_slot : (u : Stored) (r : Result (Unit {0}) StoredFault) → OnOk r (u ≡ loaded m.stored) → OnErr r (u ≡ m.stored) → slot_with pairs h u d ≡ slot_of held m
  load_slot u (Ok x) ok err = loaded_slot pairs h m.stored u ok d
  load_slot u (Err f) ok err = ap (λ (x : Stored). slot_with pairs h x d) err

  pub load_left : (u : Stored) (r : Result (Unit {0}) StoredFault) → OnOk r (u ≡ loaded m.stored) → OnErr r (u ≡ m.stored) → LeavesSettled r (slot_of held p) (slot_with pairs h u d)
  load_left u r ok err = left_settled r (slot_of held p) (slot_of held m) (slot_with pairs h u d) settled (load_slot u r ok err)

  -- a seal
  pub seal_kept : (u : Stored) → MeansTheSame m.stored u → doubt_of u ≡ None → AreOfStreams pairs h u d
  seal_kept u same sure = subst (λ (x : Option Past). AreOfStreams pairs h u x) (sym here.none) (sealed_kept pairs h m.stored u here.replays same sure)

  pub seal_left : {T : Type 0} (u : Stored) (r : Result T StoredFault) → MeansTheSame m.stored u → LeavesSettled r (slot_of held p) (slot_with pairs h u d)
  seal_left u r same = left_settled r (slot_of held p) (slot_of held m) (slot_with pairs h u d) settled (slot_same pairs h m.stored u d same.range)

  -- a checkpoint
  pub checkpoint_kept : {T : Type 0} (u : Stored) (r : Result T StoredFault) → OnOk r (MeansTheRange m.stored u) → OnErr r (u ≡ m.stored) → doubt_of u ≡ None → AreOfStreams pairs h u d
  checkpoint_kept u (Ok x) ok err sure = subst (λ (y : Option Past). AreOfStreams pairs h u y) (sym here.none) (range_kept pairs h m.stored u here.replays ok sure)
  checkpoint_kept u (Err f) ok err sure = none_same pairs h m.stored u d err here.replays here.sure here.none

  checkpoint_slot : {T : Type 0} (u : Stored) (r : Result T StoredFault) → OnOk r (MeansTheRange m.stored u) → OnErr r (u ≡ m.stored) → slot_with pairs h u d ≡ slot_of held m
  checkpoint_slot u (Ok x) ok err = slot_same pairs h m.stored u d ok.range
  checkpoint_slot u (Err f) ok err = ap (λ (x : Stored). slot_with pairs h x d) err

  pub checkpoint_left : {T : Type 0} (u : Stored) (r : Result T StoredFault) → OnOk r (MeansTheRange m.stored u) → OnErr r (u ≡ m.stored) → LeavesSettled r (slot_of held p) (slot_with pairs h u d)
  checkpoint_left u r ok err = left_settled r (slot_of held p) (slot_of held m) (slot_with pairs h u d) settled (checkpoint_slot u r ok err)
