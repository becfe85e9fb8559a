-- Steps of a sweep of a slot: each container is what it was.
use Rattle.std.proofs.Common.{◌≡◌, ◌∙◌, true, cond, Bool, Option, Some, None, List, Result, Ok, Err, refl, sym, ap, subst}
use Rattle.std.specs.Arc.{arc_value}
use Rattle.extent_node.specs.Copies.{Block}
use Rattle.extent_node.specs.Faults.{Calls}
use Rattle.extent_seal.specs.Counting.{Grows}
use Rattle.stamp_values.specs.declared.key.Key.{Key}
use Rattle.stamp_types.specs.ActKinds.{is_row}
use Rattle.stamp_types.specs.World.{Part}
use Rattle.stamp_types.specs.declared.act.Act.{Act}
use Rattle.stamp_types.specs.declared.act.Act.TheVariants as act
use Rattle.stamp_types.specs.declared.past.Past.{Past}
use Rattle.stamp_types.specs.declared.piece.Piece.{Piece}
use Rattle.stream_manager.specs.Streams.{laid}
use Rattle.stream_manager.specs.declared.faults.StoredFault.{StoredFault}
use Rattle.stream_manager.specs.declared.faults.StoredFault.TheVariants as stored
use Rattle.partition_stream.specs.Changes.{Recorded}
use Rattle.partition_stream.specs.Meanings.{held_of}
use Rattle.partition_stream.specs.Streams.{HaveSameLimits, logged}
use Rattle.partition_stream.specs.declared.faults.TakeFault.{TakeFault}
use Rattle.partition_stream.specs.declared.faults.TakeFault.TheVariants as take
use Rattle.stored_rows.specs.Compactions.{KeepsTheRange}
use Rattle.stored_rows.specs.Counting.{FailsStored, FailsTake}
use Rattle.stored_rows.specs.Ranges.{covers}
use Rattle.stored_rows.specs.Rewriting.{FailsStep, LeavesRowDoubt}
use Rattle.stored_rows.specs.States.{MeansTheSame, Stored, bytes_of, doubt_of, own_doubt, own_doubt_of}
use Rattle.stored_rows.specs.Swept.{IsAgain, IsRowInDoubt}
use Rattle.stored_rows.specs.declared.key_range.KeyRange.{KeyRange}
use Rattle.stored_rows.proofs.CountLemmas.{fails_later, grows_twice}
use Rattle.stored_rows.proofs.SteppedLemmas.{range_twice}
use Rattle.slot_state.specs.HistoryMaps.{Histories}
use Rattle.slot_state.specs.Pairs.{Pairs}
use Rattle.slot_state.specs.Slots.{SlotState}
use Rattle.stored_slot.specs.Changes.{slot_taken}
use Rattle.stored_slot.specs.Meanings.{AreOfStreams, AreReplays, slot_with}
use Rattle.stored_slot.specs.Parts.{AreOfSlot, AreSettled, slot_of}
use Rattle.stored_slot.specs.Settled.{LeavesSettled, SettlesSlot}
use Rattle.stored_slot.specs.Sweeps.{KeepsContainers, fault_before, row_fault}
use Rattle.stored_slot.specs.declared.parts.SlotParts.{SlotParts}
use Rattle.stored_slot.proofs.MeaningLemmas.{left_settled, same_replays, slot_same, sure_own}
use Rattle.stored_slot.proofs.ServeLemmas.{none_kept, settled_parts}

-- ---- rows that are kept beside

pub beside_itself : (s t : Stored) → t ≡ s → own_doubt_of s ≡ None → HaveSameLimits s.streams s.streams → KeepsContainers s t
beside_itself s t same own limits =
    subst (KeepsContainers s) (sym same) (record { kept = record { bytes = λ key covered. refl; range = refl; limits = limits }; own = own })

pub beside_twice : (s m t : Stored) → KeepsContainers s m → KeepsContainers m t → KeepsContainers s t
beside_twice s m t first then = record { kept = range_twice s m t first.kept then.kept; own = then.own }

-- rows that mean the same, without a doubt
pub begun_beside : (s t : Stored) → MeansTheSame s t → HaveSameLimits s.streams t.streams → doubt_of t ≡ None → KeepsContainers s t
begun_beside s t same limits sure = record {
  kept = record { bytes = λ key covered. same.bytes key; range = same.range; limits = limits };
  own = sure_own t sure;
}

-- rows of which something was given up, without a doubt
pub swept_beside : (s t : Stored) → KeepsTheRange s t → doubt_of t ≡ None → KeepsContainers s t
swept_beside s t kept sure = record { kept = kept; own = sure_own t sure }

-- rows whose doubt of a row ended, or could not end
pub ended_beside : (s t : Stored) → ((key : Key) → bytes_of t key ≡ bytes_of s key) → t.range ≡ s.range → HaveSameLimits s.streams t.streams → own_doubt_of t ≡ None → KeepsContainers s t
ended_beside s t bytes range limits own = record {
  kept = record { bytes = λ key covered. bytes key; range = range; limits = limits };
  own = own;
}

-- ---- a row that is in doubt is no doubt of its own

again_is_row : (es : List (List Block)) (p : Part (List Piece)) (a : Act) → IsAgain es p a → is_row a ≡ true
again_is_row es p (act.StoredBlob row) again = refl
again_is_row es p (act.ContainerRow row) again = refl
again_is_row es p other again = absurd again

row_own : (s : Stored) (c : Recorded) → IsRowInDoubt s.streams c → own_doubt_of s ≡ None
row_own s c is =
    ap own_doubt is.doubt
    ∙ ap (λ (b : Bool). cond b None (Some c)) (again_is_row (laid s.streams.blobs) (held_of (logged s.streams) c.0.key) c.0.act is.again)

pub left_own : {T : Type 0} (r : Result T TakeFault) (t : Stored) → LeavesRowDoubt r t.streams → own_doubt_of t ≡ None
left_own (Ok x) t left = sure_own t left
left_own (Err take.Doubt) t left = row_own t left.0 left.1
left_own (Err take.Busy) t left = sure_own t left
left_own (Err take.NoMemory) t left = sure_own t left

-- rows that were written, or not
pub touched_beside : {T : Type 0} (r : Result T TakeFault) (s t : Stored) → KeepsTheRange s t → LeavesRowDoubt r t.streams → KeepsContainers s t
touched_beside r s t kept left = record { kept = kept; own = left_own r t left }

-- ---- faults

pub row_counted : (f : TakeFault) (g : StoredFault) (a b : Calls) → g ≡ row_fault f → FailsStep {T = Unit {0}} (Err f) a b → FailsStored {T = Unit {0}} (Err g) a b
row_counted take.Busy g a b is counted = subst (λ (x : StoredFault). FailsStored {T = Unit {0}} (Err x) a b) (sym is) counted
row_counted take.Doubt g a b is counted = subst (λ (x : StoredFault). FailsStored {T = Unit {0}} (Err x) a b) (sym is) counted
row_counted take.NoMemory g a b is counted = subst (λ (x : StoredFault). FailsStored {T = Unit {0}} (Err x) a b) (sym is) counted

pub before_counted : (f : StoredFault) (g : TakeFault) (a b : Calls) → g ≡ fault_before f → FailsStored {T = Unit {0}} (Err f) a b → FailsTake (Err g) a b
before_counted stored.Busy g a b is counted = subst (λ (x : TakeFault). FailsTake (Err x) a b) (sym is) counted
before_counted stored.NoMemory g a b is counted = subst (λ (x : TakeFault). FailsTake (Err x) a b) (sym is) counted

-- a change that is tried after other calls
pub take_later : (r : Result (Unit {0}) TakeFault) (a b c : Calls) → Grows a b → FailsTake r b c → FailsTake r a c
take_later (Ok u) a b c grown counted = grows_twice a b c grown counted
take_later (Err take.Busy) a b c grown counted = fails_later a b c grown counted
take_later (Err take.Doubt) a b c grown counted = fails_later a b c grown counted
take_later (Err take.NoMemory) a b c grown counted = grows_twice a b c grown counted

-- a change that was not tried, since a row before it was not written, leaves the slot as it was
pub before_taken : (f : StoredFault) (g : TakeFault) (s t : SlotState) (e : Past) → g ≡ fault_before f → s.doubt ≡ None → t ≡ s → t ≡ slot_taken (Err g) s e
before_taken f g s t e is none same =
    same ∙ untried f ∙ ap (λ (x : TakeFault). slot_taken (Err x) s e) (sym is)
  where
    untried : (f : StoredFault) → s ≡ slot_taken (Err (fault_before f)) s e
    untried stored.Busy = ap (λ (d : Option Past). record s { doubt = d }) none
    untried stored.NoMemory = ap (λ (d : Option Past). record s { doubt = d }) none

-- ---- what a slot keeps

beside_replays : (pairs : Pairs) (h : Histories) (s t : Stored) → AreReplays pairs h s → KeepsContainers s t → AreReplays pairs h t
beside_replays pairs h s t are beside = record {
  numbered = are.numbered;
  bytes = λ key covered.
      let own : covers s.range key ≡ true = sym (ap (λ (r : KeyRange). covers r key) beside.kept.range) ∙ covered in
      beside.kept.bytes key own ∙ are.bytes key own;
  legal = are.legal;
  latest = are.latest;
}

module _ {H : Type 0} (held : H → Histories) (p : SlotParts H) (u : Stored) (are : AreSettled held p) (beside : KeepsContainers p.stored u) where
  pub beside_settled : AreSettled held (record p { stored = u })
  beside_settled = record {
    replays = beside_replays (arc_value p.pairs) (held p.histories) p.stored u are.replays beside;
    sure = beside.own;
    none = are.none;
  }

  pub beside_kept : AreOfStreams (arc_value p.pairs) (held p.histories) u p.doubt
  beside_kept = none_kept (arc_value p.pairs) (held p.histories) u p.doubt (beside_replays (arc_value p.pairs) (held p.histories) p.stored u are.replays beside) beside.own are.none

  pub beside_slot : slot_with (arc_value p.pairs) (held p.histories) u p.doubt ≡ slot_of held p
  beside_slot = slot_same (arc_value p.pairs) (held p.histories) p.stored u p.doubt beside.kept.range

module _ {H : Type 0} (held : H → Histories) (p m : SlotParts H) (settled : SettlesSlot (slot_of held p) (slot_of held m)) (are : AreOfSlot held m) (u : Stored)
    (beside : KeepsContainers m.stored u) where
  pub swept_kept : AreOfStreams (arc_value m.pairs) (held m.histories) u m.doubt
  swept_kept = beside_kept held m u (settled_parts held p m settled are) beside

  pub swept_left : {T : Type 0} (r : Result T StoredFault) → LeavesSettled r (slot_of held p) (slot_with (arc_value m.pairs) (held m.histories) u m.doubt)
  swept_left r =
      left_settled r (slot_of held p) (slot_of held m) (slot_with (arc_value m.pairs) (held m.histories) u m.doubt) settled
      (beside_slot held m u (settled_parts held p m settled are) beside)
