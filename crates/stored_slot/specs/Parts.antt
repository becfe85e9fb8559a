-- What the parts of a slot are, as one slot (Calder et al., SOSP 2011, section 5: a range partition, its commit log and its data). That a
-- slot has these parts is the stamp's own.
use Rattle.std.specs.Prelude.{◌≡◌, ℕ, None}
use Rattle.std.specs.Arc.{arc_value}
use Rattle.stamp_types.specs.Changes.{KeyedAct}
use Rattle.stamp_types.specs.declared.past.Past.{Past}
use Rattle.stamp_types.specs.declared.reply.Reply.{Reply}
use Rattle.stamp_types.specs.Requests.{Asked}
use Rattle.range_partition.specs.declared.framed.FramedDecision.{FramedDecision}
use Rattle.stored_rows.specs.States.{doubt_of, own_doubt_of}
use Rattle.slot_state.specs.HistoryMaps.{Histories}
use Rattle.slot_state.specs.Slots.{IsReplyFor, SlotState}
use Rattle.stored_slot.specs.Decided.{DecidesFor}
use Rattle.stored_slot.specs.Meanings.{AreOfStreams, AreReplays, MakesChange, slot_with}
use Rattle.stored_slot.specs.declared.parts.SlotParts.{SlotParts}

-- the slot that has these parts
abbrev pub slot_of : {H : Type 0} → (H → Histories) → SlotParts H → SlotState
slot_of held p = slot_with (arc_value p.pairs) (held p.histories) p.stored p.doubt

-- what is true of the parts of every slot
abbrev pub AreOfSlot : {H : Type 0} → (H → Histories) → SlotParts H → Type 0
AreOfSlot held p = AreOfStreams (arc_value p.pairs) (held p.histories) p.stored p.doubt

-- what is true of the parts of every slot without a doubt; a row that a sweep has written may be in doubt
pub record AreSettled {H : Type 0} (held : H → Histories) (p : SlotParts H) : Type 0 where
  pub replays : AreReplays (arc_value p.pairs) (held p.histories) p.stored
  pub sure : own_doubt_of p.stored ≡ None
  pub none : p.doubt ≡ None

-- the streams have no doubt, not of a row either
abbrev pub AreClear : {H : Type 0} → SlotParts H → Type 0
AreClear p = doubt_of p.stored ≡ None

-- the request of the entry makes this change of the slot
abbrev pub MakesChangeOf : {H : Type 0} → (H → Histories) → SlotParts H → Past → KeyedAct → Type 0
MakesChangeOf held p e c = MakesChange (arc_value p.pairs) (held p.histories) p.stored e c

-- the reply is the model's to a request that the slot serves now
abbrev pub IsReplyOf : {H : Type 0} → (H → Histories) → SlotParts H → Asked → ℕ → Reply → Type 0
IsReplyOf held p q t r = IsReplyFor (arc_value p.pairs) (held p.histories) q t p.stored.range.to r

-- this is decided on a request to the slot
abbrev pub DecidesOn : {H : Type 0} → (H → Histories) → SlotParts H → Asked → ℕ → FramedDecision → Type 0
DecidesOn held p q t d = DecidesFor (arc_value p.pairs) (held p.histories) p.stored q t d
