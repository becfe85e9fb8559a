-- What is known of the parts of a slot, said of the slot as its caller sees it.
use Rattle.std.proofs.Common.{◌≡◌, ◌∙◌, ℕ, false, Option, Some, None, sym, ap, subst}
use Rattle.stamp_types.specs.declared.past.Past.{Past}
use Rattle.stamp_types.specs.Requests.{Asked}
use Rattle.policy_book.specs.Entries.{AuditEntry}
use Rattle.tickets.specs.declared.answer.Answer.{Answer}
use Rattle.stored_rows.specs.States.{IsInDoubt, Stored, bytes_of, own_doubt_of}
use Rattle.slot_state.specs.HistoryMaps.{Histories}
use Rattle.slot_state.specs.Pairs.{Pairs}
use Rattle.slot_state.specs.Slots.{SlotState}
use Rattle.stored_slot.specs.Audits.{SlotAudits}
use Rattle.stored_slot.specs.Meanings.{AreOfStreams, HasDoubt}
use Rattle.stored_slot.specs.Served.{ServesUnrefused, SlotServes}
use Rattle.stored_slot.proofs.MeaningLemmas.{same_makes, same_replays}

-- a request that is served as the request of an entry
pub entry_told : (s s' : SlotState) (e e' : Past) (F : Type 0) (a : Answer) → e ≡ e' → ServesUnrefused s e.request e.moment F a s' → ServesUnrefused s e'.request e'.moment F a s'
entry_told s s' e e' F a same serves = subst (λ (x : Past). ServesUnrefused s x.request x.moment F a s') same serves

-- a request that is served on the parts of a slot
pub serves_seen : (s v : SlotState) (q : Asked) (t : ℕ) (F : Type 0) (a : Answer) (s' : SlotState) → s ≡ v → SlotServes s q t F a s' → SlotServes v q t F a s'
serves_seen s v q t F a s' seen serves = subst (λ (x : SlotState). SlotServes x q t F a s') seen serves

-- the same with its entry
pub audits_seen : (s v : SlotState) (q : Asked) (t : ℕ) (F : Type 0) (a : Answer) (o : Option AuditEntry) (s' : SlotState) → s ≡ v → SlotAudits s q t F a o s' → SlotAudits v q t F a o s'
audits_seen s v q t F a o s' seen audits = subst (λ (x : SlotState). SlotAudits x q t F a o s') seen audits

-- rows that were dropped from memory
doubt_unloaded : (pairs : Pairs) (h : Histories) (s t : Stored) (d : Option Past) → t ≡ record s { is_loaded = false } → HasDoubt pairs h s d → HasDoubt pairs h t d
doubt_unloaded pairs h s t None same sure = ap own_doubt_of same ∙ sure
doubt_unloaded pairs h s t (Some e) same doubted = record {
  change = doubted.change;
  makes = same_makes pairs h s t e doubted.change doubted.makes (ap (λ (x : Stored). x.range) same);
  tried = subst (λ (x : Stored). IsInDoubt (doubted.change, e.epoch) x) (sym same) (record { kept = doubted.tried.kept; doubt = doubted.tried.doubt; same = doubted.tried.same });
}

pub unloaded_kept : (pairs : Pairs) (h : Histories) (s t : Stored) (d : Option Past) → t ≡ record s { is_loaded = false } → AreOfStreams pairs h s d → AreOfStreams pairs h t d
unloaded_kept pairs h s t d same are = record {
  replays = same_replays pairs h s t are.replays (ap (λ (x : Stored). x.range) same) (λ key. ap (λ (x : Stored). bytes_of x key) same);
  doubted = doubt_unloaded pairs h s t d same are.doubted;
}
