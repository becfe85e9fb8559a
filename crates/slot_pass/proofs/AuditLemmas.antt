-- The audit entry of a request that a slot serves after its doubt is settled.
use Rattle.std.proofs.Common.{inl, inr, ℕ, Option, Some, None, sym, subst}
use Rattle.stamp_types.specs.Requests.{Asked}
use Rattle.policy_book.specs.Entries.{AuditEntry}
use Rattle.tickets.specs.declared.answer.Answer.{Answer}
use Rattle.slot_state.specs.Slots.{SlotState}
use Rattle.stored_slot.specs.Audits.{Audits, SlotAudits}
use Rattle.stored_slot.specs.Settled.{SettlesSlot}
use Rattle.stored_slot.proofs.AuditLemmas.{audits_serve}
use Rattle.slot_pass.specs.After.{ServesOrNot}
use Rattle.slot_pass.specs.Audits.{AuditsSettled}

audits_after : (s m : SlotState) (q : Asked) (t : ℕ) (a : Answer) (o : Option AuditEntry) → SettlesSlot s m → Audits m q t a o → AuditsSettled s q t a o
audits_after s m q t a None settled is = tt
audits_after s m q t a (Some e) settled is = (m, (settled, is))

-- the entry of a request that is served with its entry
pub audits_settled : (s : SlotState) (q : Asked) (t : ℕ) (F : Type 0) (a : Answer) (o : Option AuditEntry) (s' : SlotState) → SlotAudits s q t F a o s' → AuditsSettled s q t a o
audits_settled s q t F a o s' (inl is) = audits_after s is.0 q t a o is.1.0 is.1.1.1
audits_settled s q t F a o s' (inr failed) = subst (λ (x : Option AuditEntry). AuditsSettled s q t a x) (sym failed.1.1.1) tt

-- a request that is served with its entry is served
pub serves_audited : (s : SlotState) (q : Asked) (t : ℕ) (F : Type 0) (a : Answer) (o : Option AuditEntry) (s' : SlotState) → SlotAudits s q t F a o s' → ServesOrNot s q t F a s'
serves_audited s q t F a o s' is = inl (audits_serve s q t F a o s' is)
