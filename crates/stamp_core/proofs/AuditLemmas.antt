-- The audit entry of a request that a core serves.
use Rattle.std.proofs.Common.{◌≡◌, ◌<◌, inl, inr, ℕ, List, Option, Some, None, length, refl, sym, ap, ◌∙◌, subst}
use Rattle.std.specs.Prelude.{IfSome, Result, slice_index_or, slice_set}
use Rattle.stamp_values.specs.declared.key.Key.{Key}
use Rattle.stamp_types.specs.declared.reply.Reply.{Reply}
use Rattle.stamp_types.specs.Requests.{Asked}
use Rattle.partition_map.specs.Spans.{slot_of}
use Rattle.stamp_model.specs.SeenContainers.{routed}
use Rattle.policy_book.specs.Entries.{AuditEntry}
use Rattle.tickets.specs.declared.answer.Answer.{Answer}
use Rattle.tickets.specs.declared.answer.Answer.TheVariants as answer
use Rattle.slot_state.specs.Slots.{SlotState}
use Rattle.stored_slot.specs.Audits.{Audits, SlotAudits}
use Rattle.stored_slot.specs.Served as slots
use Rattle.stored_slot.proofs.AuditLemmas.{audits_serve}
use Rattle.core_run.specs.Cores.{CoreState, slot_at}
use Rattle.stamp_core.specs.CoreAudits.{CoreAudits, IsAuditedBySlot, IsCoreAudit, LetsIn}
use Rattle.stamp_core.specs.CoreSteps.{IsServedBySlot}
use Rattle.stamp_core.specs.Ranges.{HaveSpans}
use Rattle.stamp_core.proofs.ServeLemmas.{its_slot, spans_kept, starved}

-- a request that a slot serves without an entry
pub unaudited : (h h' : SlotState) (q : Asked) (t : ℕ) (F : Type 0) (a : Answer) → slots.SlotServes h q t F a h' → SlotAudits h q t F a None h'
unaudited h h' q t F a (inl p) = inl (p.0, (p.1.0, (p.1.1, tt)))
unaudited h h' q t F a (inr p) = inr (p.0, (p.1.0, (p.1.1, refl)))

-- a request that a slot serves with its entry is served
pub served_too : (hs : List SlotState) (points : List Key) (q : Asked) (t : ℕ) (F : Type 0) (a : Answer) (o : Option AuditEntry) (hs' : List SlotState)
    → IsAuditedBySlot hs points q t F a o hs' → IsServedBySlot hs points q t F a hs'
served_too hs points q t F a o hs' is = (is.0, (audits_serve (slot_at hs points (routed q)) q t F a o is.0 is.1.0, is.1.1))

-- a request for which memory ran out before its slot was called
pub starved_too : (F : Type 0) (hs : List SlotState) (points : List Key) (q : Asked) (t : ℕ) → IsAuditedBySlot hs points q t F answer.NoMemory None hs
starved_too F hs points q t = let is = starved F hs points q t in (is.0, (unaudited (slot_at hs points (routed q)) is.0 q t F answer.NoMemory is.1.0, is.1.1))

module _ (hs : List SlotState) (points : List Key) (have : HaveSpans hs points) (q : Asked) (at : ℕ) (place : at ≡ slot_of points (routed q)) (old d : SlotState) (was : old ≡ slice_index_or hs at d) (low : at < length hs)
    (F : Type 0) (t : ℕ) (a : Answer) (o : Option AuditEntry) (new : SlotState) (audits : SlotAudits old q t F a o new) where
  pub audited_there : IsAuditedBySlot hs points q t F a o (slice_set hs at new)
  audited_there = (
    new,
    (subst (λ (h : SlotState). SlotAudits h q t F a o new) (its_slot hs points have q at place old d was low) audits, ap (λ (n : ℕ). slice_set hs n new) place),
  )

  pub spans_audited : HaveSpans (slice_set hs at new) points
  spans_audited = spans_kept hs points have q at place old d was low F t a new (audits_serve old q t F a o new audits)

-- the entry that is told is the entry of the request; c is the value that contracts see
module _ {E : Type 0} (c seen : CoreState) (same : c ≡ seen) (q : Asked) (t : ℕ) (F : Type 0) (a : Answer) (hs' : List SlotState) (r : Result Reply E) where
  told_of : (o o' : Option AuditEntry) → IsAuditedBySlot c.slots c.points q t F a o hs' → IfSome o' (λ e. LetsIn r × (o ≡ Some e)) → CoreAudits c q t r o'
  told_of o None is told = tt
  told_of o (Some e) is told = by is.1.0
    where
      by : SlotAudits (slot_at c.slots c.points (routed q)) q t F a o is.0 → IsCoreAudit c q t r e
      by (inl p) =
          let own = subst (λ (x : Option AuditEntry). Audits p.0 q t a x) told.1 p.1.1.1 in record {
            let_in = told.0;
            names = own.names;
            entry = (p.0, (p.1.0, own.value));
          }
      by (inr p) = let f : Some e ≡ None = sym told.1 ∙ p.1.1.1 in cc

  pub core_audits : (o o' : Option AuditEntry) → IsAuditedBySlot c.slots c.points q t F a o hs' → IfSome o' (λ e. LetsIn r × (o ≡ Some e)) → CoreAudits seen q t r o'
  core_audits o o' is told = subst (λ (x : CoreState). CoreAudits x q t r o') same (told_of o o' is told)
