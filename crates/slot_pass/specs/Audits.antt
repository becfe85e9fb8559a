-- The audit entry of a request that a slot serves after its doubt is settled (Blob service REST reference, 2012-02-12, Authentication for the Azure
-- Storage Services; Delegating Access with a Shared Access Signature). That there are entries is the stamp's own.
use Rattle.std.specs.Prelude.{⊤, ℕ, Option, Some, None}
use Rattle.stamp_types.specs.Requests.{Asked}
use Rattle.policy_book.specs.Entries.{AuditEntry}
use Rattle.tickets.specs.declared.answer.Answer.{Answer}
use Rattle.slot_state.specs.Slots.{SlotState}
use Rattle.stored_slot.specs.Audits.{IsAudit}
use Rattle.stored_slot.specs.Settled.{SettlesSlot}

-- no entry was made, or it is the entry of the request, as the slot was before the request and after the settle of its doubt
abbrev pub AuditsSettled : SlotState → Asked → ℕ → Answer → Option AuditEntry → Type 0
AuditsSettled s q t a None = ⊤
AuditsSettled s q t a (Some e) = (m : SlotState) × (SettlesSlot s m × IsAudit m q t a e)
