-- The audit entries of the requests that a core serves (Blob service REST reference, 2012-02-12, Authentication for the Azure Storage
-- Services; Delegating Access with a Shared Access Signature; Set Container ACL). That there are entries is the stamp's own.
use Rattle.std.specs.Prelude.{◌≡◌, ◌⊎◌, ℕ, true, List, Option, Some, None, IfSome, Result, Ok, Err}
use Rattle.stamp_values.specs.Operations.{names_container}
use Rattle.stamp_values.specs.declared.key.Key.{Key}
use Rattle.stamp_types.specs.declared.reply.Reply.{Reply}
use Rattle.stamp_types.specs.declared.rule.Rule.TheVariants as rule
use Rattle.stamp_types.specs.Requests.{Asked}
use Rattle.partition_map.specs.Spans.{slot_of}
use Rattle.stamp_model.specs.SeenContainers.{routed}
use Rattle.policy_book.specs.Entries.{AuditEntry}
use Rattle.tickets.specs.declared.answer.Answer.{Answer}
use Rattle.slot_state.specs.Slots.{SlotState}
use Rattle.stored_slot.specs.Audits.{SlotAudits, audit_of}
use Rattle.stored_slot.specs.Settled.{SettlesSlot}
use Rattle.core_run.specs.Cores.{CoreState, slot_at}
use Rattle.stamp_core.specs.CoreSteps.{ChangesSlot}

-- the slot whose span has the first key of the request serves it, and no entry was made, or it is the entry of the request
abbrev pub IsAuditedBySlot : List SlotState → List Key → Asked → ℕ → Type 0 → Answer → Option AuditEntry → List SlotState → Type 0
IsAuditedBySlot slots points q t faulted a o slots' = ChangesSlot slots (slot_of points (routed q)) slots' (λ h h'. SlotAudits h q t faulted a o h')

-- the request was let in: its reply refuses nothing, or says that the outcome of its change is unknown
abbrev pub LetsIn : {E : Type 0} → Result Reply E → Type 0
LetsIn (Ok r) = (r.rule ≡ None) ⊎ (r.rule ≡ Some rule.N2)
LetsIn (Err e) = ⊥

-- The slot of the request settled its doubt, if it had one. The entry is of the request, at what the slot was then: its place is the number
-- of accepted changes of the container, and it has what the container said about who may read it, and the pair in force
abbrev pub IsEntryOf : CoreState → Asked → ℕ → AuditEntry → Type 0
IsEntryOf c q t e = (m : SlotState) × (SettlesSlot (slot_at c.slots c.points (routed q)) m × (e ≡ audit_of m.pairs m.histories q t))

-- the request was let in, it names a container, and this is its entry, as the core was before the request
pub record IsCoreAudit {E : Type 0} (c : CoreState) (q : Asked) (t : ℕ) (r : Result Reply E) (e : AuditEntry) : Type 0 where
  pub let_in : LetsIn r
  pub names : names_container q.ask.op ≡ true
  pub entry : IsEntryOf c q t e

-- no entry was made, or it is the entry of the request
abbrev pub CoreAudits : {E : Type 0} → CoreState → Asked → ℕ → Result Reply E → Option AuditEntry → Type 0
CoreAudits c q t r o = IfSome o (λ e. IsCoreAudit c q t r e)
