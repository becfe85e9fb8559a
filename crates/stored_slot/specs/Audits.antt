-- The audit entries of the requests that a slot over streams serves (Blob service REST reference, 2012-02-12, Authentication for the Azure
-- Storage Services; Delegating Access with a Shared Access Signature; Set Container ACL). That there are entries is the stamp's own.
use Rattle.std.specs.Prelude.{◌≡◌, ◌⊎◌, ⊤, ℕ, Bool, true, false, ◌||◌, not, Option, Some, None, is_some, IsSome, length}
use Rattle.stamp_values.specs.Operations.{names_container}
use Rattle.stamp_types.specs.Requests.{Asked}
use Rattle.stamp_types.specs.World.{Part}
use Rattle.access_rules.specs.Rules.{way_of}
use Rattle.policy_book.specs.Entries.{AuditEntry, audit_entry_of}
use Rattle.row_trees.specs.Access.{acl_of}
use Rattle.tickets.specs.declared.answer.Answer.{Answer}
use Rattle.tickets.specs.declared.answer.Answer.TheVariants as answer
use Rattle.slot_state.specs.HistoryMaps.{Histories, history_at}
use Rattle.slot_state.specs.Pairs.{Pairs, current_at}
use Rattle.slot_state.specs.Slots.{SlotState, replayed_at}
use Rattle.stored_slot.specs.Served.{FailsAnswer, ServesBy, unknown}
use Rattle.stored_slot.specs.Settled.{SettlesSlot}

-- the entry of a request, from its container and from so many changes of the container before: who may read the container, and the pair in
-- force of its account
abbrev pub audit_at : {C : Type 0} → Pairs → ℕ → Part C → Asked → ℕ → AuditEntry
audit_at pairs place p q t = audit_entry_of q place (way_of q.ask.credential) t (record { acl = acl_of p; keys = current_at pairs q.ask.key.account })

-- the entry of a request that is served now: its place is the number of accepted changes of its container, and what the container says
-- about who may read it is what these changes leave
abbrev pub audit_of : Pairs → Histories → Asked → ℕ → AuditEntry
audit_of pairs h q t = audit_at pairs (length (history_at h q.ask.key)) (replayed_at pairs h q.ask.key) q t

-- the request was let in: its reply refuses nothing, or it is not known whether its change was made, or its reply comes by a ticket
abbrev pub IsLetIn : Answer → Type 0
IsLetIn (answer.Done r) = (r.rule ≡ None) ⊎ (r ≡ unknown)
IsLetIn (answer.Later r) = ⊤
IsLetIn answer.NoMemory = ⊥

-- the reply refuses nothing, or there is a doubt, or the reply comes by a ticket
abbrev pub is_let_in : Answer → Bool → Bool
is_let_in (answer.Done r) doubted = not (is_some r.rule) || doubted
is_let_in (answer.Later r) doubted = true
is_let_in answer.NoMemory doubted = false

-- the request was let in, it names a container, and this is its entry
pub record IsAudit (s : SlotState) (q : Asked) (t : ℕ) (a : Answer) (e : AuditEntry) : Type 0 where
  pub let_in : IsLetIn a
  pub names : names_container q.ask.op ≡ true
  pub value : e ≡ audit_of s.pairs s.histories q t

-- no entry was made, or it is the entry of the request, as the slot was before the request
abbrev pub Audits : SlotState → Asked → ℕ → Answer → Option AuditEntry → Type 0
Audits s q t a None = ⊤
Audits s q t a (Some e) = IsAudit s q t a e

-- a request to a slot without a doubt is served, and no entry was made, or it is the entry of the request
abbrev pub AuditsBy : SlotState → Asked → ℕ → Type 0 → Answer → Option AuditEntry → SlotState → Type 0
AuditsBy s q t faulted a o s' = ServesBy s q t faulted a s' × Audits s q t a o

-- A request is served after the doubt of the slot is settled, if there is one, and no entry was made, or it is the entry of the request.
-- If the settle fails, the request fails, the doubt stays, and no entry was made
abbrev pub SlotAudits : SlotState → Asked → ℕ → Type 0 → Answer → Option AuditEntry → SlotState → Type 0
SlotAudits s q t faulted a o s' =
    ((m : SlotState) × (SettlesSlot s m × AuditsBy m q t faulted a o s'))
    ⊎ (IsSome s.doubt × (FailsAnswer faulted a × ((s' ≡ s) × (o ≡ None))))
