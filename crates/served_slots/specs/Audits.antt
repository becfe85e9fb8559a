-- The audit entry of a request that a slot serves after entries of the history (Blob service REST reference, 2012-02-12, Authentication for the
-- Azure Storage Services; Delegating Access with a Shared Access Signature; Set Container ACL). That there are entries is the stamp's own.
use Rattle.std.specs.Prelude.{◌≡◌, ℕ, true, List, [], ◌∷◌, ◌++◌, length, Option, IfSome}
use Rattle.stamp_values.specs.Operations.{names_container}
use Rattle.stamp_types.specs.Requests.{Asked}
use Rattle.stamp_types.specs.World.{part_at}
use Rattle.access_rules.specs.Rules.{way_of}
use Rattle.policy_book.specs.Entries.{AuditEntry, audit_entry_of}
use Rattle.policy_book.specs.Judgements.{Revised}
use Rattle.row_trees.specs.Access.{acl_of}
use Rattle.slot_state.specs.Slots.{SlotState}
use Rattle.stored_slot.specs.Audits.{audit_of}
use Rattle.served_history.specs.declared.entry.Entry.{Entry}
use Rattle.served_history.specs.Fronts.{front_at}
use Rattle.served_history.specs.Histories.{entry_after, timed_at, world_left}

-- the request names a container, and this is its audit entry, as the slot was before the request
pub record IsSlotAudit (s : SlotState) (q : Asked) (t : ℕ) (e : AuditEntry) : Type 0 where
  pub names : names_container q.ask.op ≡ true
  pub value : e ≡ audit_of s.pairs s.histories q t

-- no audit entry was made, or it is that of the request, as the slot was before the request
abbrev pub AuditsInSlot : SlotState → Asked → ℕ → Option AuditEntry → Type 0
AuditsInSlot s q t o = IfSome o (λ e. IsSlotAudit s q t e)

-- what judges the request after these entries: what its container says about who may read it, and the key pair by which it is served
abbrev pub revision_at : List Entry → Asked → ℕ → Revised
revision_at log q t = record { acl = acl_of (part_at (world_left log) q.ask.key); keys = (timed_at log q t).keys }

-- The request is the last of these entries and names a container. This is its audit entry, by what judges it after the entries before it. Its place
-- is the number of changes that these entries made of the container
pub record IsAuditOf (log : List Entry) (q : Asked) (t : ℕ) (e : AuditEntry) : Type 0 where
  pub before : List Entry
  pub enters : log ≡ before ++ entry_after before q t ∷ []
  pub names : names_container q.ask.op ≡ true
  pub value : e ≡ audit_entry_of q (length (front_at before q.ask.key)) (way_of q.ask.credential) t (revision_at before q t)

-- no audit entry was made, or it is that of the request, which is the last of these entries
abbrev pub AuditsLast : List Entry → Asked → ℕ → Option AuditEntry → Type 0
AuditsLast log q t o = IfSome o (λ e. IsAuditOf log q t e)
