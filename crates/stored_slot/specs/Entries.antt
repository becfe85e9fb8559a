-- What the entry of a request says of the slot before the request (Blob service REST reference, 2012-02-12, Set Container ACL). That there are
-- entries is the stamp's own.
use Rattle.std.specs.Prelude.{◌≡◌, ℕ, Option, Some, None, length}
use Rattle.stamp_types.specs.Requests.{Asked}
use Rattle.stamp_types.specs.World.{Part}
use Rattle.access_rules.specs.Rules.{way_of}
use Rattle.policy_book.specs.Entries.{AuditEntry, audit_entry_of}
use Rattle.row_trees.specs.Access.{acl_of}
use Rattle.slot_state.specs.HistoryMaps.{Histories, history_at}
use Rattle.slot_state.specs.Pairs.{Pairs, current_at}
use Rattle.slot_state.specs.Slots.{replayed_at}
use Rattle.stored_slot.specs.declared.auditing.Seen.{Seen}

-- so many changes of the request's container, who may read this container, and the pair in force of its account
abbrev pub seen_at : {C : Type 0} → Pairs → ℕ → Part C → Asked → Seen
seen_at pairs place p q = record { place = place; revision = record { acl = acl_of p; keys = current_at pairs q.ask.key.account } }

-- what the entry of a request says of a slot with these histories
abbrev pub seen_of : Pairs → Histories → Asked → Seen
seen_of pairs h q = seen_at pairs (length (history_at h q.ask.key)) (replayed_at pairs h q.ask.key) q

-- the entry of a request that says this of the slot
abbrev pub entry_by : Seen → Asked → ℕ → AuditEntry
entry_by seen q t = audit_entry_of q seen.place (way_of q.ask.credential) t seen.revision

-- the entry of a request says of the slot what was seen
abbrev pub IsEntryBy : Option Seen → Asked → ℕ → AuditEntry → Type 0
IsEntryBy None q t e = ⊥
IsEntryBy (Some seen) q t e = e ≡ entry_by seen q t
