-- A request that is served after what its caller was shown (the stamp's own).
use Rattle.std.specs.Prelude.{◌≡◌, ◌≢◌, ◌⊎◌, ⊤, ℕ, false, List, Option, Some, None}
use mathlib.Core.List.{IsPrefix}
use Rattle.stamp_values.specs.Operations.{writes}
use Rattle.stamp_values.specs.declared.key.Key.{Key}
use Rattle.stamp_types.specs.declared.past.Past.{Past}
use Rattle.stamp_types.specs.Requests.{Asked}
use Rattle.tickets.specs.declared.answer.Answer.{Answer}
use Rattle.tickets.specs.declared.answer.Answer.TheVariants as answer
use Rattle.access_rules.specs.declared.keys.Keys.{Keys}
use Rattle.slot_state.specs.HistoryMaps.{history_at}
use Rattle.slot_state.specs.Pairs.{Pairs, pairs_at}
use Rattle.slot_state.specs.Slots.{SlotState, entry_of}
use Rattle.stored_slot.specs.Served.{SlotServes}
use Rattle.slot_pass.specs.Differences.{DiffersAt}
use Rattle.slot_pass.specs.Passes.{PassState}
use Rattle.slot_pass.specs.Spares.{with_last}
use Rattle.slot_pass.specs.declared.after_fault.AfterFault.{AfterFault}
use Rattle.slot_pass.specs.declared.after_fault.AfterFault.TheVariants as after

-- a pass of the same container that shows all that the slot has of it: its accepted changes, and the key pairs of its account
abbrev pub pass_with : PassState → SlotState → PassState
pass_with p s = record { key = p.key; front = history_at s.histories p.key; pairs = pairs_at s.pairs p.key.account }

-- what the pass shows is a beginning of what the slot has: of the key pairs, and of the accepted changes
pub record Begins (p : PassState) (s : SlotState) : Type 0 where
  pub pairs : IsPrefix p.pairs (pairs_at s.pairs p.key.account)
  pub front : IsPrefix p.front (history_at s.histories p.key)

-- Why a slot does not answer after a pass: the pass shows a key pair at this position that is not the slot's; or its pairs are the slot's, and it
-- shows an entry at this position that is not the slot's; or what it shows is a beginning of what the slot has, and memory ran out
abbrev pub IsAfterFault : PassState → SlotState → AfterFault → Type 0
IsAfterFault p s (after.Pairs place) = DiffersAt p.pairs (pairs_at s.pairs p.key.account) place
IsAfterFault p s (after.Alien place) = IsPrefix p.pairs (pairs_at s.pairs p.key.account) × DiffersAt p.front (history_at s.histories p.key) place
IsAfterFault p s after.NoMemory = Begins p s

-- the slot serves the request; or memory ran out before it began, and nothing changed
abbrev pub ServesOrNot : SlotState → Asked → ℕ → Type 0 → Answer → SlotState → Type 0
ServesOrNot s q t faulted a s' = SlotServes s q t faulted a s' ⊎ ((a ≡ answer.NoMemory) × (s' ≡ s))

-- of a slot's doubt this is what the container of this key may get: the doubt, if it is a change of this container
abbrev pub IsDoubtOf : Option Past → Key → Option Past → Type 0
IsDoubtOf None key None = ⊤
IsDoubtOf None key (Some d) = ⊥
IsDoubtOf (Some e) key None = e.request.ask.key ≢ key
IsDoubtOf (Some e) key (Some d) = (d ≡ e) × (e.request.ask.key ≡ key)

-- this is what the container of a request may get by it: its entry, unless its operation does not write
abbrev pub IsEntryOf : Pairs → Asked → ℕ → Option Past → Type 0
IsEntryOf pairs q t None = writes q.ask.op ≡ false
IsEntryOf pairs q t (Some e) = e ≡ entry_of pairs q t

-- a pass of these parts
abbrev pub pass_of : Key → List Past → List Keys → PassState
pass_of key front pairs = record { key = key; front = front; pairs = pairs }

-- The list is all that the accepted changes of the container may be after a request of it: the accepted changes of the slot, the slot's doubt
-- if it is a change of the container, and the entry of the request unless its operation does not write
pub record IsReady (s : SlotState) (key : Key) (q : Asked) (t : ℕ) (all : List Past) : Type 0 where
  pub doubt : Option Past
  pub own : Option Past
  pub is_doubt : IsDoubtOf s.doubt key doubt
  pub is_own : IsEntryOf s.pairs q t own
  pub all_is : all ≡ with_last (with_last (history_at s.histories key) doubt) own
