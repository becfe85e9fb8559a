-- What is done with a slot that its lock lends (Calder et al., SOSP 2011, section 5: what a partition server does with its range).
use Rattle.std.specs.Prelude.{◌≡◌, ◌⊎◌, ◌<◌, ◌≤◌, ⊤, ℕ, Bool, true, false, not, ◌&&◌, List, length, Option, None, Result, Ok, Err}
use Rattle.extent_node.specs.Faults.{Calls}
use Rattle.stamp_values.specs.declared.key.Key.{Key}
use Rattle.stamp_types.specs.Requests.{Asked}
use Rattle.partition_map.specs.Spans.{AreSpans, cause_of, first_key, slot_of, split_refusal, with_point}
use Rattle.partition_map.specs.declared.fault.MapFault.{MapFault}
use Rattle.partition_map.specs.declared.fault.MapFault.TheVariants as map
use Rattle.policy_book.specs.Entries.{AuditEntry}
use Rattle.stamp_model.specs.SeenContainers.{routed}
use Rattle.tickets.specs.declared.answer.Answer.{Answer}
use Rattle.tickets.specs.declared.answer.Answer.TheVariants as answer
use Rattle.extent_node.specs.declared.wire.Node.{Node}
use Rattle.stream_manager.specs.declared.faults.StoredFault.{StoredFault}
use Rattle.stream_manager.specs.declared.faults.StoredFault.TheVariants as stored
use Rattle.partition_stream.specs.declared.repair.StreamName.{StreamName}
use Rattle.stored_rows.specs.Counting.{FailsStored}
use Rattle.stored_rows.specs.Repairs.{FailsRepair, IsRepairOf, unnamed}
use Rattle.stored_rows.specs.declared.repaired.Repaired.{Repaired}
use Rattle.stored_rows.specs.declared.repaired.Unrepaired.{Unrepaired}
use Rattle.slot_state.specs.HistoryMaps.{history_at}
use Rattle.slot_state.specs.Pairs.{Pairs, current_at, pairs_at}
use Rattle.slot_state.specs.Slots.{SlotState, covers, is_inside}
use Rattle.stored_slot.specs.Served.{Faulted, SlotServes}
use Rattle.stored_slot.specs.Settled.{CutsSettled, LeavesRepaired, LeavesSettled, SettlesOrFails}
use Rattle.slot_pass.specs.Audits.{AuditsSettled}
use Rattle.slot_pass.specs.Passes.{IsShown}
use Rattle.stamp_locks.specs.declared.care.Care.{Care}
use Rattle.stamp_locks.specs.declared.care.Care.TheVariants as care
use Rattle.stamp_locks.specs.declared.faults.SplitError.{SplitError}
use Rattle.stamp_locks.specs.declared.faults.SplitError.TheVariants as split
use Rattle.stamp_locks.specs.declared.faults.TendFault.{TendFault}
use Rattle.stamp_locks.specs.declared.faults.TendFault.TheVariants as tend

-- ---- which slot

-- the slot has the key, and no key of the slot comes before it
abbrev pub is_first_key : SlotState → Key → Bool
is_first_key s key = covers s key && not (is_inside s key)

-- these are split points of spans, a span has this number, and the slot begins with the first key of this span
pub record BeginsSpan (points : List Key) (i : ℕ) (s : SlotState) : Type 0 where
  pub are_spans : AreSpans points
  pub within : i ≤ length points
  pub from : s.from ≡ first_key points i

-- the slot begins with the first key of the span that has the first key of the request, and the slot has that key too
pub record IsSlotFor (points : List Key) (q : Asked) (s : SlotState) : Type 0 where
  pub begins : BeginsSpan points (slot_of points (routed q)) s
  pub covered : covers s (routed q) ≡ true

-- a slot begins with the first key of the span with this number
pub record HasSlot (i : ℕ) : Type 0 where
  pub points : List Key
  pub slot : SlotState
  pub begins : BeginsSpan points i slot

-- ---- requests

-- The slot of the request met it under its lock, with a wire that had these values before and after. The slot's pair in force of the account
-- was that of these pairs, and what the slot had of the request's container was legal by the slot's key pairs. No entry of the audit book was
-- made, or it is that of the request, by this slot
pub record MetSlot {W : Type 0} (faults : W → Calls) (pairs : Pairs) (q : Asked) (t : ℕ) (a : Answer) (o : Option AuditEntry) : Type 0 where
  pub points : List Key
  pub slot : SlotState
  pub next : SlotState
  pub old : W
  pub new : W
  pub is_for : IsSlotFor points q slot
  pub current : current_at slot.pairs q.ask.key.account ≡ current_at pairs q.ask.key.account
  pub shown : IsShown (pairs_at slot.pairs q.ask.key.account) q.ask.key (history_at slot.histories q.ask.key)
  pub served : SlotServes slot q t (Faulted (faults old) (faults new)) a next
  pub audited : AuditsSettled slot q t a o

-- what a table with these key pairs answers to a request, with an entry of the audit book or without one: what the slot of the request answers;
-- or that memory ran out, without an entry
abbrev pub HandlesBy : {W : Type 0} → (W → Calls) → Pairs → Asked → ℕ → Answer → Option AuditEntry → Type 0
HandlesBy faults pairs q t answer.NoMemory o = o ≡ None
HandlesBy faults pairs q t a o = MetSlot faults pairs q t a o

-- what a stamp answers to a request, by some key pairs, with an entry of the audit book or without one
abbrev pub IsHandledWith : {W : Type 0} → (W → Calls) → Asked → ℕ → Answer → Option AuditEntry → Type 0
IsHandledWith faults q t a o = (pairs : Pairs) × HandlesBy faults pairs q t a o

-- what a stamp answers to a request
abbrev pub IsHandled : {W : Type 0} → (W → Calls) → Asked → ℕ → Answer → Type 0
IsHandled faults q t a = (o : Option AuditEntry) × IsHandledWith faults q t a o

-- ---- cares

-- what a care answers whose call of the slot ended so
abbrev pub told_slot : Result (Unit {0}) StoredFault → Result (Unit {0}) TendFault
told_slot (Ok u) = Ok u
told_slot (Err f) = Err (tend.Slot f)

-- what a care answers whose repair ended so
abbrev pub told_repair : Result Repaired Unrepaired → Result (Unit {0}) TendFault
told_repair (Ok r) = Ok tt
told_repair (Err f) = Err (tend.Repair f)

-- the answer of a care is that of the slot's call, of which this holds
abbrev pub TellsSlot : Result (Unit {0}) TendFault → (Result (Unit {0}) StoredFault → Type 0) → Type 0
TellsSlot (Ok u) holds = holds (Ok u)
TellsSlot (Err (tend.Slot f)) holds = holds (Err f)
TellsSlot other holds = ⊥

-- a care is answered as a repair of this extent on this node ended, which this slot made by these counts of its wire
pub record TellsRepair (stream : StreamName) (extent : ℕ) (node : Node) (s : SlotState) (old new : Calls) (r : Result (Unit {0}) TendFault) (s' : SlotState) : Type 0 where
  pub called : Result Repaired Unrepaired
  pub told : r ≡ told_repair called
  pub own : IsRepairOf stream extent node called
  pub left : LeavesRepaired (unnamed called) s s'
  pub counted : FailsRepair (unnamed called) old new

-- what a care of a slot answers, and what it leaves, by the counts of its wire
abbrev pub TendsLent : Care → SlotState → Calls → Calls → Result (Unit {0}) TendFault → SlotState → Type 0
TendsLent care.Settle s old new r s' = TellsSlot r (λ e. SettlesOrFails e s s' × FailsStored e old new)
TendsLent care.Seal s old new r s' = TellsSlot r (λ e. LeavesSettled e s s' × FailsStored e old new)
TendsLent care.Load s old new r s' = TellsSlot r (λ e. LeavesSettled e s s' × FailsStored e old new)
TendsLent care.Checkpoint s old new r s' = TellsSlot r (λ e. LeavesSettled e s s' × FailsStored e old new)
TendsLent care.Compact s old new r s' = TellsSlot r (λ e. LeavesSettled e s s' × FailsStored e old new)
TendsLent care.Unload s old new r s' = (r ≡ Ok tt) × (s' ≡ s)
TendsLent (care.Repair stream extent node) s old new r s' = TellsRepair stream extent node s old new r s'

-- the slot with this number met a care under its lock, with a wire that had these values before and after
pub record TendedSlot {W : Type 0} (faults : W → Calls) (i : ℕ) (x : Care) (r : Result (Unit {0}) TendFault) : Type 0 where
  pub points : List Key
  pub slot : SlotState
  pub next : SlotState
  pub old : W
  pub new : W
  pub begins : BeginsSpan points i slot
  pub tended : TendsLent x slot (faults old) (faults new) r next

-- what a stamp answers to a care of the slot with this number: no slot has the number, which is never so of 0; or memory ran out; or what the
-- slot answers
abbrev pub IsTended : {W : Type 0} → (W → Calls) → ℕ → Care → Result (Unit {0}) TendFault → Type 0
IsTended faults i x (Err tend.NoSuchSlot) = 0 < i
IsTended faults i x (Err (tend.Slot stored.NoMemory)) = ⊤
IsTended faults i x r = TendedSlot faults i x r

-- ---- splits

-- why a slot is not cut: the key is not inside its range; or the slot's own cut failed
abbrev pub FailsCut : SlotState → Key → Calls → Calls → SplitError → SlotState → Type 0
FailsCut s middle old new (split.Map f) s' = (f ≡ map.NotInside) × ((is_inside s middle ≡ false) × (s' ≡ s))
FailsCut s middle old new (split.Slot f) s' = LeavesSettled {T = Unit {0}} (Err f) s s' × FailsStored {T = Unit {0}} (Err f) old new

-- a slot that begins with the first key of the span with this number is cut at this key
pub record CutsSlot (points : List Key) (i : ℕ) (middle : Key) : Type 0 where
  pub slot : SlotState
  pub upper : SlotState
  pub next : SlotState
  pub begins : BeginsSpan points i slot
  pub cut : CutsSettled (Ok upper) slot middle next

-- a wire had these values before and after a call of the slot that failed since nodes did not answer
pub record HasFailedCall {W : Type 0} (faults : W → Calls) : Type 0 where
  pub old : W
  pub new : W
  pub counted : FailsStored {T = Unit {0}} (Err stored.Busy) (faults old) (faults new)

-- a slot that spans allow to be split is refused so: the key is not inside its own range; or nodes did not answer; or memory ran out
abbrev pub IsCutFault : {W : Type 0} → (W → Calls) → SplitError → Type 0
IsCutFault faults (split.Map f) = f ≡ map.NotInside
IsCutFault faults (split.Slot stored.Busy) = HasFailedCall faults
IsCutFault faults (split.Slot stored.NoMemory) = ⊤

-- spans allow the split of the slot with this number at this key
pub record IsSplitAllowed (i : ℕ) (middle : Key) : Type 0 where
  pub points : List Key
  pub allowed : split_refusal points i middle ≡ None

-- spans allow the split of the slot with this number at this key, and the slot is cut
pub record IsSplit (i : ℕ) (middle : Key) : Type 0 where
  pub points : List Key
  pub allowed : split_refusal points i middle ≡ None
  pub cuts : CutsSlot (with_point points i middle) i middle

-- spans refuse the split of the slot with this number at this key with this cause, or have no memory for it
pub record IsSplitRefused (i : ℕ) (middle : Key) (f : MapFault) : Type 0 where
  pub points : List Key
  pub refused : split_refusal points i middle ≡ cause_of f

-- why a stamp does not split a slot: the spans refuse it; or they allow it, and the slot is not cut
abbrev pub FailsSplit : {W : Type 0} → (W → Calls) → ℕ → Key → SplitError → Type 0
FailsSplit faults i middle (split.Map f) = IsSplitRefused i middle f ⊎ (IsSplitAllowed i middle × (f ≡ map.NotInside))
FailsSplit faults i middle (split.Slot f) = IsSplitAllowed i middle × IsCutFault faults (split.Slot f)
