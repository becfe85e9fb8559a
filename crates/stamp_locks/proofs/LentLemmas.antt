-- Requests to a slot that its lock lends.
use Rattle.std.proofs.Common.{◌≡◌, inr, ℕ, true, List, Option, None, Some, Ok, refl, subst}
use Rattle.extent_node.specs.Faults.{Calls}
use Rattle.stamp_values.specs.declared.key.Key.{Key}
use Rattle.stamp_types.specs.Requests.{Asked}
use Rattle.stamp_types.specs.declared.ask.Ask.{Ask}
use Rattle.policy_book.specs.Entries.{AuditEntry}
use Rattle.stream_manager.specs.declared.faults.StoredFault.TheVariants as stored
use Rattle.stamp_model.specs.SeenContainers.{routed}
use Rattle.partition_map.specs.Spans.{slot_of, split_refusal, with_point}
use Rattle.tickets.specs.declared.answer.Answer.{Answer}
use Rattle.tickets.specs.declared.answer.Answer.TheVariants as answer
use Rattle.slot_state.specs.HistoryMaps.{history_at}
use Rattle.slot_state.specs.Pairs.{Pairs, current_at, pairs_at}
use Rattle.slot_state.specs.Slots.{SlotState, covers}
use Rattle.stored_slot.specs.Served.{Faulted, SlotServes}
use Rattle.stored_slot.specs.Settled.{CutsSettled}
use Rattle.slot_pass.specs.After.{IsAfterFault}
use Rattle.slot_pass.specs.Audits.{AuditsSettled}
use Rattle.slot_pass.specs.Calls.{AnswersAfter}
use Rattle.slot_pass.specs.Passes.{IsShown, PassState}
use Rattle.slot_pass.specs.declared.after_fault.AfterFault.{AfterFault}
use Rattle.slot_pass.specs.declared.after_fault.AfterFault.TheVariants as after
use Rattle.stamp_locks.specs.declared.faults.SplitError.{SplitError}
use Rattle.stamp_locks.specs.declared.faults.SplitError.TheVariants as split
use Rattle.stamp_locks.specs.Lent.{BeginsSpan, CutsSlot, FailsCut, FailsSplit, HandlesBy, HasSlot, IsCutFault, IsSlotFor, IsSplit}
use Rattle.stamp_locks.specs.Shown.{HandlesAfterBy, IsBack}

-- a slot with the first key of a request is the slot of the request
pub slot_for : (points : List Key) (first : Key) (q : Asked) (s : SlotState) → first ≡ routed q → BeginsSpan points (slot_of points first) s → covers s first ≡ true → IsSlotFor points q s
slot_for points first q s is begins covered = record {
  begins = subst (λ (key : Key). BeginsSpan points (slot_of points key) s) is begins;
  covered = subst (λ (key : Key). covers s key ≡ true) is covered;
}

-- ---- as it is told outside of the lock

module _ {W : Type 0} (faults : W → Calls) (pairs : Pairs) (points : List Key) (s s' : SlotState) (q : Asked) (t : ℕ) (old new : W) where
  no_entry : (o : Option AuditEntry) → AuditsSettled s q t answer.NoMemory o → o ≡ None
  no_entry None audited = refl
  no_entry (Some e) audited = absurd audited.1.1.let_in

  told : (a : Answer) (o : Option AuditEntry) → IsSlotFor points q s → current_at s.pairs q.ask.key.account ≡ current_at pairs q.ask.key.account
      → IsShown (pairs_at s.pairs q.ask.key.account) q.ask.key (history_at s.histories q.ask.key) → SlotServes s q t (Faulted (faults old) (faults new)) a s' → AuditsSettled s q t a o
      → HandlesBy faults pairs q t a o
  told (answer.Done r) o is_for current shown served audited =
      record { points = points; slot = s; next = s'; old = old; new = new; is_for = is_for; current = current; shown = shown; served = served; audited = audited }
  told (answer.Later r) o is_for current shown served audited =
      record { points = points; slot = s; next = s'; old = old; new = new; is_for = is_for; current = current; shown = shown; served = served; audited = audited }
  told answer.NoMemory o is_for current shown served audited = no_entry o audited

  pub met : (ask : Ask) (a : Answer) (o : Option AuditEntry) → ask ≡ q.ask → IsSlotFor points q s → current_at s.pairs q.ask.key.account ≡ current_at pairs q.ask.key.account
      → IsShown (pairs_at s.pairs ask.key.account) ask.key (history_at s.histories ask.key) → SlotServes s q t (Faulted (faults old) (faults new)) a s' → AuditsSettled s q t a o
      → HandlesBy faults pairs q t a o
  met ask a o is is_for current shown served audited =
      told a o is_for current (subst (λ (x : Ask). IsShown (pairs_at s.pairs x.key.account) x.key (history_at s.histories x.key)) is shown) served audited

  pub told_after : (p p' : PassState) (a : Answer) (o : Option AuditEntry) → IsSlotFor points q s → current_at s.pairs q.ask.key.account ≡ current_at pairs q.ask.key.account
      → AnswersAfter p s q t (faults old) (faults new) a p' s' → AuditsSettled s q t a o → HandlesAfterBy faults pairs p q t a o p'
  told_after p p' a o is_for current answers audited =
      record { points = points; slot = s; next = s'; old = old; new = new; is_for = is_for; current = current; answers = answers; audited = audited }

pub told_back : (points : List Key) (s : SlotState) (q : Asked) (p p' : PassState) (f : AfterFault) → IsSlotFor points q s → p' ≡ p → IsAfterFault p s f → IsBack p q p' f
told_back points s q p p' (after.Pairs place) is_for same refuses = (same, record { points = points; slot = s; is_for = is_for; refuses = refuses })
told_back points s q p p' (after.Alien place) is_for same refuses = (same, record { points = points; slot = s; is_for = is_for; refuses = refuses })
told_back points s q p p' after.NoMemory is_for same refuses = same

pub has_slot : (points : List Key) (i : ℕ) (s : SlotState) → BeginsSpan points i s → HasSlot i
has_slot points i s begins = record { points = points; slot = s; begins = begins }

-- ---- splits

pub told_cut : (points : List Key) (i : ℕ) (middle : Key) (s upper next : SlotState) → BeginsSpan points i s → CutsSettled (Ok upper) s middle next → CutsSlot points i middle
told_cut points i middle s upper next begins cut = record { slot = s; upper = upper; next = next; begins = begins; cut = cut }

module _ {W : Type 0} (faults : W → Calls) (s s' : SlotState) (middle : Key) (old new : W) where
  pub told_fault : (f : SplitError) → FailsCut s middle (faults old) (faults new) f s' → IsCutFault faults f
  told_fault (split.Map f) fails = fails.0
  told_fault (split.Slot stored.Busy) fails = record { old = old; new = new; counted = fails.1 }
  told_fault (split.Slot stored.NoMemory) fails = tt

-- spans allow the split of a slot, and its cut fails
pub told_failed : {W : Type 0} (faults : W → Calls) (points : List Key) (i : ℕ) (middle : Key) (f : SplitError) → split_refusal points i middle ≡ None → IsCutFault faults f → FailsSplit faults i middle f
told_failed faults points i middle (split.Map f) allowed fails = inr (record { points = points; allowed = allowed }, fails)
told_failed faults points i middle (split.Slot f) allowed fails = (record { points = points; allowed = allowed }, fails)

pub told_split : (points new : List Key) (i : ℕ) (middle : Key) → split_refusal points i middle ≡ None → new ≡ with_point points i middle → CutsSlot new i middle → IsSplit i middle
told_split points new i middle allowed is cuts = record { points = points; allowed = allowed; cuts = subst (λ (ps : List Key). CutsSlot ps i middle) is cuts }
