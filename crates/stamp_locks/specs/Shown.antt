-- Requests that are served after what their callers were shown (the passes are the stamp's own).
use Rattle.std.specs.Prelude.{◌≡◌, ◌⊎◌, ℕ, List, ◌∷◌, ◌++◌, Option}
use Rattle.extent_node.specs.Faults.{Calls}
use Rattle.stamp_values.specs.declared.key.Key.{Key}
use Rattle.stamp_types.specs.Requests.{Asked}
use Rattle.tickets.specs.declared.answer.Answer.{Answer}
use Rattle.access_rules.specs.declared.keys.Keys.{Keys}
use Rattle.policy_book.specs.Entries.{AuditEntry}
use Rattle.slot_state.specs.Pairs.{Pairs, current_at}
use Rattle.slot_state.specs.Slots.{SlotState}
use Rattle.slot_pass.specs.After.{IsAfterFault}
use Rattle.slot_pass.specs.Audits.{AuditsSettled}
use Rattle.slot_pass.specs.Calls.{AdmitsBy, AnswersAfter}
use Rattle.slot_pass.specs.Passes.{PassState}
use Rattle.slot_pass.specs.declared.after_fault.AfterFault.{AfterFault}
use Rattle.slot_pass.specs.declared.after_fault.AfterFault.TheVariants as after
use Rattle.stamp_locks.specs.Lent.{IsSlotFor}

-- The slot of the request answered it after what the pass shows, under its lock, with a wire that had these values before and after. The
-- slot's pair in force of the account was that of these pairs. No entry of the audit book was made, or it is that of the request, by this slot
pub record HandlesAfterBy {W : Type 0} (faults : W → Calls) (pairs : Pairs) (p : PassState) (q : Asked) (t : ℕ) (a : Answer) (o : Option AuditEntry) (p' : PassState) : Type 0 where
  pub points : List Key
  pub slot : SlotState
  pub next : SlotState
  pub old : W
  pub new : W
  pub is_for : IsSlotFor points q slot
  pub current : current_at slot.pairs q.ask.key.account ≡ current_at pairs q.ask.key.account
  pub answers : AnswersAfter p slot q t (faults old) (faults new) a p' next
  pub audited : AuditsSettled slot q t a o

-- what a stamp answers to a request with a pass, by some key pairs, with an entry of the audit book or without one
abbrev pub IsHandledAfterWith : {W : Type 0} → (W → Calls) → PassState → Asked → ℕ → Answer → Option AuditEntry → PassState → Type 0
IsHandledAfterWith faults p q t a o p' = (pairs : Pairs) × HandlesAfterBy faults pairs p q t a o p'

-- what a stamp answers to a request with a pass
abbrev pub IsHandledAfter : {W : Type 0} → (W → Calls) → PassState → Asked → ℕ → Answer → PassState → Type 0
IsHandledAfter faults p q t a p' = (o : Option AuditEntry) × IsHandledAfterWith faults p q t a o p'

-- the slot of the request does not answer it after what the pass shows, and this is why
pub record RefusesAfter (p : PassState) (q : Asked) (f : AfterFault) : Type 0 where
  pub points : List Key
  pub slot : SlotState
  pub is_for : IsSlotFor points q slot
  pub refuses : IsAfterFault p slot f

-- the pass comes back as it was: the slot of the request refused it, or memory ran out
abbrev pub IsBack : PassState → Asked → PassState → AfterFault → Type 0
IsBack p q p' after.NoMemory = p' ≡ p
IsBack p q p' f = (p' ≡ p) × RefusesAfter p q f

-- if the reply names no rule, the last key pair that the pass shows before the call admits the request; or the call shows later pairs, and the
-- last of them admits the request
abbrev pub AdmitsKnown : PassState → PassState → Asked → ℕ → Answer → Type 0
AdmitsKnown p p' q t a = AdmitsBy p q t a ⊎ ((pair : Keys) × ((more : List Keys) × ((p'.pairs ≡ p.pairs ++ pair ∷ more) × AdmitsBy p' q t a)))
