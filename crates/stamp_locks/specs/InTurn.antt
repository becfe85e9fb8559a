-- Lists of calls with passes, and what they leave in a front (the passes are the stamp's own).
use Rattle.std.specs.Prelude.{◌≡◌, ℕ, Bool, true, false, List, [], ◌∷◌, ◌++◌, if◌then◌else◌, is_none, is_some}
use mathlib.Core.List.{IsPrefix}
use Rattle.extent_node.specs.Faults.{Calls}
use Rattle.stamp_types.specs.declared.past.Past.{Past}
use Rattle.stamp_types.specs.Requests.{Asked}
use Rattle.range_rows.specs.SentContent.{sizes}
use Rattle.stamp_model.specs.Effects.{accepted}
use Rattle.stamp_model.specs.Histories.{replay}
use Rattle.tickets.specs.declared.answer.Answer.{Answer}
use Rattle.tickets.specs.declared.answer.Answer.TheVariants as answer
use Rattle.slot_state.specs.Pairs.{epoch_of, in_force}
use Rattle.slot_pass.specs.Passes.{PassState}
use Rattle.stamp_locks.specs.Shown.{IsHandledAfter}

-- a call with a pass that was answered: the request and its moment, the answer, and the pass after the call
pub record PassCall : Type 0 where
  pub request : Asked
  pub moment : ℕ
  pub answer : Answer
  pub after : PassState

-- calls with one pass, one after the other: each call takes the pass as the call before it left the pass
abbrev pub AreCalls : {W : Type 0} → (W → Calls) → PassState → List PassCall → PassState → Type 0
AreCalls faults p [] p' = p' ≡ p
AreCalls faults p (c ∷ cs) p' = IsHandledAfter faults p c.request c.moment c.answer c.after × AreCalls faults c.after cs p'

-- the reply that the answer has, now or later, names no rule
abbrev pub names_no_rule : Answer → Bool
names_no_rule (answer.Done r) = is_none r.rule
names_no_rule (answer.Later r) = true
names_no_rule answer.NoMemory = false

-- what the call changed, if it met these accepted changes: its entry, if its reply names no rule and its request makes a change, by the last key
-- pair that the pass then shows
abbrev pub changed : PassCall → List Past → List Past
changed c met =
    if names_no_rule c.answer
    then (if is_some (accepted (in_force c.after.pairs) (sizes (replay c.after.pairs met)) c.request c.moment) then record { request = c.request; moment = c.moment; epoch = epoch_of (in_force c.after.pairs) } ∷ [] else [])
    else []

-- a list that begins with what was shown, and then has what others changed, and then what a call changed
abbrev pub front_with : List Past → List Past → List Past → List Past
front_with shown others own = (shown ++ others) ++ own

-- The list begins with what was shown, and then has what these calls changed, each once, in the order of the calls. Before each of these changes,
-- and after the last, changes of others may come
abbrev pub HasInTurn : List Past → List PassCall → List Past → Type 0
HasInTurn shown [] list = IsPrefix shown list
HasInTurn shown (c ∷ cs) list = (others : List Past) × HasInTurn (front_with shown others (changed c (shown ++ others))) cs list

-- one list has in turn what the calls with two passes changed
pub record AreInOneList (shown also : List Past) (calls others : List PassCall) : Type 0 where
  pub list : List Past
  pub first : HasInTurn shown calls list
  pub second : HasInTurn also others list
