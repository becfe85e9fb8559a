-- Where the requests and the answers of a run are: in its slots, and in its history (the history and the doubts are the stamp's own).
use Rattle.std.specs.Prelude.{◌≡◌, ◌≤◌, ◌⊎◌, ⊤, ℕ, ◌+◌, Bool, true, false, List, [], ◌∷◌, ◌++◌, length, Option, Some, None, IsSome, Ok, Err, find}
use Rattle.stamp_values.specs.declared.key.Key.{Key}
use Rattle.stamp_types.specs.declared.past.Past.{Past}
use Rattle.stamp_types.specs.declared.reply.Reply as replies
use Rattle.stamp_types.specs.declared.rule.Rule.{Rule}
use Rattle.stamp_types.specs.declared.rule.Rule.TheVariants as rule
use Rattle.stamp_types.specs.Requests.{Asked}
use Rattle.stamp_types.specs.World.{part_at}
use Rattle.range_rows.specs.SentContent.{sizes}
use Rattle.partition_map.specs.Spans.{AreSpans, slot_of}
use Rattle.stamp_model.specs.Effects.{accepted}
use Rattle.stamp_model.specs.Refusals.{refuses, rules_in_order}
use Rattle.stamp_model.specs.Runs.{Timed, reply_to_one, world_after_all}
use Rattle.slot_state.specs.Pairs.{AreNumbered, current_at, epoch_of}
use Rattle.core_run.specs.declared.step.Step.{Step}
use Rattle.core_run.specs.declared.step.Step.TheVariants as step
use Rattle.core_run.specs.declared.step.Outcome.TheVariants.{Reply, Later}
use Rattle.core_run.specs.declared.step.StepFault.TheVariants as fault
use Rattle.core_run.specs.Machine.{Answer, SettlesDoubt}
use Rattle.core_run.specs.States.{State, Turn, slot_doubt, doubted, dropped, held_by, kept, reply_in, requests, slot_for, timed_in}

-- ---- slots

-- the slot whose doubt the step settles first, if the step is one that does
abbrev pub works_on : State → Step → Option ℕ
works_on s (step.Serve q t) = Some (slot_for s q)
works_on s (step.Split i middle) = Some i
works_on s (step.Settle i) = Some i
works_on s (step.Seal i) = Some i
works_on s (step.Load i) = Some i
works_on s (step.Checkpoint i) = Some i
works_on s (step.Compact i) = Some i
works_on s (step.Repair i stream extent node) = Some i
works_on s x = None

-- the change in doubt of the slot that has the key
abbrev pub doubt_at : State → Key → Option Past
doubt_at s key = slot_doubt s (slot_of s.points key)

-- the split points are those of spans; each slot may have a doubt, whose container is in the span of the slot; and the key pairs of each
-- account have their places as their epochs
pub record IsSound (s : State) : Type 0 where
  pub spans : AreSpans s.points
  pub counted : length s.doubts ≡ length s.points + 1
  pub placed : (i : ℕ) (e : Past) → slot_doubt s i ≡ Some e → slot_of s.points e.request.ask.key ≡ i
  pub numbered : AreNumbered s.pairs

-- the model accepts the change in doubt in this state, by the key pair of its epoch, and its epoch is not after that of the pair in force
pub record IsAcceptable (s : State) (e : Past) : Type 0 where
  pub epoch : e.epoch ≤ epoch_of (current_at s.pairs e.request.ask.key.account)
  pub changes : IsSome (accepted (doubted s e).keys (sizes (part_at s.world e.request.ask.key)) e.request e.moment)

-- the model accepts each change in doubt
abbrev pub DoubtsAreAcceptable : State → Type 0
DoubtsAreAcceptable s = (i : ℕ) (e : Past) → slot_doubt s i ≡ Some e → IsAcceptable s e

-- ---- the history

-- the rule is one of the two by which a reply tells of a fault
abbrev pub is_fault_rule : Option Rule → Bool
is_fault_rule (Some rule.N1) = true
is_fault_rule (Some rule.N2) = true
is_fault_rule other = false

-- the answer tells of a fault: nodes were out of reach, or the outcome of a change is unknown
abbrev pub tells_fault : Answer → Bool
tells_fault (Ok (Reply r)) = is_fault_rule r.rule
tells_fault (Err fault.Busy) = true
tells_fault (Err fault.Unreachable) = true
tells_fault other = false

-- the answer to a Serve gives this reply: at once, and it is not one of the two that tell of a fault; or by the ticket that holds it in the
-- state after the Serve
abbrev pub GivesReply : Answer → State → replies.Reply → Type 0
GivesReply (Ok (Reply r)) s o = (is_fault_rule r.rule ≡ false) × (o ≡ r)
GivesReply (Ok (Later n)) s o = held_by s n ≡ Some o
GivesReply other s o = ⊥

-- the doubt of one slot is settled, if the slot has one; or nothing changes
abbrev pub SettlesOneAtMost : State → State → Type 0
SettlesOneAtMost s m = (m ≡ s) ⊎ ((i : ℕ) × SettlesDoubt s i m)

-- the turn of a request that is served in this state: with the model's reply
abbrev pub own_turn : State → Asked → ℕ → Turn
own_turn m q t = record { served = timed_in m q t; reply = Some (reply_in m q t) }

-- The step is a Serve that is answered with the model's reply, at once or by the next ticket, and its own turn is the last one of the
-- history. Or the step adds no turn, and leaves the containers
abbrev pub AddsOwnTurn : Step → Answer → State → State → Type 0
AddsOwnTurn x answer m s' =
    ((q : Asked) × ((t : ℕ) × ((x ≡ step.Serve q t)
    × (((answer ≡ Ok (Reply (reply_in m q t))) ⊎ (answer ≡ Ok (Later (length m.tickets))))
    × (s'.history ≡ m.history ++ own_turn m q t ∷ [])))))
    ⊎ ((s'.history ≡ m.history) × (s'.world ≡ m.world))

-- The change that was in doubt for the key has ended before this turn, which is the last one of the history. In a state before that, the
-- slot of the key still had the doubt, and the container of the key was as at first. There the doubt was settled: the change was kept, and
-- is a turn of the history, or it was dropped. Now the slot of the key has no doubt
pub record HasEnded (s : State) (key : Key) (e : Past) (now : Turn) (s' : State) : Type 0 where
  pub waiting : State
  pub settled : State
  pub front : List Turn
  pub rest : List Turn
  pub doubt : doubt_at waiting key ≡ Some e
  pub container : part_at waiting.world key ≡ part_at s.world key
  pub before : waiting.history ≡ s.history ++ front
  pub ends : (settled ≡ kept waiting (slot_of waiting.points key) e) ⊎ (settled ≡ dropped waiting (slot_of waiting.points key))
  pub after : s'.history ≡ settled.history ++ (rest ++ now ∷ [])
  pub none : doubt_at s' key ≡ None

-- the step is a Rotate
abbrev pub is_rotate : Step → Bool
is_rotate (step.Rotate account which key) = true
is_rotate x = false

-- a step that asks a request asks one that passes the test at its moment
abbrev pub PassesStep : (Asked → ℕ → Bool) → Step → Type 0
PassesStep test (step.Serve q t) = test q t ≡ true
PassesStep test x = ⊤

-- each change in doubt is a request that passes the test at its moment
abbrev pub DoubtsPass : (Asked → ℕ → Bool) → State → Type 0
DoubtsPass test s = (i : ℕ) (e : Past) → slot_doubt s i ≡ Some e → test e.request e.moment ≡ true

-- The history that a run added has this request with this reply. The reply is the model's, after the requests that come before, and names
-- the first rule that refuses the request there
pub record HasPlace (s s' : State) (now : Timed) (o : replies.Reply) : Type 0 where
  pub front : List Turn
  pub rest : List Turn
  pub history : s'.history ≡ s.history ++ (front ++ record { served = now; reply = Some o } ∷ rest)
  pub reply : o ≡ reply_to_one (world_after_all s.world (requests front)) now
  pub rule : o.rule ≡ find (refuses now.keys (sizes (part_at (world_after_all s.world (requests front)) now.request.ask.key)) now.request now.moment) rules_in_order
