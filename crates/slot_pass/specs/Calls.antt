-- What a caller knows of an answer after what the caller was shown (Delegating Access with a Shared Access Signature: revoking access; the
-- passes are the stamp's own).
use Rattle.std.specs.Prelude.{◌≡◌, ◌⊎◌, ⊤, ℕ, true, List, [], ◌∷◌, ◌++◌, Option, None, if◌then◌else◌, is_some}
use mathlib.Core.List.{IsPrefix}
use Rattle.extent_node.specs.Faults.{Calls}
use Rattle.stamp_values.specs.declared.acl.Acl.{Acl}
use Rattle.stamp_types.specs.declared.past.Past.{Past}
use Rattle.stamp_types.specs.declared.reply.Reply.{Reply}
use Rattle.stamp_types.specs.declared.rule.Rule.{Rule}
use Rattle.stamp_types.specs.Replies.{denied}
use Rattle.stamp_types.specs.Requests.{Asked}
use Rattle.access_rules.specs.declared.keys.Keys.{Keys}
use Rattle.access_rules.specs.Routes.{Admits}
use Rattle.range_rows.specs.SentContent.{sizes}
use Rattle.stamp_model.specs.Effects.{accepted}
use Rattle.stamp_model.specs.Histories.{replay}
use Rattle.stamp_model.specs.Refusals.{access_refusal}
use Rattle.stamp_model.specs.Withdrawals.{is_before_fields}
use Rattle.tickets.specs.declared.answer.Answer.{Answer}
use Rattle.tickets.specs.declared.answer.Answer.TheVariants as answer
use Rattle.slot_state.specs.Pairs.{epoch_of, in_force}
use Rattle.slot_state.specs.Slots.{SlotState}
use Rattle.stored_slot.specs.Served.{Faulted, busy}
use Rattle.slot_pass.specs.After.{Begins, ServesOrNot, pass_with}
use Rattle.slot_pass.specs.Passes.{PassState}

-- A call with a pass that answers: the request is of the container of the pass; what the pass shows is a beginning of what the slot has; the
-- slot serves the request; and then the pass shows all that the slot has
pub record AnswersAfter (p : PassState) (s : SlotState) (q : Asked) (t : ℕ) (old new : Calls) (a : Answer) (p' : PassState) (s' : SlotState) : Type 0 where
  pub names : q.ask.key ≡ p.key
  pub begins : Begins p s
  pub answered : ServesOrNot s q t (Faulted old new) a s'
  pub holds : p' ≡ pass_with p s'

-- the reply is a denial by one of the rules S2 to S5
abbrev pub IsTokenDenial : Reply → Type 0
IsTokenDenial r = (rule : Rule) × ((is_before_fields rule ≡ true) × (r ≡ denied (access_refusal rule)))

-- the answer is a denial by one of the rules S2 to S5; or nodes were out of reach; or memory ran out
abbrev pub IsTokenDenied : Answer → Type 0
IsTokenDenied (answer.Done r) = IsTokenDenial r ⊎ (r ≡ busy)
IsTokenDenied (answer.Later r) = IsTokenDenial r
IsTokenDenied answer.NoMemory = ⊤

-- if the reply names no rule, the route of the request admits it, by the last key pair that the pass shows
abbrev pub IsAdmittedBy : PassState → Asked → ℕ → Reply → Type 0
IsAdmittedBy p q t r = r.rule ≡ None → (acl : Option Acl) × Admits (in_force p.pairs) acl q.ask.credential q.ask t

-- the same of the reply that an answer has, now or later
abbrev pub AdmitsBy : PassState → Asked → ℕ → Answer → Type 0
AdmitsBy p q t (answer.Done r) = IsAdmittedBy p q t r
AdmitsBy p q t (answer.Later r) = IsAdmittedBy p q t r
AdmitsBy p q t answer.NoMemory = ⊤

-- the history after a request: with its entry if the request makes a change of the container as the history replays, by the last key pair
abbrev pub history_with : List Keys → List Past → Asked → ℕ → List Past
history_with pairs history q t =
    if is_some (accepted (in_force pairs) (sizes (replay pairs history)) q t) then history ++ record { request = q; moment = t; epoch = epoch_of (in_force pairs) } ∷ [] else history

-- The request met a history that the old front begins, and the new front is this history after the request
abbrev pub MetHistory : PassState → Asked → ℕ → PassState → Type 0
MetHistory p q t p' = (met : List Past) × (IsPrefix p.front met × (p'.front ≡ history_with p'.pairs met q t))

-- an answer whose reply names no rule
abbrev pub MeetsIfServed : PassState → Asked → ℕ → Answer → PassState → Type 0
MeetsIfServed p q t (answer.Done r) p' = r.rule ≡ None → MetHistory p q t p'
MeetsIfServed p q t (answer.Later r) p' = MetHistory p q t p'
MeetsIfServed p q t answer.NoMemory p' = ⊤
