-- What a slot over streams answers to a request (Calder et al., SOSP 2011, section 5: what a partition server does with its range and its
-- streams). The answers for nodes that are out of reach, for a change whose outcome is unknown and for a lack of memory are the stamp's own.
use Rattle.std.specs.Prelude.{◌≡◌, ◌⊎◌, ◌<◌, ⊤, ℕ, true, Some, None, IsSome, Result, Ok, Err}
use Rattle.extent_node.specs.Faults.{Calls}
use Rattle.extent_seal.specs.Counting.{all_faults}
use Rattle.stamp_types.specs.declared.code.Code.TheVariants as code
use Rattle.stamp_types.specs.declared.reply.Reply.{Reply}
use Rattle.stamp_types.specs.declared.rule.Rule.TheVariants as rule
use Rattle.stamp_types.specs.Replies.{denied}
use Rattle.stamp_types.specs.Requests.{Asked}
use Rattle.stream_manager.specs.declared.faults.StoredFault.{StoredFault}
use Rattle.stream_manager.specs.declared.faults.StoredFault.TheVariants as stored
use Rattle.partition_stream.specs.declared.faults.TakeFault.{TakeFault}
use Rattle.partition_stream.specs.declared.faults.TakeFault.TheVariants as take
use Rattle.tickets.specs.Answers.{IsAnswer}
use Rattle.tickets.specs.declared.answer.Answer.{Answer}
use Rattle.tickets.specs.declared.answer.Answer.TheVariants as answer
use Rattle.slot_state.specs.Slots.{IsServed, SlotState, change_now, entry_of}
use Rattle.stored_slot.specs.Meanings.{NothingRefuses}
use Rattle.stored_slot.specs.Settled.{SettlesSlot}

-- the reply to a request whose slot needs nodes that are out of reach
abbrev pub busy : Reply
busy = denied (record { rule = rule.N1; code = code.ServerBusy })

-- the reply to a change whose outcome is unknown
abbrev pub unknown : Reply
unknown = denied (record { rule = rule.N2; code = code.OperationTimedOut })

-- a call of the wire failed
abbrev pub Faulted : Calls → Calls → Type 0
Faulted old new = all_faults old < all_faults new

-- the slot after a request whose change is in doubt
abbrev pub doubting : SlotState → Asked → ℕ → SlotState
doubting s q t = record s { doubt = Some (entry_of s.pairs q t) }

-- the request failed: nodes were out of reach, which is so only if a call of the wire failed; or memory ran out
abbrev pub FailsAnswer : Type 0 → Answer → Type 0
FailsAnswer faulted (answer.Done r) = faulted × (r ≡ busy)
FailsAnswer faulted (answer.Later r) = ⊥
FailsAnswer faulted answer.NoMemory = ⊤

-- the answer of a fault: the denial of N1, unless memory runs out
abbrev pub IsFailed : Answer → StoredFault → Type 0
IsFailed a stored.Busy = IsAnswer a true busy
IsFailed a stored.NoMemory = a ≡ answer.NoMemory

-- the answer is this reply, at once or by a ticket; or nodes were out of reach; or memory ran out
abbrev pub ReadsAnswer : Type 0 → Reply → Answer → Type 0
ReadsAnswer faulted reply (answer.Done r) = (r ≡ reply) ⊎ (faulted × (r ≡ busy))
ReadsAnswer faulted reply (answer.Later r) = r ≡ reply
ReadsAnswer faulted reply answer.NoMemory = ⊤

-- what a request is answered whose change was taken, is in doubt, or is neither
abbrev pub IsTakenAnswer : Result (Unit {0}) TakeFault → Reply → Answer → Type 0
IsTakenAnswer (Ok u) frame a = a ≡ answer.Done frame
IsTakenAnswer (Err take.Doubt) frame a = a ≡ answer.Done unknown
IsTakenAnswer (Err take.Busy) frame a = IsAnswer a true busy
IsTakenAnswer (Err take.NoMemory) frame a = a ≡ answer.NoMemory

-- A request to a slot without a doubt is served, and answered at once, or by a ticket if it makes no change; or it fails, and nothing
-- changes; or a call of the wire failed while the log was written, and the request makes a change: then the outcome of this change is
-- unknown, and the change is in doubt
abbrev pub ServesBy : SlotState → Asked → ℕ → Type 0 → Answer → SlotState → Type 0
ServesBy s q t faulted (answer.Done r) s' =
    IsServed s q t s.to r s'
    ⊎ ((faulted × ((r ≡ busy) × (s' ≡ s)))
    ⊎ (faulted × (IsSome (change_now s.pairs s.histories q t) × ((r ≡ unknown) × (s' ≡ doubting s q t)))))
ServesBy s q t faulted (answer.Later r) s' = IsServed s q t s.to r s' × (change_now s.pairs s.histories q t ≡ None)
ServesBy s q t faulted answer.NoMemory s' = s' ≡ s

-- if the answer refuses nothing, or comes by a ticket, then nothing refuses the request
abbrev pub AnswersUnrefused : SlotState → Asked → ℕ → Answer → Type 0
AnswersUnrefused s q t (answer.Done r) = r.rule ≡ None → NothingRefuses s.pairs s.histories q t
AnswersUnrefused s q t (answer.Later r) = NothingRefuses s.pairs s.histories q t
AnswersUnrefused s q t answer.NoMemory = ⊤

-- a request to a slot without a doubt is served, and if the answer refuses nothing, or comes by a ticket, then nothing refuses the request
abbrev pub ServesUnrefused : SlotState → Asked → ℕ → Type 0 → Answer → SlotState → Type 0
ServesUnrefused s q t faulted a s' = ServesBy s q t faulted a s' × AnswersUnrefused s q t a

-- A request is served after the doubt of the slot is settled, if there is one. If the settle fails, the request fails, and the doubt stays
abbrev pub SlotServes : SlotState → Asked → ℕ → Type 0 → Answer → SlotState → Type 0
SlotServes s q t faulted a s' =
    ((m : SlotState) × (SettlesSlot s m × ServesBy m q t faulted a s'))
    ⊎ (IsSome s.doubt × (FailsAnswer faulted a × (s' ≡ s)))
