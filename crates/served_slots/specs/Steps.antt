-- What the steps on a locked slot answer (Calder et al., SOSP 2011, section 5: a range partition; section 5.5: a partition is split).
use Rattle.std.specs.Prelude.{◌≡◌, ◌+◌, ⊤, List, Option, Some, None, Result, Ok, Err}
use Rattle.stamp_values.specs.declared.key.Key.{Key}
use Rattle.stamp_types.specs.declared.reply.Reply.{Reply}
use Rattle.partition_map.specs.Spans.{slot_of, split_refusal, with_point}
use Rattle.partition_map.specs.declared.fault.MapFault.{MapFault}
use Rattle.partition_map.specs.declared.fault.MapFault.TheVariants as cause
use Rattle.tickets.specs.declared.answer.Answer.{Answer}
use Rattle.tickets.specs.declared.answer.Answer.TheVariants as answer
use Rattle.served_history.specs.declared.entry.Entry.{Entry}
use Rattle.served_history.specs.Growth.{SlotFront}
use Rattle.served_history.specs.Histories.{count_of}
use Rattle.served_slots.specs.Slots.{IsParted}
use Rattle.served_slots.specs.declared.entering.Missed.{Missed}
use Rattle.served_slots.specs.declared.entering.Missed.TheVariants as missed
use Rattle.served_slots.specs.declared.splitting.SplitFault.{SplitFault}
use Rattle.served_slots.specs.declared.splitting.SplitFault.TheVariants as split

-- the reply that is there, or that the ticket gives
abbrev pub told_reply : Result Reply Reply → Reply
told_reply (Ok r) = r
told_reply (Err ticket) = ticket

-- the reply of the answer, now or by its ticket; or memory ran out
abbrev pub SaysReply : {E : Type 0} → Answer → Result Reply E → Type 0
SaysReply (answer.Done r) (Ok o) = o ≡ r
SaysReply (answer.Done r) (Err e) = ⊥
SaysReply (answer.Later r) (Ok o) = o ≡ r
SaysReply (answer.Later r) (Err e) = ⊥
SaysReply answer.NoMemory (Ok o) = ⊥
SaysReply answer.NoMemory (Err e) = ⊤

-- this holds, unless the slot has a change that the history does not have
abbrev pub UnlessLost : {T : Type 0} → Result T Missed → Type 0 → Type 0
UnlessLost (Err missed.Lost) holds = ⊤
UnlessLost other holds = holds

-- this holds if memory ran out
abbrev pub IfNoMemory : {T : Type 0} → Result T Missed → Type 0 → Type 0
IfNoMemory (Err missed.NoMemory) holds = holds
IfNoMemory other holds = ⊤

-- this holds if the slot has a change that the history does not have
abbrev pub IfLost : {T : Type 0} → Result T Missed → Type 0 → Type 0
IfLost (Err missed.Lost) holds = holds
IfLost other holds = ⊤

-- the slot made one entry, and knows then what the connection knows
pub record HasOneMore (front : SlotFront) (known' : List Entry) (front' : SlotFront) : Type 0 where
  pub log : front' ≡ record front { log = known' }
  pub made : count_of front.slot front'.log ≡ count_of front.slot front.log + 1

-- the same of a slot that knows the history before and after
abbrev pub MakesOne : Option SlotFront → List Entry → Option SlotFront → Type 0
MakesOne (Some front) known' (Some front') = HasOneMore front known' front'
MakesOne (Some front) known' None = ⊥
MakesOne None known' after = ⊥

-- a slot that knows the history before and after was split at this key, and this is what the upper slot knows
abbrev pub IsPartedFrom : Option SlotFront → Key → Option SlotFront → Option SlotFront → Type 0
IsPartedFrom (Some front) middle (Some lower) (Some upper) = IsParted front middle lower upper
IsPartedFrom (Some front) middle (Some lower) None = ⊥
IsPartedFrom (Some front) middle None upper = ⊥
IsPartedFrom None middle lower upper = ⊥

-- why these spans refuse to split the slot that has this key at the key, if they do
abbrev pub refusal_at : List Key → Key → Option MapFault
refusal_at points middle = split_refusal points (slot_of points middle) middle

-- these spans after such a split: another span begins with the key
abbrev pub split_at : List Key → Key → List Key
split_at points middle = with_point points (slot_of points middle) middle

-- the cause for which spans refuse a split, by what is answered. Lack of memory is not such a cause
abbrev pub split_cause : SplitFault → Option MapFault
split_cause split.FirstKey = Some cause.NotInside
split_cause split.Full = Some cause.Full
split_cause split.NoMemory = None

-- some spans answer so if the slot that has this key is to be split there: they refuse it with this cause, or allow it
pub record SpansSay (middle : Key) (cause : Option MapFault) : Type 0 where
  pub points : List Key
  pub said : refusal_at points middle ≡ cause

-- why no slot is split at this key: a slot begins with it, or there are as many slots as there may be; or the spans allow it, and memory ran out or
-- the slot is not cut
abbrev pub IsSplitFault : Key → SplitFault → Type 0
IsSplitFault middle fault = SpansSay middle (split_cause fault)
