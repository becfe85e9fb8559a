-- A connection that is left while it waits, and gone on with.
use Rattle.std.specs.Prelude.{◌≡◌, ◌≢◌, ℕ, Bool, true, false, List, [], ◌∷◌, Result, Ok, Err, IfSome}
use Rattle.std.specs.Io.KnownBytes.{Appends}
use Rattle.stamp_types.specs.Requests.{Asked}
use Rattle.stamp_types.specs.declared.reply.Reply.{Reply}
use Rattle.reply_form.specs.FixedReplies.{out_of_memory_bytes}
use Rattle.http_front.specs.declared.counted.Output.TheVariants as outputs
use Rattle.http_front.specs.declared.end.End.{End}
use Rattle.http_front.specs.declared.end.FrontFault.{FrontFault}
use Rattle.http_front.specs.declared.end.FrontFault.TheVariants.{Read, Write, Turns, NoMemory}
use Rattle.http_front.specs.declared.item.Stage.{Stage}
use Rattle.http_front.specs.declared.item.Progress.{Progress}
use Rattle.http_front.specs.declared.item.Progress.TheVariants.{Ended, Waits}
use Rattle.http_front.specs.Connections.{ConnectionState, GivesUp, IsTold, Sends, StopsWriting}
use Rattle.http_front.specs.Conversations.{AnswersInput, AnswersReceived, BreaksOff, EndsByWrite, EndsOutOfMemory, LeavesRun}
use Rattle.http_front.specs.Outcomes.{IsOfWholeInput, UnlessWriteFailed, UnlessWriteOrMemoryFailed}
use Rattle.http_front.specs.Steps.{Comes, Conversing, LeavesStep}

-- what the last call of `advance` gives if the connection ends so
abbrev pub step_of : Result End FrontFault → Result Progress FrontFault
step_of (Ok end) = Ok (Ended end)
step_of (Err fault) = Err fault

-- what one call of `advance` ensures
pub record GoesOn {C S : Type 0} (gives : C → ℕ → C → Type 0) (answers : S → Asked → ℕ → Reply → S → Type 0) (starves : S → S → Type 0)
    (clock clock' : C) (world world' : S) (stage : Stage) (from to : ConnectionState) (result : Result Progress FrontFault) : Type 0 where
  pub comes : (first : C) (start : S) (fresh : ConnectionState) → Conversing gives answers first clock start world fresh stage from
      → Comes gives answers starves first clock' start world' fresh to result
  pub left : LeavesStep result to

-- where a connection was left: the clock, the world of the service, the stage of the next item, and the connection
pub record Wait (C S : Type 0) : Type 0 where
  pub clock : C
  pub world : S
  pub stage : Stage
  pub connection : ConnectionState

-- Calls of `advance` followed each other. The connection was left at each of these waits, and the last call gave the result.
abbrev pub IsResumed : {C S : Type 0} → (C → ℕ → C → Type 0) → (S → Asked → ℕ → Reply → S → Type 0) → (S → S → Type 0)
    → C → C → S → S → Stage → ConnectionState → List (Wait C S) → ConnectionState → Result Progress FrontFault → Type 0
IsResumed gives answers starves clock clock' world world' stage from [] to result =
    GoesOn gives answers starves clock clock' world world' stage from to result
IsResumed gives answers starves clock clock' world world' stage from (wait ∷ waits) to result =
    GoesOn gives answers starves clock wait.clock world wait.world stage from wait.connection (Ok (Waits wait.stage))
    × IsResumed gives answers starves wait.clock clock' wait.world world' wait.stage wait.connection waits to result

-- what is written after the last answer: the bytes that say that memory ran out, if it did
abbrev pub last_bytes : Result End FrontFault → List ℕ
last_bytes (Ok end) = []
last_bytes (Err Read) = []
last_bytes (Err Write) = []
last_bytes (Err Turns) = []
last_bytes (Err NoMemory) = out_of_memory_bytes

-- A connection that came to its end made its last calls: its last bytes were written and flushed, or a write failed. No byte is written
-- after a failed write.
pub record MakesLastCalls (ended result : Result End FrontFault) (from to : ConnectionState) : Type 0 where
  pub unread : (to.reader ≡ from.reader) × (to.bytes ≡ from.bytes)
  pub sent : Sends from.writer to.writer (last_bytes ended)
  pub flushed : result ≢ Err Write → (result ≡ ended) × (to.writer.output ≡ outputs.Flushed)
  pub failed : result ≡ Err Write → to.writer.output ≡ outputs.Failed
  pub still : ended ≡ Err Write → (result ≡ Err Write) × (to ≡ from)

-- A connection that came to its end was finished: it made its last calls, and how far its input and its output have come is what its calls
-- say.
pub record Finishes (ended result : Result End FrontFault) (from to : ConnectionState) : Type 0 where
  pub calls : MakesLastCalls ended result from to
  pub told : IsTold to

-- what was read, answered and written on a connection that came to its end and is not finished
pub record HasConversed {C S : Type 0} (gives : C → ℕ → C → Type 0) (answers : S → Asked → ℕ → Reply → S → Type 0) (starves : S → S → Type 0)
    (clock clock' : C) (world world' : S) (from to : ConnectionState) (ended : Result End FrontFault) : Type 0 where
  pub conversed : UnlessWriteOrMemoryFailed ended (AnswersReceived gives answers clock clock' world world' from to ended)
  pub whole : IsOfWholeInput ended to.reader.input → IfSome from.reader.left (AnswersInput gives answers clock clock' world world' from to ended)
  pub starved : ended ≡ Err NoMemory → EndsOutOfMemory gives answers starves clock clock' world world' from to []
  pub broken : ended ≡ Err Write → BreaksOff gives answers clock clock' world world' from to
  pub left : LeavesRun ended to

-- all that `run` ensures
pub record HasRun {C S : Type 0} (gives : C → ℕ → C → Type 0) (answers : S → Asked → ℕ → Reply → S → Type 0) (starves : S → S → Type 0)
    (clock clock' : C) (world world' : S) (from to : ConnectionState) (result : Result End FrontFault) : Type 0 where
  pub conversed : UnlessWriteOrMemoryFailed result (AnswersReceived gives answers clock clock' world world' from to result)
  pub whole : IsOfWholeInput result to.reader.input → IfSome from.reader.left (AnswersInput gives answers clock clock' world world' from to result)
  pub starved : result ≡ Err NoMemory → EndsOutOfMemory gives answers starves clock clock' world world' from to out_of_memory_bytes
  pub broken : result ≡ Err Write → EndsByWrite gives answers starves clock clock' world world' from to
  pub left : LeavesRun result to
  pub flushed : UnlessWriteFailed result (to.writer.output ≡ outputs.Flushed)
  pub told : IsTold to

-- What a connection waits for is not waited for, and that is as if a call had failed: a write if it waits for its writer, and otherwise
-- a read.
abbrev pub IsGivenUp : Bool → FrontFault → ConnectionState → ConnectionState → Type 0
IsGivenUp true fault from to = (fault ≡ Write) × StopsWriting from.writer to.writer × (to.reader ≡ from.reader) × (to.bytes ≡ from.bytes)
IsGivenUp false fault from to = (fault ≡ Read) × GivesUp from.reader to.reader × (to.writer ≡ from.writer) × (to.bytes ≡ from.bytes)

-- the clock gives one moment at a time
abbrev pub GivesOneMoment : {C : Type 0} → (C → ℕ → C → Type 0) → Type 0
GivesOneMoment {C} gives = (clock one other : C) (moment moment' : ℕ) → gives clock moment one → gives clock moment' other → (moment ≡ moment') × (one ≡ other)

-- the service gives one reply to a request
abbrev pub GivesOneReply : {S : Type 0} → (S → Asked → ℕ → Reply → S → Type 0) → Type 0
GivesOneReply {S} answers = (world one other : S) (request : Asked) (moment : ℕ) (reply reply' : Reply)
    → answers world request moment reply one → answers world request moment reply' other → (reply ≡ reply') × (one ≡ other)

-- the same bytes were written, and clock, service and end are the same
pub record EndsAlike {C S : Type 0} (clock clock' : C) (world world' : S) (from to from' to' : ConnectionState) (result result' : Result End FrontFault) : Type 0 where
  pub output : List ℕ
  pub one : Appends from.writer.held to.writer.held output
  pub other : Appends from'.writer.held to'.writer.held output
  pub clocks : clock ≡ clock'
  pub worlds : world ≡ world'
  pub results : result ≡ result'
