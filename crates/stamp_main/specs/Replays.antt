-- What `stamp replay` writes: the answers to its input in order, as the model says, by a clock that always gives the same moment
-- (Blob service REST reference, 2012-02-12; RFC 9112, section 9.3).
use Rattle.std.specs.Prelude.{◌≡◌, ◌⊎◌, ℕ, List, [], ◌∷◌, ◌++◌, length, true, Some, IfSome, Result, Ok, codes}
use Rattle.std.specs.FinMap as finite
use Rattle.std.specs.Io.KnownBytes.{Appends}
use Rattle.stamp_values.specs.Names.{is_account}
use Rattle.stamp_types.specs.declared.reply.Reply.{Reply}
use Rattle.stamp_types.specs.Replies.{denied}
use Rattle.moment_text.specs.IsoReader.{iso_moment}
use Rattle.hmac_sign.specs.Signature.{IsBytes, base64_of}
use Rattle.access_rules.specs.declared.keys.Keys.{Keys}
use Rattle.stamp_model.specs.Runs.{Timed, timed, replies_to}
use Rattle.http_front.specs.declared.end.End.{End}
use Rattle.http_front.specs.declared.end.FrontFault.{FrontFault}
use Rattle.http_front.specs.declared.counted.Output.TheVariants as outputs
use Rattle.http_front.specs.Connections.{ConnectionState, Receives, Sends}
use Rattle.http_front.specs.Conversations.{EndsAs, LeavesRun, next_bytes}
use Rattle.http_front.specs.Inputs.{IsInterimOrNothing}
use Rattle.http_front.specs.Outcomes.{IsOfWholeInput}
use Rattle.reply_form.specs.FixedReplies.{out_of_memory_bytes}
use Rattle.request_form.specs.HeadForms.{with_body}
use Rattle.reply_form.specs.ReplyBytes.{reply_bytes}
use Rattle.http_front.specs.Streams.{Item, Tail, Reads, ReadsFront, interim, tail_bytes, refusal_of}
use Rattle.http_front.specs.Streams.Item.{Requested, Refused}
use Rattle.stamp_main.specs.declared.ending.Ending.{Ending}
use Rattle.stamp_main.specs.Ending.{run_ending}

-- the requests among items in this order, each answered at the moment by the account's key pair
abbrev pub requests_of : Keys → ℕ → List Item → List Timed
requests_of keys t [] = []
requests_of keys t (Requested form body ∷ items) = timed keys (with_body form body) t ∷ requests_of keys t items
requests_of keys t (Refused denial ∷ items) = requests_of keys t items

-- What is written for items in this order at the moment, if these are the replies to the requests among them: for a request the
-- interim reply if the request asks for it, and then its reply.
abbrev pub written_for : ℕ → List Item → List Reply → List ℕ
written_for t [] replies = []
written_for t (Requested form body ∷ items) [] = written_for t items []
written_for t (Requested form body ∷ items) (r ∷ replies) =
    (interim form ++ reply_bytes r t (Some form.ask.signing.verb) form.closes) ++ written_for t items replies
written_for t (Refused denial ∷ items) replies = reply_bytes (denied (refusal_of denial)) t denial.verb true ++ written_for t items replies

-- what is written for items in this order at the moment: the replies of the model, if there are no containers before the first request
abbrev pub output_of : Keys → ℕ → List Item → List ℕ
output_of keys t items = written_for t items (replies_to finite.empty (requests_of keys t items))

-- what a replay writes for a stream that has these items and stops in this way
unfoldable pub replay_output : Keys → ℕ → List Item → Tail → List ℕ
replay_output keys t items tail = output_of keys t items ++ tail_bytes tail

-- what a replay writes for an input: what it writes for the items of the input
abbrev pub IsOutput : Keys → ℕ → List ℕ → List ℕ → Type 0
IsOutput keys t input output = (items : List Item) × (tail : Tail) × Reads input items tail × (output ≡ replay_output keys t items tail)

-- What was written is the output for the input, and the run ended as the input stops.
pub record ReplaysInput (keys : Keys) (moment : ℕ) (from to : ConnectionState) (result : Result End FrontFault) (input : List ℕ) : Type 0 where
  pub items : List Item
  pub tail : Tail
  pub reads : Reads input items tail
  pub output : Appends from.writer.held to.writer.held (replay_output keys moment items tail)
  pub ends : EndsAs result to.reader.input tail from.reader.turns (length input)

-- `ReplaysInput` holds of the bytes that the run took.
pub record ReplaysReceived (keys : Keys) (moment : ℕ) (from to : ConnectionState) (result : Result End FrontFault) : Type 0 where
  pub received : List ℕ
  pub came : Receives from.reader to.reader received
  pub replays : ReplaysInput keys moment from to result received

-- Memory ran out. The bytes that were taken begin with items that were answered in full. After the output for these items come
-- the bytes that were written before the answer to the next item, and then the bytes that say that memory ran out.
pub record ReplayEndsOutOfMemory (keys : Keys) (moment : ℕ) (from to : ConnectionState) : Type 0 where
  pub received : List ℕ
  pub came : Receives from.reader to.reader received
  pub items : List Item
  pub rest : List ℕ
  pub reads : ReadsFront received items rest
  pub begun : List ℕ
  pub begun_is : IsInterimOrNothing rest begun
  pub output : Sends from.writer to.writer ((output_of keys moment items ++ begun) ++ out_of_memory_bytes)

-- A write failed. What went out is a beginning of the output for items that are first in the bytes that were taken, and of what
-- comes before the answer to the next item.
pub record ReplayBreaksOff (keys : Keys) (moment : ℕ) (from to : ConnectionState) : Type 0 where
  pub received : List ℕ
  pub came : Receives from.reader to.reader received
  pub items : List Item
  pub others : List Item
  pub tail : Tail
  pub reads : Reads received (items ++ others) tail
  pub begun : List ℕ
  pub begun_is : (begun ≡ []) ⊎ (begun ≡ next_bytes others tail)
  pub output : Sends from.writer to.writer (output_of keys moment items ++ begun)

-- A write failed: it broke off the output for the items, or the last bytes of a replay for which memory ran out.
abbrev pub ReplayEndsByWrite : Keys → ℕ → ConnectionState → ConnectionState → Type 0
ReplayEndsByWrite keys moment from to = ReplayBreaksOff keys moment from to ⊎ ReplayEndsOutOfMemory keys moment from to

-- the words of a replay
abbrev pub replay_line : List ℕ → List ℕ → List ℕ → List ℕ → List (List ℕ)
replay_line moment account first second = codes "replay" ∷ moment ∷ account ∷ first ∷ second ∷ []

-- the words ask for a replay at the time, by the account's keys
pub record AsksForReplay (words : List (List ℕ)) (time : ℕ) (keys : Keys) : Type 0 where
  pub moment : List ℕ
  pub line : words ≡ replay_line moment keys.account (base64_of keys.first) (base64_of keys.second)
  pub told : iso_moment moment ≡ Ok time
  pub named : is_account keys.account ≡ true
  pub first_bytes : IsBytes keys.first
  pub second_bytes : IsBytes keys.second
  pub unreplaced : keys.epoch ≡ 0

-- the words ask for a replay
abbrev pub IsReplay : List (List ℕ) → Type 0
IsReplay words = (time : ℕ) × (keys : Keys) × AsksForReplay words time keys

-- the most reads that the program makes of its input
abbrev pub turn_limit : ℕ
turn_limit = 4294967296

-- the words asked for a replay, which ended in this way: what was read is answered, and it is the whole input if the input ended
abbrev pub HasReplayed : List (List ℕ) → Ending → ConnectionState → ConnectionState → Type 0
HasReplayed words ending from to =
    (time : ℕ) × (keys : Keys) × AsksForReplay words time keys × (result : Result End FrontFault) × (ending ≡ run_ending result)
    × ReplaysReceived keys time from to result × LeavesRun result to
    × (IsOfWholeInput result to.reader.input → IfSome from.reader.left (ReplaysInput keys time from to result))

-- the words asked for a replay, and memory ran out while it was made
abbrev pub HasEndedOutOfMemory : List (List ℕ) → ConnectionState → ConnectionState → Type 0
HasEndedOutOfMemory words from to = (time : ℕ) × (keys : Keys) × AsksForReplay words time keys × ReplayEndsOutOfMemory keys time from to

-- the words asked for a replay, and a write failed while it was made
abbrev pub HasEndedByWrite : List (List ℕ) → ConnectionState → ConnectionState → Type 0
HasEndedByWrite words from to =
    (time : ℕ) × (keys : Keys) × AsksForReplay words time keys × ReplayEndsByWrite keys time from to × (to.writer.output ≡ outputs.Failed)
