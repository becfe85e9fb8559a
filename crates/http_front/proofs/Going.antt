-- A connection that is gone on with.
use Rattle.std.proofs.Common.{◌≡◌, ◌≢◌, ℕ, suc, true, false, List, [], ◌++◌, length, take, drop, Option, Some, None, IfSome, Result, Ok, Err, inr, refl, sym, ap, ◌∙◌, subst, arith, append_assoc, append-nil}
use Rattle.std.proofs.lemmas.List.{take-append-drop}
use Rattle.stamp_types.specs.Requests.{Asked}
use Rattle.stamp_types.specs.declared.reply.Reply.{Reply}
use Rattle.http_front.specs.declared.counted.Input.TheVariants as inputs
use Rattle.http_front.specs.declared.counted.Output.TheVariants as outputs
use Rattle.http_front.specs.declared.end.End.{End}
use Rattle.http_front.specs.declared.end.End.TheVariants.{Clean, Closed}
use Rattle.http_front.specs.declared.end.FrontFault.{FrontFault}
use Rattle.http_front.specs.declared.end.FrontFault.TheVariants.{Read, Write, Turns, NoMemory}
use Rattle.http_front.specs.declared.item.Found.TheVariants.{Whole}
use Rattle.http_front.specs.declared.item.NextItem.{NextItem}
use Rattle.http_front.specs.declared.item.NextItem.TheVariants as next_item
use Rattle.http_front.specs.declared.item.PartialItem.{PartialItem}
use Rattle.http_front.specs.declared.item.PartialItem.TheVariants.{InHead, Asking, InBody}
use Rattle.http_front.specs.declared.item.PartialReply.{PartialReply}
use Rattle.http_front.specs.declared.item.Stage.{Stage}
use Rattle.http_front.specs.declared.item.Stage.TheVariants.{Reading, Answering, Replying}
use Rattle.http_front.specs.declared.item.Progress.{Progress}
use Rattle.http_front.specs.declared.item.Progress.TheVariants.{Ended, Waits}
use Rattle.http_front.specs.Answers.{AnswersItem, found_closes, LeavesItemUnanswered}
use Rattle.http_front.specs.Connections.{ConnectionState, ReaderState, WriterState, Receives, Sends, IsFresh, IsIdle, IsOpen, IsLeftBy}
use Rattle.http_front.specs.Conversations.{AnswersInput, AnswersReceived, BreaksOff, EndsOutOfMemory}
use Rattle.http_front.specs.Inputs.{ReadsItem}
use Rattle.http_front.specs.Outcomes.{IsOfWholeInput, UnlessWriteOrMemoryFailed}
use Rattle.http_front.specs.Resumptions.{IsGivenUp}
use Rattle.http_front.specs.Stages.{fresh_item, fresh_stage, awaits_room, is_asking, wants_write, IsItemWaiting, IsStaged, IsWaiting, load, Pauses, Suspends, TakesWork}
use Rattle.http_front.specs.Steps.{CanGoOn, Comes, ComesOn, Conversing, HasAnsweredOn, HasLess, IsReplying, LeavesOn, LeavesStep, Serving, WritesReply}
use Rattle.http_front.specs.Streams.{interim}
use Rattle.http_front.specs.Streams.Tail.{InBody as TailInBody}
use Rattle.http_front.proofs.ConnectionLemmas.{Receives-given_up, Receives-none, Sends-more, Sends-none, Sends-stopped}
use Rattle.http_front.proofs.Items.{stops_in}
use Rattle.http_front.proofs.Talks.{broken_answer, broken_item, clean, closed, closed_whole, cut, cut_whole, serving_more, serving_none, starve_answer, starve_item, whole_of}

-- between two items nothing came yet of the next one
pub between_items : (c : ConnectionState) → c.reader.input ≡ inputs.Open → Suspends c fresh_item c
between_items c stays = record {
  more = [];
  received = Receives-none c.reader stays;
  written = [];
  sent = Sends-none c.writer;
  begun = (append-nil c.bytes, refl);
}

-- ---- what a connection waits for is not waited for

given_up : (item : PartialItem) (from a b : ConnectionState) (fault : FrontFault) → Suspends from item a → IsItemWaiting item a → IsGivenUp (is_asking item) fault a b → ReadsItem (Err fault) from b
given_up (InHead search) from a b Read s waits up =
    let stop = stops_in a a (record { more = []; received = Receives-none a.reader waits.0.0; kept = sym (append-nil a.bytes); unwritten = Sends-none a.writer }) a.bytes (waits.2, waits.3) in record {
      more = s.more;
      received = Receives-given_up from.reader a.reader b.reader s.more s.received waits.0.0 up.1;
      written = s.written;
      sent = rw up.2 s.sent;
      found = (stop.0, rw s.begun.0 stop.1, s.begun.1 ∙ stop.2, rw up.1.1 tt);
    }
given_up (InBody begun) from a b Read s waits up =
    let size = ap length s.begun.2 in
    let none = ap (λ l. length (begun.body ++ l)) waits.2 in
    let all = ap length (append-nil begun.body) in
    let less = waits.1 in record {
      more = s.more;
      received = Receives-given_up from.reader a.reader b.reader s.more s.received waits.0.0 up.1;
      written = s.written;
      sent = rw up.2 s.sent;
      found = (TailInBody begun.head, record { count = s.begun.0; head = s.begun.1; short = omega arith }, s.begun.3, rw up.1.1 tt);
    }
given_up (Asking asking) from a b Write s waits up =
    let reply = interim asking.begun.head in record {
      more = s.more;
      received = subst (λ r. Receives from.reader r s.more) (sym up.2) s.received;
      written = reply;
      sent =
          subst (Sends from.writer b.writer) (take-append-drop asking.taken reply)
          (Sends-stopped from.writer a.writer b.writer (take asking.taken reply) (drop asking.taken reply) (subst (Sends from.writer a.writer) s.begun.3 s.sent) waits.0.1 up.1);
      found = inr (asking.begun.head, s.begun.0, s.begun.1, refl);
    }
given_up (InHead search) from a b Write s waits up = absurd (let other = up.0 in cc)
given_up (InHead search) from a b Turns s waits up = absurd (let other = up.0 in cc)
given_up (InHead search) from a b NoMemory s waits up = absurd (let other = up.0 in cc)
given_up (InBody begun) from a b Write s waits up = absurd (let other = up.0 in cc)
given_up (InBody begun) from a b Turns s waits up = absurd (let other = up.0 in cc)
given_up (InBody begun) from a b NoMemory s waits up = absurd (let other = up.0 in cc)
given_up (Asking asking) from a b Read s waits up = absurd (let other = up.0 in cc)
given_up (Asking asking) from a b Turns s waits up = absurd (let other = up.0 in cc)
given_up (Asking asking) from a b NoMemory s waits up = absurd (let other = up.0 in cc)

-- a failed write, or a read that is not made again, has its cause
module _ (a b : ConnectionState) where
  left_by_read : IsIdle a → (fault : FrontFault) → IsGivenUp false fault a b → IsLeftBy fault b
  left_by_read idle Read up = (rw up.1.1 (λ e. absurd (cc)), rw up.2 (λ e. let both = sym idle.1 ∙ e in absurd (cc)))
  left_by_read idle Write up = absurd (let other = up.0 in cc)
  left_by_read idle Turns up = absurd (let other = up.0 in cc)
  left_by_read idle NoMemory up = absurd (let other = up.0 in cc)

  left_by_write : (fault : FrontFault) → IsGivenUp true fault a b → IsLeftBy fault b
  left_by_write Write up = up.1.1
  left_by_write Read up = absurd (let other = up.0 in cc)
  left_by_write Turns up = absurd (let other = up.0 in cc)
  left_by_write NoMemory up = absurd (let other = up.0 in cc)

  pub given_up_left : (stage : Stage) (fault : FrontFault) → IsWaiting stage a → IsGivenUp (wants_write stage) fault a b → IsLeftBy fault b
  given_up_left (Reading (InHead search)) fault waits up = left_by_read waits.0 fault up
  given_up_left (Reading (Asking asking)) fault waits up = left_by_write fault up
  given_up_left (Reading (InBody begun)) fault waits up = left_by_read waits.0 fault up
  given_up_left (Answering found) fault waits up = absurd waits
  given_up_left (Replying reply) fault waits up = left_by_write fault up

-- ---- a connection that waits can be gone on with

-- what does not wait for room waits for its peer
pub awaits_peer : (stage : Stage) (c : ConnectionState) → awaits_room stage ≡ false → Pauses stage c → IsWaiting stage c
awaits_peer (Reading item) c is pauses = pauses
awaits_peer (Answering found) c is pauses = absurd (cc)
awaits_peer (Replying reply) c is pauses = pauses

pub can_go_on : (stage : Stage) (c : ConnectionState) → Pauses stage c → IsOpen c × IsStaged stage c
can_go_on (Reading (InHead search)) c waits = ((waits.0.0, λ e. let both = sym waits.0.1 ∙ e in absurd (cc)), waits.1)
can_go_on (Reading (Asking asking)) c waits = let less = waits.1 in ((waits.0.0, waits.0.1), (omega arith, waits.2))
can_go_on (Reading (InBody begun)) c waits = let less = waits.1 in ((waits.0.0, λ e. let both = sym waits.0.1 ∙ e in absurd (cc)), (omega arith, λ _. waits.2))
can_go_on (Answering found) c waits = (waits.0, tt)
can_go_on (Replying reply) c waits = ((waits.0.0, waits.0.1), tt)

pub step_can_go_on : (result : Result Progress FrontFault) (c : ConnectionState) → LeavesStep result c → CanGoOn result c
step_can_go_on (Ok (Ended end)) c left = tt
step_can_go_on (Ok (Waits stage)) c left = can_go_on stage c left
step_can_go_on (Err fault) c left = tt

-- an item that waits for room was taken off
pub takes_found : (found : NextItem) (c : ConnectionState) → TakesWork (Ok (Whole found)) (suc (load c)) c
takes_found (next_item.Called call) c = omega arith
takes_found (next_item.Refused denial) c = tt

-- ---- what writing on at a reply leaves

-- no connection waits for room while its reply is written
pub answered_replied : (reply : PartialReply) (result : Result (Option Progress) FrontFault) (from to : WriterState) → WritesReply reply result from to → HasAnsweredOn result
answered_replied reply (Ok None) from to w = tt
answered_replied reply (Ok (Some (Ended end))) from to w = tt
answered_replied reply (Ok (Some (Waits (Reading item)))) from to w = absurd w
answered_replied reply (Ok (Some (Waits (Answering found)))) from to w = absurd w
answered_replied reply (Ok (Some (Waits (Replying rest)))) from to w = refl
answered_replied reply (Err fault) from to w = tt

module _ (reply : PartialReply) (a b : ConnectionState) (unread : (b.reader ≡ a.reader) × (b.bytes ≡ a.bytes)) where
  same_load : load b ≡ load a
  same_load =
      let turns = ap (λ (r : ReaderState). r.turns) unread.0 in
      let size = ap length unread.1 in
      omega arith

  pub leaves_replied : (result : Result (Option Progress) FrontFault) → a.reader.input ≡ inputs.Open → WritesReply reply result a.writer b.writer → LeavesOn result b
  leaves_replied (Ok None) opened w = (ap (λ (r : ReaderState). r.input) unread.0 ∙ opened, w.1)
  leaves_replied (Ok (Some (Ended Clean))) opened w = absurd w
  leaves_replied (Ok (Some (Ended Closed))) opened w = (ap (λ (r : ReaderState). r.input) unread.0 ∙ opened, w.1)
  leaves_replied (Ok (Some (Waits (Reading item)))) opened w = absurd w
  leaves_replied (Ok (Some (Waits (Answering found)))) opened w = absurd w
  leaves_replied (Ok (Some (Waits (Replying rest)))) opened w = ((ap (λ (r : ReaderState). r.input) unread.0 ∙ opened, w.3, w.4), w.2)
  leaves_replied (Err Write) opened w = w.1
  leaves_replied (Err Read) opened w = absurd w
  leaves_replied (Err Turns) opened w = absurd w
  leaves_replied (Err NoMemory) opened w = absurd w

  -- a reply was left to write
  pub less_replied : (result : Result (Option Progress) FrontFault) → HasLess result (suc (load a)) b
  less_replied (Ok None) = let same = same_load in omega arith
  less_replied (Ok (Some step)) = tt
  less_replied (Err fault) = tt

  -- an item was taken off
  pub less_answered : (result : Result (Option Progress) FrontFault) (found : NextItem) (before : ℕ) → TakesWork (Ok (Whole found)) before a → reply.closes ≡ found_closes found
      → WritesReply reply result a.writer b.writer → HasLess result before b
  less_answered (Ok None) (next_item.Called call) before less closing w = let same = same_load in omega arith
  less_answered (Ok None) (next_item.Refused denial) before less closing w = absurd (let both = sym closing ∙ w.2 in cc)
  less_answered (Ok (Some step)) found before less closing w = tt
  less_answered (Err fault) found before less closing w = tt

-- ---- what a connection comes to

module _ {C S : Type 0} (gives : C → ℕ → C → Type 0) (answers : S → Asked → ℕ → Reply → S → Type 0) (starves : S → S → Type 0) where
  pub conversing_none : (clock : C) (world : S) (from : ConnectionState) → IsFresh from → Conversing gives answers clock clock world world from fresh_stage from
  conversing_none clock world from fresh = record {
    between = from;
    serving = serving_none gives answers clock world from fresh;
    begun = between_items from fresh.0;
  }

  pub conversing_at : (clock : C) (world : S) (from : ConnectionState) (stage : Stage) → stage ≡ fresh_stage → IsFresh from → Conversing gives answers clock clock world world from stage from
  conversing_at clock world from stage is fresh = subst (λ s. Conversing gives answers clock clock world world from s from) (sym is) (conversing_none clock world from fresh)

  module _ (clock clock' : C) (world world' : S) (from a b : ConnectionState) (serving : Serving gives answers clock clock' world world' from a) where
    -- no item is whole, and none will be
    pub comes_fault : (fault : FrontFault) → ReadsItem (Err fault) a b → IsLeftBy fault b → Comes gives answers starves clock clock' world world' from b (Err fault)
    comes_fault Read takes left =
        (cut gives answers clock clock' world world' from a b serving Read takes left, λ is. cut_whole gives answers clock clock' world world' from a b serving Read takes left is)
    comes_fault Turns takes left = cut gives answers clock clock' world world' from a b serving Turns takes left
    comes_fault Write takes left = broken_item gives answers clock clock' world world' from a b serving Write refl takes
    comes_fault NoMemory takes left = starve_item gives answers starves NoMemory clock clock' world world' from a b serving takes refl

    pub comes_end : ReadsItem (Ok None) a b → (b.reader.input ≡ inputs.Ended) × (b.writer.output ≢ outputs.Failed)
        → Comes gives answers starves clock clock' world world' from b (Ok (Ended Clean))
    comes_end takes left =
        let all = clean gives answers clock clock' world world' from a b serving takes left in
        (all, whole_of gives answers clock clock' world world' from b (Ok Clean) all left.0)

  -- A run has come to `a`. An item was read, which came to `b`.
  module _ (clock clock' clock'' : C) (world world' world'' : S) (from a b : ConnectionState) (found : NextItem)
      (serving : Serving gives answers clock clock' world world' from a) (takes : ReadsItem (Ok (Some found)) a b) where
    -- it is answered, and no byte of the answer was taken
    pub replies : (reply : PartialReply) → IsOpen b → AnswersItem gives answers clock' clock'' world' world'' found reply.pending → reply.closes ≡ found_closes found
        → IsReplying gives answers clock clock'' world world'' from reply b
    replies reply stays answered closing = record {
      between = a;
      clock_then = clock';
      world_then = world';
      serving = serving;
      read = b;
      found = found;
      takes = takes;
      stays = stays;
      front = [];
      answered = answered;
      closing = closing;
      sent = Sends-none b.writer;
      unread = (refl, refl);
    }

    -- memory ran out for the answer
    pub comes_unanswered : (fault : FrontFault) → fault ≡ NoMemory → LeavesItemUnanswered gives answers starves clock' clock'' world' world'' found
        → Comes gives answers starves clock clock'' world world'' from b (Err fault)
    comes_unanswered NoMemory is unanswered = starve_answer gives answers starves found clock clock' clock'' world world' world'' from a b b serving takes (refl, refl) refl unanswered
    comes_unanswered Read is unanswered = absurd (cc)
    comes_unanswered Turns is unanswered = absurd (cc)
    comes_unanswered Write is unanswered = absurd (cc)

  -- Bytes of a reply were left to write, and some of them were given to the writer.
  module _ (clock clock' : C) (world world' : S) (from a b : ConnectionState) (reply : PartialReply) (r : IsReplying gives answers clock clock' world world' from reply a)
      (works : a.writer.output ≢ outputs.Failed) (unread : (b.reader ≡ a.reader) × (b.bytes ≡ a.bytes)) where
    abbrev answer : List ℕ
    answer = r.front ++ reply.pending

    still_unread : (b.reader ≡ r.read.reader) × (b.bytes ≡ r.read.bytes)
    still_unread = (unread.0 ∙ r.unread.0, unread.1 ∙ r.unread.1)

    all_sent : Sends a.writer b.writer reply.pending → Sends r.read.writer b.writer answer
    all_sent sent = Sends-more r.read.writer a.writer b.writer r.front reply.pending r.sent works sent

    broken_reply : Sends a.writer b.writer reply.pending → BreaksOff gives answers clock clock' world world' from b
    broken_reply sent =
        broken_answer gives answers clock r.clock_then clock' world r.world_then world' from r.between r.read b r.found answer r.serving r.takes r.stays.1 r.answered (all_sent sent) still_unread

    -- what writing on at the reply comes to
    pub comes_replied : (result : Result (Option Progress) FrontFault) → WritesReply reply result a.writer b.writer → ComesOn gives answers starves clock clock' world world' from b result
    comes_replied (Ok None) w =
        serving_more gives answers clock r.clock_then clock' world r.world_then world' from r.between r.read b r.found answer r.serving r.takes r.stays.1 r.answered (all_sent w.0) still_unread
        (sym r.closing ∙ w.2) r.stays.0 w.1
    comes_replied (Ok (Some (Ended Clean))) w = absurd w
    comes_replied (Ok (Some (Ended Closed))) w = (
      closed gives answers clock r.clock_then clock' world r.world_then world' from r.between r.read b r.found answer r.serving r.takes r.stays.1 r.answered (all_sent w.0) still_unread (sym r.closing ∙ w.2) w.1,
      closed_whole gives answers clock r.clock_then clock' world r.world_then world' from r.between r.read b r.found answer r.serving r.takes r.stays.1 r.answered (all_sent w.0) still_unread (sym r.closing ∙ w.2) w.1,
    )
    comes_replied (Ok (Some (Waits (Reading item)))) w = absurd w
    comes_replied (Ok (Some (Waits (Answering found)))) w = absurd w
    comes_replied (Ok (Some (Waits (Replying rest)))) w = record {
      between = r.between;
      clock_then = r.clock_then;
      world_then = r.world_then;
      serving = r.serving;
      read = r.read;
      found = r.found;
      takes = r.takes;
      stays = r.stays;
      front = r.front ++ w.0.front;
      answered =
          subst (AnswersItem gives answers r.clock_then clock' r.world_then world' r.found)
          (ap (λ l. r.front ++ l) w.0.parts ∙ sym (append_assoc r.front w.0.front rest.pending)) r.answered;
      closing = w.1 ∙ r.closing;
      sent = Sends-more r.read.writer a.writer b.writer r.front w.0.front r.sent works w.0.sent;
      unread = still_unread;
    }
    comes_replied (Err Write) w = broken_reply w.0
    comes_replied (Err Read) w = absurd w
    comes_replied (Err Turns) w = absurd w
    comes_replied (Err NoMemory) w = absurd w

    -- the reply is not waited for
    pub reply_given_up : (fault : FrontFault) → IsGivenUp true fault a b → Comes gives answers starves clock clock' world world' from b (Err fault)
    reply_given_up Write up =
        broken_answer gives answers clock r.clock_then clock' world r.world_then world' from r.between r.read b r.found answer r.serving r.takes r.stays.1 r.answered
        (Sends-stopped r.read.writer a.writer b.writer r.front reply.pending r.sent works up.1) still_unread
    reply_given_up Read up = absurd (let other = up.0 in cc)
    reply_given_up Turns up = absurd (let other = up.0 in cc)
    reply_given_up NoMemory up = absurd (let other = up.0 in cc)

  -- a connection goes on after an item
  pub conversing_next : (clock clock' : C) (world world' : S) (from to : ConnectionState) (stage : Stage) → stage ≡ fresh_stage → Serving gives answers clock clock' world world' from to
      → Conversing gives answers clock clock' world world' from stage to
  conversing_next clock clock' world world' from to stage is serving =
      subst (λ (s : Stage). Conversing gives answers clock clock' world world' from s to) (sym is) (record { between = to; serving = serving; begun = between_items to serving.stays.0 })

  -- ---- a run

  -- a connection that is given up at a wait ends as if a read or a write had failed
  pub comes_given_up : (stage : Stage) (fault : FrontFault) (clock clock' : C) (world world' : S) (from a b : ConnectionState) → Conversing gives answers clock clock' world world' from stage a
      → IsWaiting stage a → IsGivenUp (wants_write stage) fault a b → Comes gives answers starves clock clock' world world' from b (Err fault)
  comes_given_up (Reading item) fault clock clock' world world' from a b m waits up =
      comes_fault clock clock' world world' from m.between b m.serving fault (given_up item m.between a b fault m.begun waits up) (given_up_left a b (Reading item) fault waits up)
  comes_given_up (Answering found) fault clock clock' world world' from a b m waits up = absurd waits
  comes_given_up (Replying reply) fault clock clock' world world' from a b m waits up =
      reply_given_up clock clock' world world' from a b reply m waits.0.1 (up.2, up.3) fault up

  module _ (clock clock' : C) (world world' : S) (from to : ConnectionState) where
    pub fault_conversed : (fault : FrontFault) → Comes gives answers starves clock clock' world world' from to (Err fault)
        → UnlessWriteOrMemoryFailed {T = End} (Err fault) (AnswersReceived gives answers clock clock' world world' from to (Err fault))
    fault_conversed Read comes = comes.0
    fault_conversed Turns comes = comes
    fault_conversed Write comes = tt
    fault_conversed NoMemory comes = tt

    pub fault_whole : (fault : FrontFault) → Comes gives answers starves clock clock' world world' from to (Err fault)
        → IsOfWholeInput {T = End} (Err fault) to.reader.input → IfSome from.reader.left (AnswersInput gives answers clock clock' world world' from to (Err fault))
    fault_whole Read comes is = comes.1 is
    fault_whole Turns comes is = absurd is
    fault_whole Write comes is = absurd is
    fault_whole NoMemory comes is = absurd is

    pub fault_starved : (fault : FrontFault) → Comes gives answers starves clock clock' world world' from to (Err fault) → fault ≡ NoMemory
        → EndsOutOfMemory gives answers starves clock clock' world world' from to []
    fault_starved NoMemory comes is = comes
    fault_starved Read comes is = absurd (cc)
    fault_starved Turns comes is = absurd (cc)
    fault_starved Write comes is = absurd (cc)

    pub fault_broken : (fault : FrontFault) → Comes gives answers starves clock clock' world world' from to (Err fault) → fault ≡ Write
        → BreaksOff gives answers clock clock' world world' from to
    fault_broken Write comes is = comes
    fault_broken Read comes is = absurd (cc)
    fault_broken Turns comes is = absurd (cc)
    fault_broken NoMemory comes is = absurd (cc)
