-- A connection that was left and gone on with has said what a run says.
use Rattle.std.proofs.Common.{◌≡◌, ◌≢◌, ℕ, List, [], ◌∷◌, ◌++◌, length, map, flat_map, Result, Ok, Err, inl, inr, refl, sym, ◌∙◌, subst}
use Rattle.std.specs.Io.KnownBytes.{Appends}
use Rattle.stamp_types.specs.Requests.{Asked}
use Rattle.stamp_types.specs.declared.reply.Reply.{Reply}
use Rattle.request_form.specs.HeadForms.{Form, with_body}
use Rattle.http_front.specs.declared.counted.Input.{Input}
use Rattle.http_front.specs.declared.counted.Output.TheVariants as outputs
use Rattle.http_front.specs.declared.end.End.{End}
use Rattle.http_front.specs.declared.end.End.TheVariants.{Clean, Closed}
use Rattle.http_front.specs.declared.end.FrontFault.{FrontFault}
use Rattle.http_front.specs.declared.end.FrontFault.TheVariants.{Read, Write, Turns, NoMemory}
use Rattle.http_front.specs.declared.item.Stage.{Stage}
use Rattle.http_front.specs.declared.item.Progress.{Progress}
use Rattle.reply_form.specs.FixedReplies.{out_of_memory_bytes}
use Rattle.http_front.specs.Connections.{ConnectionState, Sends}
use Rattle.http_front.specs.Conversations.{Exchange, item_of, moment_of, bytes_of, ClockGives, ServiceReplies, AnswersInput, BreaksOff, EndsAs, EndsByWrite, LeavesRun}
use Rattle.http_front.specs.Conversations.Exchange.{Answered, RefusedAt}
use Rattle.http_front.specs.Inputs.{IsCutAt}
use Rattle.http_front.specs.Outcomes.{IsOfWholeInput}
use Rattle.http_front.specs.Resumptions.{Wait, IsResumed, step_of, last_bytes, Finishes, HasConversed, HasRun, MakesLastCalls, GivesOneMoment, GivesOneReply, EndsAlike}
use Rattle.http_front.specs.Steps.{Comes, Conversing, LeavesStep}
use Rattle.http_front.specs.Streams.{Tail, tail_bytes}
use Rattle.http_front.specs.Streams.Item.{Requested, Refused}
use Rattle.http_front.proofs.ConnectionLemmas.{Sends-none}
use Rattle.http_front.proofs.Endings.{broken_by, leaves_still, starved_then, still, whole_still}
use Rattle.http_front.proofs.Going.{fault_broken, fault_conversed, fault_starved, fault_whole}
use Rattle.http_front.proofs.StreamLemmas.{reads_one}

module _ {C S : Type 0} (gives : C → ℕ → C → Type 0) (answers : S → Asked → ℕ → Reply → S → Type 0) (starves : S → S → Type 0) where
  -- what a connection has said at its first call, and at each call after a wait, it has said at the last call
  pub resumed : (first clock clock' : C) (start world world' : S) (fresh from to : ConnectionState) (stage : Stage) (waits : List (Wait C S)) (result : Result Progress FrontFault)
      → Conversing gives answers first clock start world fresh stage from
      → IsResumed gives answers starves clock clock' world world' stage from waits to result
      → Comes gives answers starves first clock' start world' fresh to result
  resumed first clock clock' start world world' fresh from to stage [] result c s = s.comes first start fresh c
  resumed first clock clock' start world world' fresh from to stage (wait ∷ waits) result c s =
      resumed first wait.clock clock' start wait.world world' fresh wait.connection to wait.stage waits result (s.0.comes first start fresh c) s.1

  -- how the last call left the connection
  pub resumed_left : (clock clock' : C) (world world' : S) (from to : ConnectionState) (stage : Stage) (waits : List (Wait C S)) (result : Result Progress FrontFault)
      → IsResumed gives answers starves clock clock' world world' stage from waits to result → LeavesStep result to
  resumed_left clock clock' world world' from to stage [] result s = s.left
  resumed_left clock clock' world world' from to stage (wait ∷ waits) result s =
      resumed_left wait.clock clock' wait.world world' wait.connection to wait.stage waits result s.1

  -- what a connection has come to at its end
  pub has_conversed : (clock clock' : C) (world world' : S) (from to : ConnectionState) (ended : Result End FrontFault)
      → Comes gives answers starves clock clock' world world' from to (step_of ended) → LeavesStep (step_of ended) to
      → HasConversed gives answers starves clock clock' world world' from to ended
  has_conversed clock clock' world world' from to (Ok Clean) comes left = record {
    conversed = comes.0;
    whole = λ is. comes.1;
    starved = λ e. absurd (cc);
    broken = λ e. absurd (cc);
    left = left;
  }
  has_conversed clock clock' world world' from to (Ok Closed) comes left = record {
    conversed = comes.0;
    whole = λ is. comes.1;
    starved = λ e. absurd (cc);
    broken = λ e. absurd (cc);
    left = left;
  }
  has_conversed clock clock' world world' from to (Err fault) comes left = record {
    conversed = fault_conversed gives answers starves clock clock' world world' from to fault comes;
    whole = fault_whole gives answers starves clock clock' world world' from to fault comes;
    starved = λ (e : Err fault ≡ Err NoMemory). fault_starved gives answers starves clock clock' world world' from to fault comes (cc);
    broken = λ (e : Err fault ≡ Err Write). fault_broken gives answers starves clock clock' world world' from to fault comes (cc);
    left = left;
  }

  -- the connection came to `a`, and was finished, which came to `b`
  module _ (clock clock' : C) (world world' : S) (from a b : ConnectionState) where
    -- a run of which no write failed
    ran_well : (ended : Result End FrontFault) → HasConversed gives answers starves clock clock' world world' from a ended
        → Finishes ended ended a b → ended ≢ Err Write → HasRun gives answers starves clock clock' world world' from b ended
    ran_well (Ok end) c f fine =
        let flushed = (f.calls.flushed fine).1 in
        let works : b.writer.output ≢ outputs.Failed = λ e. let both = sym flushed ∙ e in absurd (cc) in record {
          conversed = still gives answers starves clock clock' world world' from a b f.calls.unread.0 (Ok end) f.calls.sent works c.conversed;
          whole = whole_still gives answers starves clock clock' world world' from a b f.calls.unread.0 (Ok end) f.calls.sent works c.whole;
          starved = λ e. absurd (cc);
          broken = λ e. absurd (cc);
          left = leaves_still gives answers starves clock clock' world world' from a b f.calls.unread.0 (Ok end) fine works c.left;
          flushed = flushed;
          told = f.told;
        }
    ran_well (Err Read) c f fine =
        let flushed = (f.calls.flushed fine).1 in
        let works : b.writer.output ≢ outputs.Failed = λ e. let both = sym flushed ∙ e in absurd (cc) in record {
          conversed = still gives answers starves clock clock' world world' from a b f.calls.unread.0 (Err Read) f.calls.sent works c.conversed;
          whole = whole_still gives answers starves clock clock' world world' from a b f.calls.unread.0 (Err Read) f.calls.sent works c.whole;
          starved = λ e. absurd (cc);
          broken = λ e. absurd (cc);
          left = leaves_still gives answers starves clock clock' world world' from a b f.calls.unread.0 (Err Read) fine works c.left;
          flushed = flushed;
          told = f.told;
        }
    ran_well (Err Turns) c f fine =
        let flushed = (f.calls.flushed fine).1 in
        let works : b.writer.output ≢ outputs.Failed = λ e. let both = sym flushed ∙ e in absurd (cc) in record {
          conversed = still gives answers starves clock clock' world world' from a b f.calls.unread.0 (Err Turns) f.calls.sent works c.conversed;
          whole = λ is. absurd is;
          starved = λ e. absurd (cc);
          broken = λ e. absurd (cc);
          left = leaves_still gives answers starves clock clock' world world' from a b f.calls.unread.0 (Err Turns) fine works c.left;
          flushed = flushed;
          told = f.told;
        }
    ran_well (Err NoMemory) c f fine =
        let flushed = (f.calls.flushed fine).1 in
        let works : b.writer.output ≢ outputs.Failed = λ e. let both = sym flushed ∙ e in absurd (cc) in record {
          conversed = tt;
          whole = λ is. absurd is;
          starved = λ e. starved_then gives answers starves clock clock' world world' from a b f.calls.unread.0 f.calls.sent c.left (c.starved refl);
          broken = λ e. absurd (cc);
          left = works;
          flushed = flushed;
          told = f.told;
        }
    ran_well (Err Write) c f fine = absurd (fine refl)

    -- what went out, if a write failed
    broke : (ended : Result End FrontFault) → HasConversed gives answers starves clock clock' world world' from a ended
        → Finishes ended (Err Write) a b → EndsByWrite gives answers starves clock clock' world world' from b
    broke (Ok end) c f = broken_by gives answers starves clock clock' world world' from a b f.calls.unread.0 (Ok end) (λ e. absurd (cc)) (λ e. absurd (cc)) f.calls.sent c.conversed
    broke (Err Read) c f = broken_by gives answers starves clock clock' world world' from a b f.calls.unread.0 (Err Read) (λ e. absurd (cc)) (λ e. absurd (cc)) f.calls.sent c.conversed
    broke (Err Turns) c f = broken_by gives answers starves clock clock' world world' from a b f.calls.unread.0 (Err Turns) (λ e. absurd (cc)) (λ e. absurd (cc)) f.calls.sent c.conversed
    broke (Err NoMemory) c f = inr (starved_then gives answers starves clock clock' world world' from a b f.calls.unread.0 f.calls.sent c.left (c.starved refl))
    broke (Err Write) c f = inl (subst (BreaksOff gives answers clock clock' world world' from) (sym (f.calls.still refl).1) (c.broken refl))

    ran_by : (ended result : Result End FrontFault) → HasConversed gives answers starves clock clock' world world' from a ended
        → Finishes ended result a b → result ≢ Err Write → HasRun gives answers starves clock clock' world world' from b result
    ran_by ended result c f fine =
        let same = (f.calls.flushed fine).0 in
        let conversed = subst (HasConversed gives answers starves clock clock' world world' from a) (sym same) c in
        ran_well result conversed (subst (λ r. Finishes r result a b) (sym same) f) fine

    -- a connection that was finished has run
    pub has_run : (ended result : Result End FrontFault) → HasConversed gives answers starves clock clock' world world' from a ended
        → Finishes ended result a b → HasRun gives answers starves clock clock' world world' from b result
    has_run ended (Ok end) c f = ran_by ended (Ok end) c f (λ e. absurd (cc))
    has_run ended (Err Read) c f = ran_by ended (Err Read) c f (λ e. absurd (cc))
    has_run ended (Err Turns) c f = ran_by ended (Err Turns) c f (λ e. absurd (cc))
    has_run ended (Err NoMemory) c f = ran_by ended (Err NoMemory) c f (λ e. absurd (cc))
    has_run ended (Err Write) c f = record {
      conversed = tt;
      whole = λ is. absurd is;
      starved = λ e. absurd (cc);
      broken = λ e. broke ended c f;
      left = f.calls.failed refl;
      flushed = tt;
      told = f.told;
    }

-- ---- one output

module _ {C S : Type 0} (gives : C → ℕ → C → Type 0) (answers : S → Asked → ℕ → Reply → S → Type 0)
    (one_moment : GivesOneMoment gives) (one_reply : GivesOneReply answers) where
  -- the same items are answered alike
  same_exchanges : (clock c c' : C) (world w w' : S) (xs ys : List Exchange) → map item_of xs ≡ map item_of ys
      → ClockGives gives clock (map moment_of xs) c → ClockGives gives clock (map moment_of ys) c'
      → ServiceReplies answers world xs w → ServiceReplies answers world ys w' → (xs ≡ ys) × (c ≡ c') × (w ≡ w')
  same_exchanges clock c c' world w w' [] [] e p q r s = (refl, p ∙ sym q, r ∙ sym s)
  same_exchanges clock c c' world w w' [] (y ∷ ys) e p q r s = absurd (let h : [] ≡ item_of y ∷ map item_of ys = e in cc)
  same_exchanges clock c c' world w w' (x ∷ xs) [] e p q r s = absurd (let h : item_of x ∷ map item_of xs ≡ [] = e in cc)
  same_exchanges clock c c' world w w' (RefusedAt d m ∷ xs) (RefusedAt d' m' ∷ ys) e p q r s =
      let h : Refused d ∷ map item_of xs ≡ Refused d' ∷ map item_of ys = e in
      let denials : d ≡ d' = cc in
      let items : map item_of xs ≡ map item_of ys = cc in
      let told = one_moment clock p.0 q.0 m m' p.1 q.1 in
      let worlds = r.1 ∙ sym s.1 in
      let rest = same_exchanges q.0 c c' s.0 w w' xs ys items (subst (λ (k : C). ClockGives gives k (map moment_of xs) c) told.1 p.2) q.2
      (subst (λ (v : S). ServiceReplies answers v xs w) worlds r.2) s.2 in
      (λ i. RefusedAt (denials i) (told.0 i) ∷ rest.0 i, rest.1, rest.2)
  same_exchanges clock c c' world w w' (Answered form body m reply ∷ xs) (Answered form' body' m' reply' ∷ ys) e p q r s =
      let h : Requested form body ∷ map item_of xs ≡ Requested form' body' ∷ map item_of ys = e in
      let forms : form ≡ form' = cc in
      let bodies : body ≡ body' = cc in
      let items : map item_of xs ≡ map item_of ys = cc in
      let told = one_moment clock p.0 q.0 m m' p.1 q.1 in
      let first = subst (λ (n : ℕ). answers world (with_body form body) n reply r.0) told.0 r.1 in
      let second = subst (λ (l : List ℕ). answers world (with_body form l) m' reply' s.0) (sym bodies)
      (subst (λ (f : Form). answers world (with_body f body') m' reply' s.0) (sym forms) s.1) in
      let replied = one_reply world r.0 s.0 (with_body form body) m' reply reply' first second in
      let rest = same_exchanges q.0 c c' s.0 w w' xs ys items (subst (λ (k : C). ClockGives gives k (map moment_of xs) c) told.1 p.2) q.2
      (subst (λ (v : S). ServiceReplies answers v xs w) replied.1 r.2) s.2 in
      (λ i. Answered (forms i) (bodies i) (told.0 i) (replied.0 i) ∷ rest.0 i, rest.1, rest.2)
  same_exchanges clock c c' world w w' (RefusedAt d m ∷ xs) (Answered form body m' reply ∷ ys) e p q r s =
      absurd (let h : Refused d ∷ map item_of xs ≡ Requested form body ∷ map item_of ys = e in cc)
  same_exchanges clock c c' world w w' (Answered form body m reply ∷ xs) (RefusedAt d m' ∷ ys) e p q r s =
      absurd (let h : Requested form body ∷ map item_of xs ≡ Refused d ∷ map item_of ys = e in cc)

  -- a stream that stops in one way ends a connection in one way
  same_ends : (result result' : Result End FrontFault) (input input' : Input) (tail : Tail) (turns turns' count count' : ℕ)
      → IsOfWholeInput result input → IsOfWholeInput result' input' → EndsAs result input tail turns count → EndsAs result' input' tail turns' count' → result ≡ result'
  same_ends (Ok Clean) (Ok Clean) input input' tail turns turns' count count' p q r s = refl
  same_ends (Ok Closed) (Ok Closed) input input' tail turns turns' count count' p q r s = refl
  same_ends (Err Read) (Err Read) input input' tail turns turns' count count' p q r s = refl
  same_ends (Ok Clean) (Ok Closed) input input' tail turns turns' count count' p q r s = absurd (let both = sym r.0 ∙ s in cc)
  same_ends (Ok Closed) (Ok Clean) input input' tail turns turns' count count' p q r s = absurd (let both = sym s.0 ∙ r in cc)
  same_ends (Ok Clean) (Err Read) input input' tail turns turns' count count' p q r s = absurd (subst (λ (i : Input). IsCutAt i tail) q s.2 r.0)
  same_ends (Err Read) (Ok Clean) input input' tail turns turns' count count' p q r s = absurd (subst (λ (i : Input). IsCutAt i tail) p r.2 s.0)
  same_ends (Ok Closed) (Err Read) input input' tail turns turns' count count' p q r s = absurd (s.0 r)
  same_ends (Err Read) (Ok Closed) input input' tail turns turns' count count' p q r s = absurd (r.0 s)
  same_ends (Err Write) result' input input' tail turns turns' count count' p q r s = absurd p
  same_ends (Err Turns) result' input input' tail turns turns' count count' p q r s = absurd p
  same_ends (Err NoMemory) result' input input' tail turns turns' count count' p q r s = absurd p
  same_ends (Ok Clean) (Err Write) input input' tail turns turns' count count' p q r s = absurd q
  same_ends (Ok Clean) (Err Turns) input input' tail turns turns' count count' p q r s = absurd q
  same_ends (Ok Clean) (Err NoMemory) input input' tail turns turns' count count' p q r s = absurd q
  same_ends (Ok Closed) (Err Write) input input' tail turns turns' count count' p q r s = absurd q
  same_ends (Ok Closed) (Err Turns) input input' tail turns turns' count count' p q r s = absurd q
  same_ends (Ok Closed) (Err NoMemory) input input' tail turns turns' count count' p q r s = absurd q
  same_ends (Err Read) (Err Write) input input' tail turns turns' count count' p q r s = absurd q
  same_ends (Err Read) (Err Turns) input input' tail turns turns' count count' p q r s = absurd q
  same_ends (Err Read) (Err NoMemory) input input' tail turns turns' count count' p q r s = absurd q

  -- one input has one output
  pub answers_one : (clock c c' : C) (world w w' : S) (from to from' to' : ConnectionState) (result result' : Result End FrontFault) (input : List ℕ)
      → IsOfWholeInput result to.reader.input → IsOfWholeInput result' to'.reader.input
      → AnswersInput gives answers clock c world w from to result input → AnswersInput gives answers clock c' world w' from' to' result' input
      → EndsAlike c c' w w' from to from' to' result result'
  answers_one clock c c' world w w' from to from' to' result result' input whole whole' a b =
      let read = reads_one input (map item_of a.exchanges) (map item_of b.exchanges) a.tail b.tail a.items b.items in
      let same = same_exchanges clock c c' world w w' a.exchanges b.exchanges read.0 a.moments b.moments a.replies b.replies in record {
        output = flat_map bytes_of a.exchanges ++ tail_bytes a.tail;
        one = a.output;
        other = subst (λ (es : List Exchange). Appends from'.writer.held to'.writer.held (flat_map bytes_of es ++ tail_bytes a.tail)) (sym same.0)
            (subst (λ (t : Tail). Appends from'.writer.held to'.writer.held (flat_map bytes_of b.exchanges ++ tail_bytes t)) (sym read.1) b.output);
        clocks = same.1;
        worlds = same.2;
        results = same_ends result result' to.reader.input to'.reader.input a.tail from.reader.turns from'.reader.turns (length input) (length input) whole whole' a.ends
            (subst (λ (t : Tail). EndsAs result' to'.reader.input t from'.reader.turns (length input)) (sym read.1) b.ends);
      }

-- ---- the last calls of a connection

-- a write had failed
pub finished_broken : (ended : Result End FrontFault) (a : ConnectionState) → LeavesRun ended a → ended ≡ Err Write → MakesLastCalls ended ended a a
finished_broken (Err Write) a left is = record {
  unread = (refl, refl);
  sent = Sends-none a.writer;
  flushed = λ fine. absurd (fine refl);
  failed = λ e. left;
  still = λ e. (refl, refl);
}
finished_broken (Ok end) a left is = absurd (cc)
finished_broken (Err Read) a left is = absurd (cc)
finished_broken (Err Turns) a left is = absurd (cc)
finished_broken (Err NoMemory) a left is = absurd (cc)

-- the bytes that say that memory ran out were written
pub finished_starved : (ended : Result End FrontFault) (a b : ConnectionState) (fault : FrontFault) → ended ≡ Err NoMemory → (b.reader ≡ a.reader) × (b.bytes ≡ a.bytes)
    → Sends a.writer b.writer out_of_memory_bytes → (fault ≡ NoMemory → b.writer.output ≡ outputs.Flushed)
    → (fault ≢ NoMemory → (fault ≡ Write) × (b.writer.output ≡ outputs.Failed)) → MakesLastCalls ended (Err fault) a b
finished_starved (Err NoMemory) a b NoMemory is unread sent flushed failed = record {
  unread = unread;
  sent = sent;
  flushed = λ fine. (refl, flushed refl);
  failed = λ e. absurd (cc);
  still = λ e. absurd (cc);
}
finished_starved (Err NoMemory) a b Write is unread sent flushed failed = record {
  unread = unread;
  sent = sent;
  flushed = λ fine. absurd (fine refl);
  failed = λ e. (failed (λ same. absurd (cc))).1;
  still = λ e. absurd (cc);
}
finished_starved (Err NoMemory) a b Read is unread sent flushed failed = absurd (let other = (failed (λ same. absurd (cc))).0 in cc)
finished_starved (Err NoMemory) a b Turns is unread sent flushed failed = absurd (let other = (failed (λ same. absurd (cc))).0 in cc)
finished_starved (Ok end) a b fault is unread sent flushed failed = absurd (cc)
finished_starved (Err Read) a b fault is unread sent flushed failed = absurd (cc)
finished_starved (Err Write) a b fault is unread sent flushed failed = absurd (cc)
finished_starved (Err Turns) a b fault is unread sent flushed failed = absurd (cc)

-- nothing is written at the other ends
none_last : (ended : Result End FrontFault) (a b : ConnectionState) → ended ≢ Err NoMemory → Sends a.writer b.writer [] → Sends a.writer b.writer (last_bytes ended)
none_last (Ok end) a b kept sent = sent
none_last (Err Read) a b kept sent = sent
none_last (Err Write) a b kept sent = sent
none_last (Err Turns) a b kept sent = sent
none_last (Err NoMemory) a b kept sent = absurd (kept refl)

-- what was written is flushed
pub finished_flushed : (ended : Result End FrontFault) (a b : ConnectionState) → ended ≢ Err Write → ended ≢ Err NoMemory → (b.reader ≡ a.reader) × (b.bytes ≡ a.bytes)
    → Sends a.writer b.writer [] → b.writer.output ≡ outputs.Flushed → MakesLastCalls ended ended a b
finished_flushed ended a b told kept unread sent flushed = record {
  unread = unread;
  sent = none_last ended a b kept sent;
  flushed = λ fine. (refl, flushed);
  failed = λ e. absurd (told e);
  still = λ e. absurd (told e);
}

-- the last flush failed
pub finished_unflushed : (ended result : Result End FrontFault) (a b : ConnectionState) → ended ≢ Err Write → ended ≢ Err NoMemory → (b.reader ≡ a.reader) × (b.bytes ≡ a.bytes)
    → Sends a.writer b.writer [] → result ≡ Err Write → b.writer.output ≡ outputs.Failed → MakesLastCalls ended result a b
finished_unflushed ended result a b told kept unread sent is failed = record {
  unread = unread;
  sent = none_last ended a b kept sent;
  flushed = λ fine. absurd (fine is);
  failed = λ e. failed;
  still = λ e. absurd (told e);
}
