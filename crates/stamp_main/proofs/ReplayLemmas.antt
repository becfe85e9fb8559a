-- What a replay writes, and the account's name among its words.
use Rattle.std.proofs.Common.{◌≡◌, ℕ, List, [], ◌∷◌, ◌++◌, true, map, flat_map, Option, Some, None, IfSome, Result, Ok, Err, inl, inr, append_assoc, refl, sym, ap, ◌∙◌, subst}
use Rattle.std.proofs.lemmas.List.Sums.{fold-append}
use Rattle.std.specs.FinMap as finite
use Rattle.std.specs.Io.KnownBytes.{Appends}
use Rattle.stamp_values.specs.Names.{is_account}
use Rattle.stamp_values.specs.Texts.{is_clean}
use Rattle.stamp_types.specs.declared.reply.Reply.{Reply}
use Rattle.stamp_types.specs.Replies.{denied}
use Rattle.stamp_types.specs.World.{World}
use Rattle.access_rules.specs.declared.keys.Keys.{Keys}
use Rattle.stamp_model.specs.Runs.{Timed, timed, replies_to, reply_to_one, world_after_all, world_after_one}
use Rattle.core_run.specs.Cores.{CoreState, StandsFor}
use Rattle.core_run.specs.States.{State, reply_in, served}
use Rattle.core_service.specs.Services.{AnswersAsMachine, opening_of, served_in_turn}
use Rattle.core_service.proofs.ServiceLemmas.{IsOfAccount, of_opening, of_served, reply_of, world_of}
use Rattle.http_front.specs.declared.end.End.{End}
use Rattle.http_front.specs.declared.end.FrontFault.{FrontFault}
use Rattle.http_front.specs.declared.end.FrontFault.TheVariants.{Read, Write, Turns, NoMemory}
use Rattle.http_front.specs.Answers.{LeavesRequestUnanswered}
use Rattle.http_front.specs.Connections.{ConnectionState, IsFresh, ReaderState, Receives, Sends}
use Rattle.http_front.specs.Conversations.{Exchange, item_of, moment_of, bytes_of, ClockGives, ServiceReplies, AnswersInput, AnswersReceived, EndsByWrite, EndsOutOfMemory, IsUnansweredAt, StopsBeforeOrAtItem}
use Rattle.http_front.specs.Conversations.Exchange.{Answered, RefusedAt}
use Rattle.reply_form.specs.FixedReplies.{out_of_memory_bytes}
use Rattle.request_form.specs.declared.denial.Denial.{Denial}
use Rattle.request_form.specs.HeadForms.{Form, with_body}
use Rattle.http_front.specs.Outcomes.{IsOfWholeInput, UnlessWriteOrMemoryFailed}
use Rattle.http_front.specs.Resumptions.{Finishes}
use Rattle.reply_form.specs.ReplyBytes.{reply_bytes}
use Rattle.http_front.specs.Streams.{BeginsWith, Item, Tail, Reads, interim, tail_bytes, refusal_of}
use Rattle.http_front.specs.Streams.Item.{Requested, Refused}
use Rattle.http_front.proofs.ConnectionLemmas.{Receives-none}
use Rattle.http_front.proofs.Readings.{reading_of}
use Rattle.http_front.proofs.StreamLemmas.{reads_one}
use Rattle.request_form.proofs.TextLemmas.{account_visible, visible_clean}
use Rattle.stamp_main.specs.declared.replay.Still.{Still}
use Rattle.stamp_main.specs.Replays.{output_of, replay_output, requests_of, written_for, IsOutput, ReplaysInput, ReplaysReceived, ReplayEndsByWrite, ReplayEndsOutOfMemory}
use Rattle.stamp_main.specs.ReplayStates.{IsAfterItems, IsAfterOneMoreAtMost, ServesByWrite, ServesOutOfMemory, ServesReceived}

-- an account's name has no control characters
pub account_clean : (t : List ℕ) → is_account t ≡ true → is_clean t ≡ true
account_clean t good = visible_clean t (account_visible t good)

-- ---- what is written at one moment

-- the clock always gives the same moment
abbrev pub GivesSameMoment : Still → ℕ → Still → Type 0
GivesSameMoment still moment new = (moment ≡ still.moment) × (new ≡ still)

-- a service that does not answer stays as it is
abbrev IsUnserved : CoreState → CoreState → Type 0
IsUnserved core core' = core' ≡ core

-- what is written for an answered request
answered_step : (w : World (List ℕ)) (r : Timed) (t : ℕ) (form : Form) (body : List ℕ) (moment : ℕ) (reply : Reply) → moment ≡ t → reply ≡ reply_to_one w r
    → bytes_of (Answered form body moment reply) ≡ interim form ++ reply_bytes (reply_to_one w r) t (Some form.ask.signing.verb) form.closes
unfolding bytes_of
answered_step w r t form body moment reply told replied =
    ap (λ o. interim form ++ reply_bytes o moment (Some form.ask.signing.verb) form.closes) replied
    ∙ ap (λ m. interim form ++ reply_bytes (reply_to_one w r) m (Some form.ask.signing.verb) form.closes) told

-- what is written for a refused head
refused_step : (t : ℕ) (denial : Denial) (moment : ℕ) → moment ≡ t → bytes_of (RefusedAt denial moment) ≡ reply_bytes (denied (refusal_of denial)) t denial.verb true
unfolding bytes_of
refused_step t denial moment told = rw told refl

-- what is written for the items in this order, if these containers come before them
abbrev written_from : Keys → World (List ℕ) → ℕ → List Item → List ℕ
written_from keys w t items = written_for t items (replies_to w (requests_of keys t items))

-- what a service writes for the items, and what it comes to, if the core stands for this state before them
abbrev HasWritten : Keys → State → ℕ → List Exchange → CoreState → Type 0
HasWritten keys s t es core =
    (flat_map bytes_of es ≡ written_from keys s.world t (map item_of es)) × StandsFor core (served_in_turn s (requests_of keys t (map item_of es)))

-- an answered request, and then the others
answered_then : (keys : Keys) (s : State) (t : ℕ) (form : Form) (body : List ℕ) (moment : ℕ) (reply : Reply) (es : List Exchange) (core : CoreState)
    → IsOfAccount keys s → moment ≡ t → reply ≡ reply_in s (with_body form body) t
    → HasWritten keys (served s (with_body form body) t) t es core → HasWritten keys s t (Answered form body moment reply ∷ es) core
answered_then keys s t form body moment reply es core of told replied rest =
    let q = with_body form body in
    let r = timed keys q t in (
      ap (λ l. l ++ flat_map bytes_of es) (answered_step s.world r t form body moment reply told (replied ∙ reply_of keys s q t of))
          ∙ ap (λ l. (interim form ++ reply_bytes (reply_to_one s.world r) t (Some form.ask.signing.verb) form.closes) ++ l)
          (rest.0 ∙ ap (λ (w : World (List ℕ)). written_from keys w t (map item_of es)) (world_of keys s q t of)),
      rest.1,
    )

-- a refused head, and then the others
refused_then : (keys : Keys) (s : State) (t : ℕ) (denial : Denial) (moment : ℕ) (es : List Exchange) (core : CoreState)
    → moment ≡ t → HasWritten keys s t es core → HasWritten keys s t (RefusedAt denial moment ∷ es) core
refused_then keys s t denial moment es core told rest = (
  ap (λ l. l ++ flat_map bytes_of es) (refused_step t denial moment told) ∙ ap (λ l. reply_bytes (denied (refusal_of denial)) t denial.verb true ++ l) rest.0,
  rest.1,
)

-- a service whose core stands for a state of the account writes the replies of the model to the items, and then its core stands for the
-- state after the requests among them
written_is : (keys : Keys) (s : State) (h h' : CoreState) (c c' : Still) (es : List Exchange) → IsOfAccount keys s → StandsFor h s
    → ClockGives GivesSameMoment c (map moment_of es) c' → ServiceReplies AnswersAsMachine h es h' → HasWritten keys s c.moment es h'
written_is keys s h h' c c' [] of stands told replies = (refl, subst (λ (x : CoreState). StandsFor x s) (sym replies) stands)
written_is keys s h h' c c' (Answered form body moment reply ∷ es) of stands told replies =
    let q = with_body form body in
    let now = subst (λ (m : ℕ). (reply ≡ reply_in s q m) × StandsFor replies.0 (served s q m)) told.1.0 (replies.1 s stands) in
    let rest = written_is keys (served s q c.moment) replies.0 h' told.0 c' es (of_served keys s q c.moment of) now.1 told.2 replies.2 in
    answered_then keys s c.moment form body moment reply es h' of told.1.0 now.0
    (subst (λ (still : Still). HasWritten keys (served s q c.moment) still.moment es h') told.1.1 rest)
written_is keys s h h' c c' (RefusedAt denial moment ∷ es) of stands told replies =
    let rest = written_is keys s replies.0 h' told.0 c' es of (subst (λ (x : CoreState). StandsFor x s) (sym replies.1) stands) told.2 replies.2 in
    refused_then keys s c.moment denial moment es h' told.1.0 (subst (λ (still : Still). HasWritten keys s still.moment es h') told.1.1 rest)

-- a clock that always gives the same moment stays as it is
same_clock : (c c' : Still) (moments : List ℕ) → ClockGives GivesSameMoment c moments c' → c' ≡ c
same_clock c c' [] told = told
same_clock c c' (moment ∷ moments) told = same_clock told.0 c' moments told.2 ∙ told.1.1

-- ---- what was served, if memory ran out

requests_of-append : (keys : Keys) (t : ℕ) (front rest : List Item) → requests_of keys t (front ++ rest) ≡ requests_of keys t front ++ requests_of keys t rest
requests_of-append keys t [] rest = refl
requests_of-append keys t (Requested form body ∷ front) rest = ap (λ (rs : List Timed). timed keys (with_body form body) t ∷ rs) (requests_of-append keys t front rest)
requests_of-append keys t (Refused denial ∷ front) rest = requests_of-append keys t front rest

-- the state after one request more
served_one_more : (keys : Keys) (t : ℕ) (items : List Item) (form : Form) (body : List ℕ)
    → served_in_turn (opening_of keys) (requests_of keys t (items ++ Requested form body ∷ []))
    ≡ served (served_in_turn (opening_of keys) (requests_of keys t items)) (with_body form body) t
served_one_more keys t items form body =
    ap (λ (rs : List Timed). served_in_turn (opening_of keys) rs) (requests_of-append keys t items (Requested form body ∷ []))
    ∙ fold-append (λ (s : State) (r : Timed). served s r.request r.moment) (opening_of keys) (requests_of keys t items) (timed keys (with_body form body) t ∷ [])

module _ (keys : Keys) (t : ℕ) (items : List Item) (rest : List ℕ) (h h' : CoreState) (after : IsAfterItems keys t items h) where
  abbrev same_after : h' ≡ h → IsAfterOneMoreAtMost keys t items rest h'
  same_after same = inl (subst (λ (x : CoreState). IsAfterItems keys t items x) (sym same) after)

  one_more : (form : Form) (body later : List ℕ) (moment : ℕ) → moment ≡ t → BeginsWith rest (Requested form body) later
      → LeavesRequestUnanswered AnswersAsMachine IsUnserved h h' (with_body form body) moment → IsAfterOneMoreAtMost keys t items rest h'
  one_more form body later moment told begins (inl same) = same_after same
  one_more form body later moment told begins (inr made) =
      let now = (made.1 (served_in_turn (opening_of keys) (requests_of keys t items)) after).1 in
      let at_t = subst (λ (m : ℕ). StandsFor h' (served (served_in_turn (opening_of keys) (requests_of keys t items)) (with_body form body) m)) told now in
      inr (form, body, later, begins, subst (λ (s : State). StandsFor h' s) (sym (served_one_more keys t items form body)) at_t)

  at_item : (item : Item) (later : List ℕ) (moment : ℕ) → moment ≡ t → BeginsWith rest item later
      → IsUnansweredAt AnswersAsMachine IsUnserved h h' item moment → IsAfterOneMoreAtMost keys t items rest h'
  at_item (Requested form body) later moment told begins left = one_more form body later moment told begins left
  at_item (Refused denial) later moment told begins same = same_after same

  -- the service is as the last of the items left it, or as the next request left it
  stopped : (c c' : Still) (written : List ℕ) → c.moment ≡ t → StopsBeforeOrAtItem GivesSameMoment AnswersAsMachine IsUnserved c c' h h' rest written
      → IsAfterOneMoreAtMost keys t items rest h'
  stopped c c' written is (inl before) = same_after before.1
  stopped c c' written is (inr at) = at_item at.item at.rest at.moment (at.clock_gave.0 ∙ is) at.begins at.left

-- ---- the clauses of a run that begins with the clock of the replay, and with a service whose core stands for the first state

module _ (keys : Keys) (t : ℕ) (c' : Still) (h h' : CoreState) (stands : StandsFor h (opening_of keys)) where
  -- what a new service writes and comes to
  written_first : (c : Still) (es : List Exchange) (x : CoreState) → ClockGives GivesSameMoment (record { moment = t }) (map moment_of es) c
      → ServiceReplies AnswersAsMachine h es x → HasWritten keys (opening_of keys) t es x
  written_first c es x told replies = written_is keys (opening_of keys) h x (record { moment = t }) c es (of_opening keys) stands told replies

  -- the output of a connection is the output of the replay
  replays_of : (from to : ConnectionState) (result : Result End FrontFault) (input : List ℕ)
      → AnswersInput GivesSameMoment AnswersAsMachine (record { moment = t }) c' h h' from to result input
      → ReplaysInput keys t from to result input
  unfolding replay_output
  replays_of from to result input c = record {
    items = map item_of c.exchanges;
    tail = c.tail;
    reads = c.items;
    output = subst (λ l. Appends from.writer.held to.writer.held (l ++ tail_bytes c.tail)) (written_first c' c.exchanges h' c.moments c.replies).0 c.output;
    ends = c.ends;
  }

  received_of : (from to : ConnectionState) (result : Result End FrontFault)
      → AnswersReceived GivesSameMoment AnswersAsMachine (record { moment = t }) c' h h' from to result
      → ServesReceived keys t from to result h'
  unfolding replays_of
  received_of from to result c = record {
    replays = record {
      received = c.received;
      came = c.came;
      replays = replays_of from to result c.received c.converses;
    };
    served = (written_first c' c.converses.exchanges h' c.converses.moments c.converses.replies).1;
  }

  -- the output of a run for which memory ran out
  starves_of : (from to : ConnectionState)
      → EndsOutOfMemory GivesSameMoment AnswersAsMachine IsUnserved (record { moment = t }) c' h h' from to out_of_memory_bytes
      → ServesOutOfMemory keys t from to h'
  starves_of from to s =
      let written = written_first s.clock_then s.exchanges s.world_then s.moments s.replies in
      let same = ap (λ (c : Still). c.moment) (same_clock (record { moment = t }) s.clock_then (map moment_of s.exchanges) s.moments) in record {
        replays = record {
          received = s.received;
          came = s.came;
          items = map item_of s.exchanges;
          rest = s.rest;
          reads = s.items;
          begun = s.begun;
          begun_is = s.begun_is;
          output = subst (λ l. Sends from.writer to.writer ((l ++ s.begun) ++ out_of_memory_bytes)) written.0 s.output;
        };
        served = stopped keys t (map item_of s.exchanges) s.rest s.world_then h' written.1 s.clock_then c' s.begun same s.stops;
      }

  -- the output that a failed write broke off
  written_of : (from to : ConnectionState)
      → EndsByWrite GivesSameMoment AnswersAsMachine IsUnserved (record { moment = t }) c' h h' from to
      → ServesByWrite keys t from to h'
  written_of from to (inl b) =
      let written = written_first c' b.exchanges h' b.moments b.replies in
      inl
      (record {
        replays = record {
          received = b.received;
          came = b.came;
          items = map item_of b.exchanges;
          others = b.others;
          tail = b.tail;
          reads = b.items;
          begun = b.begun;
          begun_is = b.begun_is;
          output = subst (λ l. Sends from.writer to.writer (l ++ b.begun)) written.0 b.output;
        };
        served = written.1;
      })
  written_of from to (inr s) = inr (starves_of from to s)

served_map : {T : Type 0} (r : Result T FrontFault) (P Q : Type 0) → (P → Q) → UnlessWriteOrMemoryFailed r P → UnlessWriteOrMemoryFailed r Q
served_map (Ok x) P Q f p = f p
served_map (Err Read) P Q f p = f p
served_map (Err Turns) P Q f p = f p
served_map (Err Write) P Q f p = p
served_map (Err NoMemory) P Q f p = p

if_some : (left : Option (List ℕ)) (P Q : List ℕ → Type 0) → ((l : List ℕ) → P l → Q l) → IfSome left P → IfSome left Q
if_some (Some l) P Q f p = f l p
if_some None P Q f p = p

module _ (t : ℕ) (c c' : Still) (h h' : CoreState) (from to : ConnectionState) (result : Result End FrontFault) (is : c ≡ record { moment = t }) where
  pub replayed_by : UnlessWriteOrMemoryFailed result (AnswersReceived GivesSameMoment AnswersAsMachine c c' h h' from to result)
      → (keys : Keys) → StandsFor h (opening_of keys) → UnlessWriteOrMemoryFailed result (ServesReceived keys t from to result h')
  replayed_by conversed keys stands = served_map result _ _ (received_of keys t c' h h' stands from to result) (rw is at conversed)

  pub whole_by : (IsOfWholeInput result to.reader.input → IfSome from.reader.left (AnswersInput GivesSameMoment AnswersAsMachine c c' h h' from to result))
      → (keys : Keys) → StandsFor h (opening_of keys) → IsOfWholeInput result to.reader.input → IfSome from.reader.left (ReplaysInput keys t from to result)
  whole_by whole keys stands ended = if_some from.reader.left _ _ (replays_of keys t c' h h' stands from to result) (rw is at (whole ended))

  pub starved_by : (result ≡ Err NoMemory → EndsOutOfMemory GivesSameMoment AnswersAsMachine IsUnserved c c' h h' from to out_of_memory_bytes)
      → (keys : Keys) → StandsFor h (opening_of keys) → result ≡ Err NoMemory → ServesOutOfMemory keys t from to h'
  starved_by starved keys stands ended = starves_of keys t c' h h' stands from to (rw is at (starved ended))

  pub broken_by : (result ≡ Err Write → EndsByWrite GivesSameMoment AnswersAsMachine IsUnserved c c' h h' from to)
      → (keys : Keys) → StandsFor h (opening_of keys) → result ≡ Err Write → ServesByWrite keys t from to h'
  broken_by broken keys stands ended = written_of keys t c' h h' stands from to (rw is at (broken ended))

-- ---- what was written, of a replay of which it is known what it served

module _ (keys : Keys) (t : ℕ) (from to : ConnectionState) (core : CoreState) where
  pub written_received : (result : Result End FrontFault) → UnlessWriteOrMemoryFailed result (ServesReceived keys t from to result core)
      → UnlessWriteOrMemoryFailed result (ReplaysReceived keys t from to result)
  written_received result serves = served_map result _ _ (λ r. r.replays) serves

  pub written_broken : ServesByWrite keys t from to core → ReplayEndsByWrite keys t from to
  written_broken (inl broken) = inl broken.replays
  written_broken (inr starved) = inr starved.replays

-- ---- a service that was not made, since memory ran out

module _ (keys : Keys) (t : ℕ) (from to : ConnectionState) (result : Result End FrontFault) (fresh : IsFresh from)
    (finished : Finishes (Err NoMemory) result from to) where
  -- nothing was answered, and the bytes that say that memory ran out were written or broken off
  unbegun : ReplayEndsOutOfMemory keys t from to
  unbegun = record {
    received = [];
    came = subst (λ (r : ReaderState). Receives from.reader r []) (sym finished.calls.unread.0) (Receives-none from.reader fresh.0);
    items = [];
    rest = [];
    reads = refl;
    begun = [];
    begun_is = inl refl;
    output = finished.calls.sent;
  }

  pub unbegun_starved : result ≡ Err NoMemory → ReplayEndsOutOfMemory keys t from to
  unbegun_starved e = unbegun

  pub unbegun_broken : result ≡ Err Write → ReplayEndsByWrite keys t from to
  unbegun_broken e = inr unbegun

-- ---- a replay has one output for each input

output_one : (keys : Keys) (t : ℕ) (bytes : List ℕ) (items others : List Item) (tail other : Tail)
    → Reads bytes items tail → Reads bytes others other → replay_output keys t items tail ≡ replay_output keys t others other
output_one keys t bytes items others tail other p q =
    let same = reads_one bytes items others tail other p q in
    ap (λ l. replay_output keys t l tail) same.0 ∙ ap (λ e. replay_output keys t others e) same.1

pub one_output : (keys : Keys) (t : ℕ) (input output other : List ℕ) → IsOutput keys t input output → IsOutput keys t input other → output ≡ other
one_output keys t input output other p q = p.3 ∙ output_one keys t input p.0 q.0 p.1 q.1 p.2 q.2 ∙ sym q.3

pub some_output : (keys : Keys) (t : ℕ) (input : List ℕ) → (output : List ℕ) × IsOutput keys t input output
some_output keys t input = let read = reading_of input in (replay_output keys t read.0 read.1, (read.0, read.1, read.2, refl))

-- ---- each reply is the model's at the place of its request

written-append : (keys : Keys) (w : World (List ℕ)) (t : ℕ) (front rest : List Item)
    → written_from keys w t (front ++ rest) ≡ written_from keys w t front ++ written_from keys (world_after_all w (requests_of keys t front)) t rest
written-append keys w t [] rest = refl
written-append keys w t (Requested form body ∷ front) rest =
    let r = timed keys (with_body form body) t in
    let answer = interim form ++ reply_bytes (reply_to_one w r) t (Some form.ask.signing.verb) form.closes in
    ap (λ l. answer ++ l) (written-append keys (world_after_one w r) t front rest)
    ∙ sym (append_assoc answer (written_from keys (world_after_one w r) t front) (written_from keys (world_after_all (world_after_one w r) (requests_of keys t front)) t rest))
written-append keys w t (Refused denial ∷ front) rest =
    let answer = reply_bytes (denied (refusal_of denial)) t denial.verb true in
    ap (λ l. answer ++ l) (written-append keys w t front rest)
    ∙ sym (append_assoc answer (written_from keys w t front) (written_from keys (world_after_all w (requests_of keys t front)) t rest))

-- what is written for a request comes after what is written for the items before it, and before what is written for the items after it
pub output_of-request : (keys : Keys) (t : ℕ) (front : List Item) (form : Form) (body : List ℕ) (rest : List Item)
    → output_of keys t (front ++ Requested form body ∷ rest)
    ≡ (output_of keys t front
    ++ (interim form
    ++ reply_bytes (reply_to_one (world_after_all finite.empty (requests_of keys t front)) (timed keys (with_body form body) t)) t (Some form.ask.signing.verb) form.closes))
    ++ written_from keys (world_after_one (world_after_all finite.empty (requests_of keys t front)) (timed keys (with_body form body) t)) t rest
output_of-request keys t front form body rest =
    let before = world_after_all finite.empty (requests_of keys t front) in
    let r = timed keys (with_body form body) t in
    written-append keys finite.empty t front (Requested form body ∷ rest)
    ∙ sym (append_assoc (output_of keys t front) (interim form ++ reply_bytes (reply_to_one before r) t (Some form.ask.signing.verb) form.closes) (written_from keys (world_after_one before r) t rest))
