-- What a connection reads of the history.
use Rattle.std.proofs.Common.{◌≡◌, ◌⊎◌, inl, inr, ℕ, List, [], ◌∷◌, ◌++◌, refl, sym, ap, ◌∙◌, subst, append_assoc}
use Rattle.std.proofs.lemmas.Grind.{flat_map-append}
use Rattle.std.proofs.lemmas.List.{append-nil}
use Rattle.stamp_types.specs.declared.reply.Reply.{Reply}
use Rattle.stamp_types.specs.Requests.{Asked}
use Rattle.stamp_types.specs.World.{World}
use Rattle.request_form.specs.HeadForms.{with_body}
use Rattle.stamp_model.specs.Runs.{Timed, world_after_one, world_after_all, reply_to_one}
use Rattle.http_front.specs.Conversations.{Exchange, ServiceReplies, IsUnansweredAt, StopsBeforeOrAtItem}
use Rattle.http_front.specs.Conversations.Exchange.{Answered, RefusedAt}
use Rattle.http_front.specs.Streams.{Item}
use Rattle.http_front.specs.Streams.Item.{Requested, Refused}
use Rattle.served_history.specs.declared.entry.Entry.{Entry}
use Rattle.served_history.specs.declared.entry.Entry.TheVariants.{Opened, Rotated, Served, Split}
use Rattle.served_history.specs.Histories.{entry_after, served_request, served_requests, timed_at, world_left, IsServed, IsUnchanged}
use Rattle.served_history.specs.Connections.{Call, entered, call_at, calls_of, calls_along, IsAmong, ReadsHistory, AddsOneAtMost, IsReadAfter}
use Rattle.served_history.proofs.StayLemmas.{world_left-append}

-- the calls along a front part, and the calls along what comes after it
calls_along-append : (w : World (List ℕ)) (front rest : List Timed) → calls_along w (front ++ rest) ≡ calls_along w front ++ calls_along (world_after_all w front) rest
calls_along-append w [] rest = refl
calls_along-append w (r ∷ front) rest = ap (λ (l : List Call). call_at w r ∷ l) (calls_along-append (world_after_one w r) front rest)

-- entries of others, and then a call
served_then : (known mid known' : List Entry) (q : Asked) (t : ℕ) (reply : Reply) (calls : List Call)
    → IsServed known q t reply mid → ReadsHistory mid calls known' → ReadsHistory known ((entered q t, reply) ∷ calls) known'
served_then known mid known' q t reply calls step rest =
    let before = known ++ step.others in
    let entry = entry_after before q t in
    let r = timed_at before q t in
    let w = world_left known in
    let others = served_requests step.others in
    let then_held = world_after_all w others in
    let here : world_left before ≡ then_held = world_left-append known step.others in
    let next : world_left mid ≡ world_after_one then_held r =
    ap world_left step.enters ∙ (world_left-append before (entry ∷ []) ∙ ap (λ (v : World (List ℕ)). world_after_one v r) here) in
    let answer : reply_to_one then_held r ≡ reply = sym (step.replied ∙ ap (λ (v : World (List ℕ)). reply_to_one v r) here) in record {
      entries = step.others ++ entry ∷ rest.entries;
      continued = rest.continued ∙ (ap (λ (l : List Entry). l ++ rest.entries) step.enters ∙ (append_assoc before (entry ∷ []) rest.entries ∙ append_assoc known step.others (entry ∷ rest.entries)));
      own = (
        calls_along w others,
        calls_along (world_after_one then_held r) (served_requests rest.entries),
        ap (calls_along w) (flat_map-append served_request step.others (entry ∷ rest.entries))
            ∙ (calls_along-append w others (r ∷ served_requests rest.entries)
            ∙ ap (λ (x : Reply). calls_along w others ++ (entered q t, x) ∷ calls_along (world_after_one then_held r) (served_requests rest.entries)) answer),
        subst (λ (v : World (List ℕ)). IsAmong calls (calls_along v (served_requests rest.entries))) next rest.own,
      );
    }

-- the replies of a connection are those of the model along one history
pub replies_are_along : (known : List Entry) (exchanges : List Exchange) (known' : List Entry) → ServiceReplies IsServed known exchanges known' → ReadsHistory known (calls_of exchanges) known'
replies_are_along known [] known' same = record {
  entries = [];
  continued = same ∙ sym (append-nil known);
  own = tt;
}
replies_are_along known (Answered form body moment reply ∷ exchanges) known' given =
    served_then known given.0 known' (with_body form body) moment reply (calls_of exchanges) given.1 (replies_are_along given.0 exchanges known' given.2)
replies_are_along known (RefusedAt denial moment ∷ exchanges) known' given =
    subst (λ (k : List Entry). ReadsHistory k (calls_of exchanges) known') given.1 (replies_are_along given.0 exchanges known' given.2)

unwritten : (known known' : List Entry) (q : Asked) (t : ℕ) → IsUnchanged known known' ⊎ ((reply : Reply) × IsServed known q t reply known') → AddsOneAtMost known known'
unwritten known known' q t (inl same) = inl same
unwritten known known' q t (inr made) = inr (q, t, made.0, made.1)

unanswered : (known known' : List Entry) (item : Item) (t : ℕ) → IsUnansweredAt IsServed IsUnchanged known known' item t → AddsOneAtMost known known'
unanswered known known' (Requested form body) t left = unwritten known known' (with_body form body) t left
unanswered known known' (Refused denial) t same = inl same

-- if memory runs out, at most one request of the connection is entered after those that were answered
pub stops_with_one : {C : Type 0} (gives : C → ℕ → C → Type 0) (clock clock' : C) (known known' : List Entry) (bytes written : List ℕ)
    → StopsBeforeOrAtItem gives IsServed IsUnchanged clock clock' known known' bytes written → AddsOneAtMost known known'
stops_with_one gives clock clock' known known' bytes written (inl before) = inl before.1
stops_with_one gives clock clock' known known' bytes written (inr at) = unanswered known known' at.item at.moment at.left

-- ---- a later call comes after an earlier call

-- what comes after a front part of a list that is among another list
after_front : {X : Type 0} (front rest ys : List X) → IsAmong (front ++ rest) ys → (before : List X) × (after : List X) × (ys ≡ before ++ after) × IsAmong rest after
after_front [] rest ys own = ([], ys, refl, own)
after_front {X} (x ∷ front) rest ys own =
    let more = after_front front rest own.1 own.3 in (
      own.0 ++ x ∷ more.0,
      more.1,
      own.2 ∙ (ap (λ (l : List X). own.0 ++ x ∷ l) more.2 ∙ sym (append_assoc own.0 (x ∷ more.0) more.1)),
      more.3,
    )

-- after a front part that is among another list, an element of the list
next_after : {X : Type 0} (front : List X) (x : X) (rest ys : List X) → IsAmong (front ++ x ∷ rest) ys
    → (before : List X) × (after : List X) × (ys ≡ before ++ x ∷ after) × IsAmong rest after
next_after {X} front x rest ys own =
    let more = after_front front (x ∷ rest) ys own in
    let here = more.3 in (
      more.0 ++ here.0,
      here.1,
      more.2 ∙ (ap (λ (l : List X). more.0 ++ l) here.2 ∙ sym (append_assoc more.0 here.0 (x ∷ here.1))),
      here.3,
    )

-- a call among the calls along entries is the one of an entry at its place, and the calls after it are along the entries after it
pub record IsPlaced (w : World (List ℕ)) (entries : List Entry) (call : Call) (after : List Call) : Type 0 where
  pub front : List Entry
  pub rest : List Entry
  pub slot : ℕ
  pub request : Timed
  pub entries_are : entries ≡ front ++ Served slot request ∷ rest
  pub call_is : call ≡ call_at (world_after_all w (served_requests front)) request
  pub after_is : after ≡ calls_along (world_after_one (world_after_all w (served_requests front)) request) (served_requests rest)

-- the same after an entry before
placed_after : (w v : World (List ℕ)) (e : Entry) (entries : List Entry) (call : Call) (after : List Call) → ((rs : List Timed) → world_after_all w (served_request e ++ rs) ≡ world_after_all v rs) → IsPlaced v entries call after → IsPlaced w (e ∷ entries) call after
placed_after w v e entries call after steps placed =
    let same : world_after_all w (served_requests (e ∷ placed.front)) ≡ world_after_all v (served_requests placed.front) = steps (served_requests placed.front) in record {
      front = e ∷ placed.front;
      rest = placed.rest;
      slot = placed.slot;
      request = placed.request;
      entries_are = ap (λ (l : List Entry). e ∷ l) placed.entries_are;
      call_is = placed.call_is ∙ ap (λ (x : World (List ℕ)). call_at x placed.request) (sym same);
      after_is = placed.after_is ∙ ap (λ (x : World (List ℕ)). calls_along (world_after_one x placed.request) (served_requests placed.rest)) (sym same);
    }

at_place : (w : World (List ℕ)) (entries : List Entry) (before : List Call) (call : Call) (after : List Call) → calls_along w (served_requests entries) ≡ before ++ call ∷ after → IsPlaced w entries call after
at_place w [] [] call after is = absurd (cc (is))
at_place w [] (x ∷ before) call after is = absurd (cc (is))
at_place w (Opened pairs ∷ entries) before call after is = placed_after w w (Opened pairs) entries call after (λ rs. refl) (at_place w entries before call after is)
at_place w (Split slot middle upper ∷ entries) before call after is = placed_after w w (Split slot middle upper) entries call after (λ rs. refl) (at_place w entries before call after is)
at_place w (Rotated slot account which new ∷ entries) before call after is = placed_after w w (Rotated slot account which new) entries call after (λ rs. refl) (at_place w entries before call after is)
at_place w (Served slot r ∷ entries) [] call after is =
    let head : call_at w r ≡ call = cc (is) in
    let tail : calls_along (world_after_one w r) (served_requests entries) ≡ after = cc (is) in record {
      front = [];
      rest = entries;
      slot = slot;
      request = r;
      entries_are = refl;
      call_is = sym head;
      after_is = sym tail;
    }
at_place w (Served slot r ∷ entries) (x ∷ before) call after is =
    let tail : calls_along (world_after_one w r) (served_requests entries) ≡ before ++ call ∷ after = cc (is) in
    placed_after w (world_after_one w r) (Served slot r) entries call after (λ rs. refl) (at_place (world_after_one w r) entries before call after tail)

pub later_reads : (known known' : List Entry) (front : List Call) (earlier : Call) (middle : List Call) (later : Call) (back : List Call)
    → ReadsHistory known (front ++ earlier ∷ (middle ++ later ∷ back)) known' → IsReadAfter known' earlier later
later_reads known known' front earlier middle later back reads =
    let w = world_left known in
    let one = next_after front earlier (middle ++ later ∷ back) (calls_along w (served_requests reads.entries)) reads.own in
    let two = next_after middle later back one.1 one.3 in
    let first = at_place w reads.entries one.0 earlier one.1 one.2 in
    let then_held = world_after_all w (served_requests first.front) in
    let second = at_place (world_after_one then_held first.request) first.rest two.0 later two.1 (sym first.after_is ∙ two.2) in
    let before = known ++ first.front in
    let here : world_left before ≡ then_held = world_left-append known first.front in record {
      before = before;
      between = second.front;
      after = second.rest;
      slot = first.slot;
      later_slot = second.slot;
      first = first.request;
      second = second.request;
      known_is =
          reads.continued ∙ ap (λ (l : List Entry). known ++ l) (first.entries_are ∙ ap (λ (l : List Entry). first.front ++ Served first.slot first.request ∷ l) second.entries_are)
          ∙ sym (append_assoc known first.front (Served first.slot first.request ∷ (second.front ++ Served second.slot second.request ∷ second.rest)));
      first_is = first.call_is ∙ ap (λ (v : World (List ℕ)). call_at v first.request) (sym here);
      second_is = second.call_is ∙ ap (λ (v : World (List ℕ)). call_at v second.request)
          (sym (world_left-append before (Served first.slot first.request ∷ second.front) ∙ ap (λ (v : World (List ℕ)). world_after_all (world_after_one v first.request) (served_requests second.front)) here));
    }
