-- The front of each container that a connection knows.
use Rattle.std.proofs.Common.{◌≡◌, ℕ, ◌&&◌, Bool, true, false, cond, List, [], ◌∷◌, ◌++◌, Option, Some, None, is_some, refl, sym, ap, ◌∙◌, subst, arith}
use Rattle.std.proofs.lemmas.Grind.{flat_map-append}
use Rattle.std.proofs.lemmas.List.{append-nil, append_assoc}
use Rattle.std.specs.FinMap as finite
use Rattle.std.specs.Option.{option_map}
use mathlib.Core.List.{IsPrefix}
use Rattle.stamp_values.specs.Operations.{names_container, writes}
use Rattle.stamp_values.specs.Order.{key_cmp, keys_exact}
use Rattle.stamp_values.specs.declared.key.Key.{Key}
use Rattle.stamp_types.proofs.WorldLemmas.{equal_if_is_eq}
use Rattle.stamp_types.specs.declared.act.Act.{Act}
use Rattle.stamp_types.specs.declared.refusal.Refusal.{Refusal}
use Rattle.stamp_types.specs.declared.reply.Reply.{Reply}
use Rattle.stamp_types.specs.Requests.{Asked}
use Rattle.stamp_types.specs.World.{World, part_at}
use Rattle.range_rows.specs.SentContent.{sizes}
use Rattle.range_rows.proofs.FrameLemmas.{act_by-read}
use Rattle.stamp_model.specs.AcceptedRequests.{accepted_at, changes_at, is_on}
use Rattle.stamp_model.specs.Effects.{accepted, unless_refused}
use Rattle.stamp_model.specs.Refusals.{refusal}
use Rattle.stamp_model.specs.Runs.{Timed}
use Rattle.stamp_model.specs.SeenContainers.{routed}
use Rattle.stamp_model.proofs.AcceptedLemmas.{accepted_at-append}
use Rattle.stamp_model.proofs.EffectLemmas.{on_key}
use Rattle.stamp_model.proofs.SeenContainerLemmas.{lists_containers}
use Rattle.served_history.specs.declared.entry.Entry.{Entry}
use Rattle.served_history.specs.declared.entry.Entry.TheVariants.{Opened, Rotated, Served, Split}
use Rattle.served_history.specs.Histories.{count_of, entry_after, is_of, owner, served_request, served_requests, world_left, GoesOnWithout, IsHistory, IsOpened, IsOwn, IsServed}
use Rattle.served_history.specs.Fronts.{front_at, own_change}
use Rattle.served_history.proofs.RowLemmas.{count-append, opened-append}
use Rattle.served_history.proofs.StayLemmas.{not_both, one_stays, other_slot, routed_own}

-- the front of a longer history
pub front-append : (key : Key) (log more : List Entry) → front_at (log ++ more) key ≡ front_at log key ++ accepted_at key (world_left log) (served_requests more)
front-append key log more =
    ap (accepted_at key finite.empty) (flat_map-append served_request log more) ∙ accepted_at-append key (served_requests log) (served_requests more) finite.empty

-- the front of a beginning is a beginning of the front
pub front_begins : (key : Key) (one log : List Entry) → IsPrefix one log → IsPrefix (front_at one key) (front_at log key)
front_begins key one log begins =
    (accepted_at key (world_left one) (served_requests begins.0), sym (front-append key one begins.0) ∙ ap (λ (l : List Entry). front_at l key) begins.1)

-- a front grows by a call
pub front_grows : (known known' : List Entry) (q : Asked) (t : ℕ) (reply : Reply) (key : Key) → IsServed known q t reply known' → IsPrefix (front_at known key) (front_at known' key)
front_grows known known' q t reply key turn =
    front_begins key known known' (turn.others ++ entry_after (known ++ turn.others) q t ∷ [], sym (append_assoc known turn.others (entry_after (known ++ turn.others) q t ∷ [])) ∙ sym turn.enters)

-- the front after a call is what the request met, and then its own change
pub front_own : (known known' : List Entry) (q : Asked) (t : ℕ) (reply : Reply) (turn : IsServed known q t reply known')
    → front_at known' q.ask.key ≡ front_at (known ++ turn.others) q.ask.key ++ own_change (known ++ turn.others) q t
front_own known known' q t reply turn =
    ap (λ (l : List Entry). front_at l q.ask.key) turn.enters ∙ front-append q.ask.key (known ++ turn.others) (entry_after (known ++ turn.others) q t ∷ [])

-- ---- entries of other slots

none_made : (r : Option Refusal) → is_some (unless_refused r None) ≡ false
none_made None = refl
none_made (Some r) = refl

and_none : (b c : Bool) → c ≡ false → (b && c) ≡ false
and_none true c is = is
and_none false c is = refl

-- a request changes no container that has another key than the first one that it looks at
module _ (w : World (List ℕ)) (r : Timed) (key : Key) (apart : key ≡ routed r.request → ⊥) where
  abbrev changes : Bool
  changes = is_some (accepted r.keys (sizes (part_at w r.request.ask.key)) r.request r.moment)

  off : names_container r.request.ask.op ≡ true → (b : Bool) → is_on key r.request ≡ b → (b && changes) ≡ false
  off names true on = absurd (apart (keys_exact key r.request.ask.key (equal_if_is_eq (key_cmp key r.request.ask.key) on) ∙ sym (routed_own r.request names)))
  off names false on = refl

  unchanged_by : (b : Bool) → names_container r.request.ask.op ≡ b → changes_at key w r ≡ false
  unchanged_by true names = off names (is_on key r.request) refl
  unchanged_by false lists =
      and_none (is_on key r.request) changes
      (ap (λ (a : Option Act). is_some (unless_refused (refusal r.keys (sizes (part_at w r.request.ask.key)) r.request r.moment) (option_map (on_key r.request.ask.key) a)))
      (act_by-read (sizes (part_at w r.request.ask.key)) r.request r.moment r.request.ask.op (ap writes (lists_containers r.request.ask.op lists)))
      ∙ none_made (refusal r.keys (sizes (part_at w r.request.ask.key)) r.request r.moment))

  unchanged : changes_at key w r ≡ false
  unchanged = unchanged_by (names_container r.request.ask.op) refl

module _ (tag : ℕ) (key : Key) (front : List Entry) (has : owner front key ≡ tag) where
  none_more : (e : Entry) → IsOwn front e → is_of tag e ≡ false → accepted_at key (world_left front) (served_requests (e ∷ [])) ≡ []
  none_more (Opened pairs) own other = refl
  none_more (Served slot r) own other =
      ap (λ (b : Bool). cond b (r ∷ []) []) (unchanged (world_left front) r key (λ same. not_both slot tag other (sym own.0 ∙ ap (owner front) (sym same) ∙ has)))
  none_more (Split slot middle upper) own other = refl
  none_more (Rotated slot account which new) own other = refl

  one_front : (e : Entry) → IsOwn front e → is_of tag e ≡ false → front_at (front ++ e ∷ []) key ≡ front_at front key
  one_front e own other = front-append key front (e ∷ []) ∙ ap (λ (more : List Timed). front_at front key ++ more) (none_more e own other) ∙ append-nil (front_at front key)

rest_front : (tag : ℕ) (key : Key) (front rest : List Entry) → IsOpened front → IsHistory (front ++ rest) → count_of tag rest ≡ 0 → owner front key ≡ tag → front_at (front ++ rest) key ≡ front_at front key
rest_front tag key front [] opened history none has = ap (λ (l : List Entry). front_at l key) (append-nil front)
rest_front tag key front (e ∷ rest) opened history none has =
    let split = other_slot (is_of tag e) (count_of tag rest) none in
    let own = history.own front e (rest, refl) in
    let next = one_stays tag key front has e opened own split.0 in
    let joined : (front ++ e ∷ []) ++ rest ≡ front ++ e ∷ rest = append_assoc front (e ∷ []) rest in
    ap (λ (l : List Entry). front_at l key) (sym joined)
    ∙ rest_front tag key (front ++ e ∷ []) rest (opened-append front e opened) (subst IsHistory (sym joined) history) split.1 (next.slot ∙ has)
    ∙ one_front tag key front has e own split.0

-- while a slot makes no entry, the fronts of its containers stay
pub front_stays : (tag : ℕ) (key : Key) (front log : List Entry) → GoesOnWithout tag front log → owner front key ≡ tag → front_at log key ≡ front_at front key
front_stays tag key front log goes has =
    let rest = goes.begins.0 in
    let joined : front ++ rest ≡ log = goes.begins.1 in
    let none : count_of tag rest ≡ 0 = omega (arith, count-append tag front rest, ap (count_of tag) joined, goes.counted) in
    ap (λ (l : List Entry). front_at l key) (sym joined) ∙ rest_front tag key front rest goes.first.opened (subst IsHistory (sym joined) goes.second) none has
