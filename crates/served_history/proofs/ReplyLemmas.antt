-- A reply that a slot gives from what it knows is the model's after all entries before the request.
use Rattle.std.proofs.Common.{◌≡◌, ℕ, ◌&&◌, Bool, true, false, cond, List, [], ◌∷◌, ◌++◌, refl, sym, ap, ◌∙◌}
use Rattle.std.specs.Ordering.{eq_by_cmp}
use Rattle.std.proofs.lemmas.Bool.{and_parts}
use Rattle.stamp_values.specs.Operations.{names_container}
use Rattle.stamp_values.specs.Order.{key_cmp, keys_exact}
use Rattle.stamp_values.specs.Trees.{is_from}
use Rattle.stamp_values.specs.declared.key.Key.{Key}
use Rattle.stamp_types.proofs.WorldLemmas.{equal_if_is_eq}
use Rattle.stamp_types.specs.declared.reply.Reply.{Reply}
use Rattle.stamp_types.specs.Requests.{Asked, IsAsk}
use Rattle.stamp_types.specs.World.{part_at}
use Rattle.stamp_model.specs.AcceptedRequests.{is_on}
use Rattle.stamp_model.specs.Responses.{reply}
use Rattle.stamp_model.specs.Runs.{Timed, reply_to_one}
use Rattle.stamp_model.specs.SeenContainers.{is_between, is_in_account, is_seen, is_under, routed}
use Rattle.stamp_model.proofs.SeenContainerLemmas.{reply-seen}
use Rattle.slot_state.specs.Pairs.{current_at}
use Rattle.served_history.specs.declared.entry.Entry.{Entry}
use Rattle.served_history.specs.declared.entry.Entry.TheVariants.{Served}
use Rattle.served_history.specs.Growth.{IsEntered}
use Rattle.served_history.specs.Histories.{bound_at, entry_after, owner, pair_for, timed_at, world_left, GoesOnWithout, IsServed}
use Rattle.served_history.proofs.KeyLemmas.{one_owner, under_own}
use Rattle.served_history.proofs.StayLemmas.{routed_own, stays}

-- the slot of a request has each container that the request sees
pub seen_owner : (log : List Entry) (q : Asked) (key : Key) → is_seen q (bound_at log (routed q)) key ≡ true → owner log key ≡ owner log (routed q)
seen_owner log q key seen = by (names_container q.ask.op) refl
  where
    by : (b : Bool) → names_container q.ask.op ≡ b → owner log key ≡ owner log (routed q)
    by true names =
        let on : eq_by_cmp key_cmp key q.ask.key ≡ true =
        sym (ap (λ (b : Bool). cond b (is_on key q) (is_in_account key q && is_between (routed q) (bound_at log (routed q)) key)) names) ∙ seen in
        ap (owner log) (keys_exact key q.ask.key (equal_if_is_eq (key_cmp key q.ask.key) on) ∙ sym (routed_own q names))
    by false lists =
        let parts = and_parts (is_in_account key q) (is_between (routed q) (bound_at log (routed q)) key)
        (sym (ap (λ (b : Bool). cond b (is_on key q) (is_in_account key q && is_between (routed q) (bound_at log (routed q)) key)) lists) ∙ seen) in
        let between = and_parts (is_from (routed q) key) (is_under (bound_at log (routed q)) key) parts.1 in
        one_owner (routed q) key between.0 log between.1

module _ (slot : ℕ) (front log : List Entry) (goes : GoesOnWithout slot front log) (q : Asked) (t : ℕ) (has : owner front (routed q) ≡ slot) where
  -- the request is served as before
  pub timed_stays : timed_at log q t ≡ timed_at front q t
  timed_stays =
      let kept = stays slot (routed q) front log goes has in
      λ i. record { request = q; moment = t; keys = current_at (kept.pairs i) q.ask.key.account; bound = kept.bound i }

  -- by the same slot
  pub entry_stays : entry_after log q t ≡ entry_after front q t
  entry_stays =
      let same = (stays slot (routed q) front log goes has).slot in
      λ i. Served (same i) (timed_stays i)

  -- the containers that the request sees are as before
  pub seen_stays : (key : Key) → is_seen q (bound_at front (routed q)) key ≡ true → part_at (world_left log) key ≡ part_at (world_left front) key
  seen_stays key seen = (stays slot key front log goes (seen_owner front q key seen ∙ has)).container

  -- and so the reply is
  pub reply_stays : IsAsk q.ask → reply_to_one (world_left log) (timed_at log q t) ≡ reply_to_one (world_left front) (timed_at front q t)
  reply_stays fits =
      ap (λ (r : Timed). reply_to_one (world_left log) r) timed_stays
      ∙ reply-seen (pair_for front (routed q) q.ask.key.account) (world_left log) (world_left front) q t (bound_at front (routed q)) fits (λ lists. under_own front (routed q)) seen_stays

-- a request that was entered was served
pub entered_is_served : (slot : ℕ) (front known known' : List Entry) (q : Asked) (t : ℕ) (r : Reply) → IsAsk q.ask → owner front (routed q) ≡ slot
    → IsEntered slot front known (entry_after front q t) known' → r ≡ reply_to_one (world_left front) (timed_at front q t) → IsServed known q t r known'
entered_is_served slot front known known' q t r fits has entered is =
    let whole : known ++ entered.others_knew.0 ≡ entered.log = entered.others_knew.1 in record {
      others = entered.others_knew.0;
      enters =
          entered.enters
          ∙ ap (λ (e : Entry). entered.log ++ e ∷ []) (sym (entry_stays slot front entered.log entered.slot_knew q t has))
          ∙ ap (λ (l : List Entry). l ++ entry_after l q t ∷ []) (sym whole);
      replied =
          is
          ∙ sym (reply_stays slot front entered.log entered.slot_knew q t has fits)
          ∙ ap (λ (l : List Entry). reply_to_one (world_left l) (timed_at l q t)) (sym whole);
    }
