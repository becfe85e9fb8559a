-- What a core that stands for a state answers.
use Rattle.std.proofs.Common.{◌≡◌, ◌≢◌, ◌&&◌, ℕ, Bool, true, false, List, [], ◌∷◌, ◌++◌, All, Option, Some, None, unwrap_or, refl, sym, ap, ◌∙◌}
use Rattle.std.specs.Prelude.{slice_index_or, if◌then◌else◌}
use Rattle.std.specs.FinMap.{empty, get-empty}
use Rattle.std.specs.Option.{option_map, option_or}
use Rattle.std.specs.Ordering.{eq_by_cmp}
use Rattle.std.proofs.lemmas.Bool.{and_parts}
use Rattle.stamp_values.specs.Operations.{names_container}
use Rattle.stamp_values.specs.Order.{key_cmp, keys_exact}
use Rattle.stamp_values.specs.Trees.{is_from}
use Rattle.stamp_values.specs.declared.key.Key.{Key}
use Rattle.stamp_values.specs.declared.signing.Credential.TheVariants.{Token}
use Rattle.stamp_types.specs.declared.past.Past.{Past}
use Rattle.stamp_types.specs.declared.refusal.Refusal.{Refusal}
use Rattle.stamp_types.specs.declared.reply.Reply.{Reply}
use Rattle.stamp_types.specs.declared.rule.Rule.{Rule}
use Rattle.stamp_types.specs.Requests.{Asked}
use Rattle.stamp_types.specs.World.{Part, no_part, part_at}
use Rattle.stamp_types.proofs.WorldLemmas.{equal_if_is_eq}
use Rattle.sas_token.specs.Tokens.{IsToken, Sent}
use Rattle.access_rules.specs.Rules.{first_rule}
use Rattle.row_trees.specs.Access.{acl_of}
use Rattle.range_rows.specs.SentContent.{sizes}
use Rattle.range_rows.specs.ObjectRules.{object_refusal}
use Rattle.stamp_model.specs.AcceptedRequests.{is_on}
use Rattle.stamp_model.specs.Histories.{IsLegal, replay}
use Rattle.stamp_model.specs.Refusals.{access_refusal}
use Rattle.stamp_model.specs.Responses.{reply}
use Rattle.stamp_model.specs.SeenContainers.{is_between, is_in_account, is_seen, is_under, routed}
use Rattle.stamp_model.specs.Withdrawals.{gives_policy, is_before_fields, withdraws_policy}
use Rattle.stamp_model.proofs.PolicyLemmas.{refused-withdrawn}
use Rattle.stamp_model.proofs.ReplyLemmas.{rule-reply}
use Rattle.partition_map.specs.Spans.{bound_at, is_before, slot_of}
use Rattle.partition_map.proofs.SpanLemmas.{same_slot, under_bound}
use Rattle.slot_state.specs.HistoryMaps.{history_at}
use Rattle.slot_state.specs.Pairs.{AreNumbered, Pairs, current_at, pairs_at}
use Rattle.slot_state.specs.Slots.{AgreesFor, IsServed, SlotState, replayed_at}
use Rattle.core_run.specs.Cores.{CoreState, StandsFor, first_core, no_slot, slot_at}
use Rattle.core_run.specs.States.{State, opening, reply_in}
use Rattle.core_run.proofs.SoundLemmas.{opening_sound, routed_own}

-- ---- bounds, and what a request sees

pub same_bound : (bound : Option Key) (key : Key) → is_under bound key ≡ is_before bound key
same_bound None key = refl
same_bound (Some b) key = refl

-- the first key of a request comes before the bound of its slot
pub routed_under : (points : List Key) (q : Asked) → is_under (bound_at points (routed q)) (routed q) ≡ true
routed_under points q = same_bound (bound_at points (routed q)) (routed q) ∙ under_bound points (routed q)

-- a container that a request sees has the slot of the request
pub same_seen : (points : List Key) (q : Asked) (k : Key) → is_seen q (bound_at points (routed q)) k ≡ true → slot_of points k ≡ slot_of points (routed q)
same_seen points q k seen = by (names_container q.ask.op) refl
  where
    by : (b : Bool) → names_container q.ask.op ≡ b → slot_of points k ≡ slot_of points (routed q)
    by true e =
        let on : eq_by_cmp key_cmp k q.ask.key ≡ true =
        sym (ap (λ (b : Bool). if b then is_on k q else (is_in_account k q && is_between (routed q) (bound_at points (routed q)) k)) e) ∙ seen in
        ap (slot_of points) (keys_exact k q.ask.key (equal_if_is_eq (key_cmp k q.ask.key) on) ∙ sym (routed_own q e))
    by false e =
        let parts = and_parts (is_in_account k q) (is_between (routed q) (bound_at points (routed q)) k)
        (sym (ap (λ (b : Bool). if b then is_on k q else (is_in_account k q && is_between (routed q) (bound_at points (routed q)) k)) e) ∙ seen) in
        let between = and_parts (is_from (routed q) k) (is_under (bound_at points (routed q)) k) parts.1 in
        same_slot points k (routed q) between.0 (sym (same_bound (bound_at points (routed q)) k) ∙ between.1)

-- ---- one request

module _ (c : CoreState) (s : State) (stands : StandsFor c s) (q : Asked) (t : ℕ) where
  abbrev slot : SlotState
  slot = slot_at c.slots c.points (routed q)

  -- the containers are what the slot's histories replay to, as far as the request sees them
  pub agrees : AgreesFor slot.pairs slot.histories q (bound_at c.points (routed q)) s.world
  agrees k seen =
      stands.parts k ∙ ap (λ (n : ℕ). replayed_at (slice_index_or c.slots n no_slot).pairs (slice_index_or c.slots n no_slot).histories k) (same_seen c.points q k seen)

  -- the reply of the slot is the model's
  pub replied : (r : Reply) (new : SlotState) → IsServed slot q t (bound_at c.points (routed q)) r new → r ≡ reply_in s q t
  replied r new is =
      is.reply s.world agrees
      ∙ ap (λ (ps : Pairs). reply (current_at ps q.ask.key.account) s.world q t (bound_at c.points (routed q))) (stands.pairs (routed q))
      ∙ ap (λ (ps : List Key). reply (current_at s.pairs q.ask.key.account) s.world q t (bound_at ps (routed q))) (sym stands.points)

-- ---- the first core

nothing_at : (pairs : Pairs) (k : Key) → part_at empty k ≡ replayed_at pairs empty k
nothing_at pairs k =
    ap (λ (o : Option (Part (List ℕ))). unwrap_or o no_part) (get-empty key_cmp k)
    ∙ ap (λ (o : Option (List Past)). replay (pairs_at pairs k.account) (unwrap_or o [])) (sym (get-empty key_cmp k))

pub stands_opening : (pairs : Pairs) → AreNumbered pairs → StandsFor (first_core pairs) (opening pairs)
stands_opening pairs numbered = record {
  points = refl;
  tickets = refl;
  counted = refl;
  doubts = refl;
  sound = opening_sound pairs numbered;
  pairs = λ k. refl;
  parts = λ k. nothing_at pairs k;
}

-- ---- a policy that was withdrawn

module _ (c : CoreState) (s : State) (stands : StandsFor c s) (q : Asked) (t : ℕ) (front rest : List Past) (e : Past) (id : List ℕ)
    (history : history_at (slot_at c.slots c.points q.ask.key).histories q.ask.key ≡ front ++ e ∷ rest)
    (legal : IsLegal (pairs_at s.pairs q.ask.key.account) q.ask.key (front ++ e ∷ rest))
    (withdraws : withdraws_policy id e.request ≡ true) (none : All (λ later. gives_policy id later.request ≡ false) rest)
    (token : Sent) (asks : q.ask.credential ≡ Token) (reads : IsToken q.ask.signing.query token) (named : token.id ≡ id) (some : id ≢ []) where
  container : part_at s.world q.ask.key ≡ replay (pairs_at s.pairs q.ask.key.account) (front ++ e ∷ rest)
  container =
      stands.parts q.ask.key
      ∙ ap (λ (ps : Pairs). replay (pairs_at ps q.ask.key.account) (history_at (slot_at c.slots c.points q.ask.key).histories q.ask.key)) (stands.pairs q.ask.key)
      ∙ ap (replay (pairs_at s.pairs q.ask.key.account)) history

  pub refused : (rule : Rule) × ((is_before_fields rule ≡ true) × ((reply_in s q t).rule ≡ Some rule))
  refused =
      let w = refused-withdrawn (pairs_at s.pairs q.ask.key.account) q.ask.key front rest e id legal withdraws none (current_at s.pairs q.ask.key.account) q.ask t token asks reads named some in
      let first : first_rule (current_at s.pairs q.ask.key.account) (acl_of (part_at s.world q.ask.key)) q.ask t ≡ Some w.0 =
      ap (λ (p : Part (List ℕ)). first_rule (current_at s.pairs q.ask.key.account) (acl_of p) q.ask t) container ∙ w.2 in (
        w.0,
        (
          w.1,
          rule-reply (current_at s.pairs q.ask.key.account) s.world q t (bound_at s.points (routed q))
              ∙ ap (λ (o : Option Rule). option_map (λ (r : Refusal). r.rule) (option_or (option_map access_refusal o) (object_refusal (sizes (part_at s.world q.ask.key)) q))) first,
        ),
      )
