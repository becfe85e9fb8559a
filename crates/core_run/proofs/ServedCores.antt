-- A core in which a slot served a request stands for the state after the request.
use Rattle.std.proofs.Common.{zero, suc, ◌≡◌, ◌≢◌, ◌<◌, ◌⊎◌, inl, inr, ℕ, Bool, true, false, cond, List, [], ◌∷◌, ◌++◌, Option, Some, None, is_some, unwrap_or, refl, sym, ap, ◌∙◌, subst, arith, length, map}
use Rattle.std.specs.Prelude.{slice_set, slice_index_or}
use Rattle.std.specs.FinMap.{get, insert, get-insert}
use Rattle.std.specs.Cmp.{eq_by_cmp_equiv}
use Rattle.std.specs.Ordering.{eq_by_cmp}
use Rattle.std.proofs.lemmas.Bool.{cases_order}
use Rattle.std.proofs.lemmas.List.{get_or-set_same, get_or-set_other, length-set}
use Rattle.stamp_values.specs.Operations.{names_container}
use Rattle.stamp_values.specs.Order.{key_cmp, keys_exact, keys_total}
use Rattle.stamp_values.specs.declared.key.Key.{Key}
use Rattle.stamp_types.specs.declared.past.Past.{Past}
use Rattle.stamp_types.specs.declared.reply.Reply.{Reply}
use Rattle.stamp_types.specs.Changes.{KeyedAct}
use Rattle.stamp_types.specs.Pieces.{held}
use Rattle.stamp_types.specs.Requests.{Asked}
use Rattle.stamp_types.specs.World.{Part, World, no_part, part_at}
use Rattle.stamp_types.proofs.WorldLemmas.{equal_if_is_eq}
use Rattle.access_rules.specs.declared.keys.Keys.{Keys}
use Rattle.range_rows.specs.SentContent.{byte_count, sizes}
use Rattle.range_rows.specs.RequestChanges.{part_after}
use Rattle.stamp_model.specs.Effects.{change, effect}
use Rattle.stamp_model.specs.Histories.{pair_of, replay}
use Rattle.stamp_model.specs.SeenContainers.{routed}
use Rattle.stamp_model.proofs.EffectLemmas.{part_at-effect, part_at-effect_others}
use Rattle.stamp_model.proofs.HistoryLemmas.{replay_from-append}
use Rattle.partition_map.specs.Spans.{bound_at, slot_of}
use Rattle.slot_state.specs.HistoryMaps.{Histories, history_at, with_entry}
use Rattle.slot_state.specs.Pairs.{Pairs, current_at, epoch_of, pairs_at}
use Rattle.slot_state.specs.Slots.{IsServed, SlotState, change_now, entry_of, histories_after, replayed_at}
use Rattle.core_run.specs.Cores.{CoreState, StandsFor, no_slot, slot_at}
use Rattle.core_run.specs.States.{State, served}
use Rattle.core_run.proofs.PairLemmas.{current_is}
use Rattle.core_run.proofs.SoundLemmas.{effect-listing, lists_nothing, routed_own, same_but, slot_of-within}

-- ---- histories after a request

pub tied : (k j : Key) → eq_by_cmp key_cmp k j ≡ true → k ≡ j
tied k j e = keys_exact k j (equal_if_is_eq (key_cmp k j) e)

pub same_key : (k : Key) → eq_by_cmp key_cmp k k ≡ true
same_key k = (eq_by_cmp_equiv keys_total).refl k

pub history_at-insert : (h : Histories) (k : Key) (v : List Past) (q : Key) → history_at (insert h k v) q ≡ cond (eq_by_cmp key_cmp q k) v (history_at h q)
history_at-insert h k v q = ap (λ (o : Option (List Past)). unwrap_or o []) (get-insert keys_total h k v q) ∙ by (eq_by_cmp key_cmp q k)
  where
    by : (b : Bool) → unwrap_or (cond b (Some v) (get h q)) [] ≡ cond b v (unwrap_or (get h q) [])
    by true = refl
    by false = refl

after_none : (o : Option KeyedAct) (p : Part (List ℕ)) → is_some o ≡ false → part_after held o p ≡ p
after_none None p e = refl
after_none (Some c) p e = cc

module _ (pairs : Pairs) (h : Histories) (w : World (List ℕ)) (q : Asked) (t : ℕ)
    (in_force : pair_of (pairs_at pairs q.ask.key.account) (epoch_of (current_at pairs q.ask.key.account)) ≡ current_at pairs q.ask.key.account)
    (own : part_at w q.ask.key ≡ replayed_at pairs h q.ask.key) where
  abbrev key : Key
  key = q.ask.key

  abbrev keys : Option Keys
  keys = current_at pairs key.account

  abbrev before : List Past
  before = history_at h key

  -- the replay with the request's entry is the change
  one_more : change keys (part_at w key) q t ≡ replay (pairs_at pairs key.account) (before ++ entry_of pairs q t ∷ [])
  one_more =
      ap (λ (p : Part (List ℕ)). change keys p q t) own
      ∙ sym (ap (λ (k : Option Keys). change k (replayed_at pairs h key) q t) in_force)
      ∙ sym (replay_from-append (pairs_at pairs key.account) no_part before (entry_of pairs q t))

  by_own : (b : Bool) → is_some (change_now pairs h q t) ≡ b → change keys (part_at w key) q t ≡ replayed_at pairs (cond b (with_entry h (entry_of pairs q t)) h) key
  by_own true e =
      one_more
      ∙ ap (replay (pairs_at pairs key.account)) (sym (history_at-insert h key (before ++ entry_of pairs q t ∷ []) key ∙ ap (λ b. cond b (before ++ entry_of pairs q t ∷ []) (history_at h key)) (same_key key)))
  by_own false e = ap (λ (p : Part (List ℕ)). change keys p q t) own ∙ after_none (change_now pairs h q t) (replayed_at pairs h key) e

  -- the own container after the request
  effect_own : part_at (effect keys w q t) key ≡ replayed_at pairs (histories_after pairs h q t) key
  effect_own = part_at-effect byte_count held keys w q t ∙ by_own (is_some (change_now pairs h q t)) refl

  history_other : (k : Key) (b : Bool) → eq_by_cmp key_cmp k key ≡ false → history_at (cond b (with_entry h (entry_of pairs q t)) h) k ≡ history_at h k
  history_other k true e = history_at-insert h key (before ++ entry_of pairs q t ∷ []) k ∙ ap (λ b. cond b (before ++ entry_of pairs q t ∷ []) (history_at h k)) e
  history_other k false e = refl

  -- a container after the request, if the histories replay to it and to the request's container
  effect_replayed : (k : Key) → part_at w k ≡ replayed_at pairs h k → part_at (effect keys w q t) k ≡ replayed_at pairs (histories_after pairs h q t) k
  effect_replayed k there = by (eq_by_cmp key_cmp k key) refl
    where
      untied : eq_by_cmp key_cmp k key ≡ false → k ≡ key → ⊥
      untied e same = never (sym (same_key key) ∙ ap (λ (x : Key). eq_by_cmp key_cmp x key) (sym same) ∙ e)
        where
          never : true ≡ false → ⊥
          never f = cc

      by : (b : Bool) → eq_by_cmp key_cmp k key ≡ b → part_at (effect keys w q t) k ≡ replayed_at pairs (histories_after pairs h q t) k
      by true e = subst (λ (x : Key). part_at (effect keys w q t) x ≡ replayed_at pairs (histories_after pairs h q t) x) (sym (tied k key e)) effect_own
      by false e =
          part_at-effect_others byte_count held keys w q t k (untied e)
          ∙ there
          ∙ ap (replay (pairs_at pairs k.account)) (sym (history_other k (is_some (change_now pairs h q t)) e))

-- a list of containers leaves the histories
histories_after-listing : (pairs : Pairs) (h : Histories) (q : Asked) (t : ℕ) → names_container q.ask.op ≡ false → histories_after pairs h q t ≡ h
histories_after-listing pairs h q t e =
    ap (λ (c : Option KeyedAct). cond (is_some c) (with_entry h (entry_of pairs q t)) h)
    (lists_nothing (current_at pairs q.ask.key.account) (sizes (replayed_at pairs h q.ask.key)) q t e)

-- ---- lists with one element changed

map-set : {X Y : Type 0} (f : X → Y) (xs : List X) (i : ℕ) (x d : X) → f x ≡ f (slice_index_or xs i d) → map f (slice_set xs i x) ≡ map f xs
map-set f [] i x d e = refl
map-set f (y ∷ xs) zero x d e = λ i. e i ∷ map f xs
map-set f (y ∷ xs) (suc n) x d e = λ i. f y ∷ map-set f xs n x d e i

same_or_not : (n m : ℕ) → (n ≡ m) ⊎ (n ≢ m)
same_or_not n m = elim (cases_order n m) [
  | inl same ↦ inl same
  | inr apart ↦ inr (λ same. elim apart [ inl low ↦ omega (arith, low, same) | inr high ↦ omega (arith, high, same) ])
]

-- what holds of the new slot, and of every other slot, holds of each slot after the new one was put in its place
pub at_place : (slots : List SlotState) (i : ℕ) (new : SlotState) → i < length slots → (P : ℕ → SlotState → Type 0) → P i new → ((n : ℕ) → n ≢ i → P n (slice_index_or slots n no_slot))
    → (n : ℕ) → P n (slice_index_or (slice_set slots i new) n no_slot)
at_place slots i new within P own others n =
    elim (same_or_not n i) [
      | inl same ↦ subst (λ (m : ℕ). P m (slice_index_or (slice_set slots i new) m no_slot)) (sym same) (subst (P i) (sym (get_or-set_same slots i new no_slot within)) own)
      | inr other ↦ subst (P n) (sym (get_or-set_other slots i n new no_slot other)) (others n other)
    ]

-- ---- one request

module _ (c : CoreState) (s : State) (stands : StandsFor c s) (q : Asked) (t : ℕ) (r : Reply) (new : SlotState)
    (is : IsServed (slot_at c.slots c.points (routed q)) q t (bound_at c.points (routed q)) r new) where
  abbrev at : ℕ
  at = slot_of c.points (routed q)

  abbrev slot : SlotState
  slot = slot_at c.slots c.points (routed q)

  same_pairs : slot.pairs ≡ s.pairs
  same_pairs = stands.pairs (routed q)

  within : at < length c.slots
  within = omega (arith, stands.counted, slot_of-within c.points (routed q))

  abbrev after : World (List ℕ)
  after = effect (current_at s.pairs q.ask.key.account) s.world q t

  -- the container of a key, in the slot at the key's place
  abbrev IsPart : ℕ → SlotState → Type 0
  IsPart n held = (k : Key) → slot_of c.points k ≡ n → part_at after k ≡ replayed_at held.pairs held.histories k

  here : (k : Key) → slot_of c.points k ≡ at → part_at s.world k ≡ replayed_at slot.pairs slot.histories k
  here k same = stands.parts k ∙ ap (λ (n : ℕ). replayed_at (slice_index_or c.slots n no_slot).pairs (slice_index_or c.slots n no_slot).histories k) same

  force : pair_of (pairs_at slot.pairs q.ask.key.account) (epoch_of (current_at slot.pairs q.ask.key.account)) ≡ current_at slot.pairs q.ask.key.account
  force =
      subst (λ (ps : Pairs). pair_of (pairs_at ps q.ask.key.account) (epoch_of (current_at ps q.ask.key.account)) ≡ current_at ps q.ask.key.account) (sym same_pairs)
      (current_is s q.ask.key.account stands.sound)

  own_part : IsPart at new
  own_part k same = by (names_container q.ask.op) refl
    where
      by : (b : Bool) → names_container q.ask.op ≡ b → part_at after k ≡ replayed_at new.pairs new.histories k
      by true e =
          ap (λ (ps : Pairs). part_at (effect (current_at ps q.ask.key.account) s.world q t) k) (sym same_pairs)
          ∙ effect_replayed slot.pairs slot.histories s.world q t force (here q.ask.key (ap (slot_of c.points) (sym (routed_own q e)))) k (here k same)
          ∙ ap (λ (h : SlotState). replayed_at h.pairs h.histories k) (sym is.after)
      by false e =
          ap (λ (w : World (List ℕ)). part_at w k) (effect-listing (current_at s.pairs q.ask.key.account) s.world q t e)
          ∙ here k same
          ∙ ap (λ (h : Histories). replayed_at slot.pairs h k) (sym (histories_after-listing slot.pairs slot.histories q t e))
          ∙ ap (λ (h : SlotState). replayed_at h.pairs h.histories k) (sym is.after)

  other_parts : (n : ℕ) → n ≢ at → IsPart n (slice_index_or c.slots n no_slot)
  other_parts n other k same = left ∙ stands.parts k ∙ ap (λ (m : ℕ). replayed_at (slice_index_or c.slots m no_slot).pairs (slice_index_or c.slots m no_slot).histories k) same
    where
      by : (b : Bool) → names_container q.ask.op ≡ b → part_at after k ≡ part_at s.world k
      by true e = part_at-effect_others byte_count held (current_at s.pairs q.ask.key.account) s.world q t k (λ own. other (sym same ∙ ap (slot_of c.points) (own ∙ sym (routed_own q e))))
      by false e = ap (λ (w : World (List ℕ)). part_at w k) (effect-listing (current_at s.pairs q.ask.key.account) s.world q t e)

      left : part_at after k ≡ part_at s.world k
      left = by (names_container q.ask.op) refl

  abbrev HasPairs : ℕ → SlotState → Type 0
  HasPairs n held = (k : Key) → slot_of c.points k ≡ n → held.pairs ≡ s.pairs

  -- the core with the new slot stands for the state after the request
  pub stands_after : StandsFor (record c { slots = slice_set c.slots at new }) (served s q t)
  stands_after = record {
    points = stands.points;
    tickets = stands.tickets;
    counted = length-set c.slots at new ∙ stands.counted;
    doubts = stands.doubts ∙ sym (map-set (λ (h : SlotState). h.doubt) c.slots at new no_slot (ap (λ (h : SlotState). h.doubt) is.after));
    sound = same_but s (served s q t) refl refl refl stands.sound;
    pairs = λ k. at_place c.slots at new within HasPairs (λ k same. ap (λ (h : SlotState). h.pairs) is.after ∙ same_pairs) (λ n other k same. ap (λ (m : ℕ). (slice_index_or c.slots m no_slot).pairs) (sym same) ∙ stands.pairs k) (slot_of c.points k) k refl;
    parts = λ k. at_place c.slots at new within IsPart own_part other_parts (slot_of c.points k) k refl;
  }
