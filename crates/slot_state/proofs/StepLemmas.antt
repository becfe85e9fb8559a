-- What the histories of a slot replay to after a request.
use Rattle.std.proofs.Common.{◌≡◌, ℕ, Bool, true, false, cond, List, [], ◌∷◌, ◌++◌, Option, Some, None, is_some, unwrap_or, refl, sym, ap, ◌∙◌, subst}
use Rattle.std.specs.FinMap.{get, insert, get-insert}
use Rattle.std.specs.Cmp.{eq_by_cmp_equiv}
use Rattle.std.specs.Ordering.{eq_by_cmp}
use Rattle.stamp_values.specs.Order.{key_cmp, keys_total}
use Rattle.stamp_values.specs.declared.key.Key.{Key}
use Rattle.stamp_types.specs.declared.past.Past.{Past}
use Rattle.stamp_types.specs.Changes.{KeyedAct}
use Rattle.stamp_types.specs.Pieces.{held}
use Rattle.stamp_types.specs.Requests.{Asked}
use Rattle.stamp_types.specs.World.{Part, World, no_part, part_at}
use Rattle.access_rules.specs.declared.keys.Keys.{Keys}
use Rattle.range_rows.specs.SentContent.{byte_count, sizes}
use Rattle.range_rows.specs.RequestChanges.{part_after}
use Rattle.stamp_model.specs.Effects.{accepted, change, effect}
use Rattle.stamp_model.specs.Histories.{replay}
use Rattle.stamp_model.proofs.EffectLemmas.{part_at-effect, part_at-effect_others}
use Rattle.stamp_model.proofs.HistoryLemmas.{replay_from-append}
use Rattle.slot_state.specs.HistoryMaps.{Histories, history_at, with_entry}
use Rattle.slot_state.specs.Pairs.{AreNumbered, Pairs, current_at, pairs_at}
use Rattle.slot_state.specs.Slots.{SlotState, change_now, entry_of, replayed_at, slot_after}
use Rattle.slot_state.proofs.MapLemmas.{tied}
use Rattle.slot_state.proofs.PairLemmas.{pair_of-current}

untied : (k j : Key) → eq_by_cmp key_cmp k j ≡ false → k ≡ j → ⊥
untied k j e same = let never : true ≡ false = sym ((eq_by_cmp_equiv keys_total).refl j) ∙ ap (λ (x : Key). eq_by_cmp key_cmp x j) (sym same) ∙ e in cc

read_by : {X : Type 0} (d v : X) (o : Option X) (b : Bool) → unwrap_or (cond b (Some v) o) d ≡ cond b v (unwrap_or o d)
read_by d v o true = refl
read_by d v o false = refl

pub history_at-insert : (h : Histories) (k : Key) (v : List Past) (q : Key) → history_at (insert h k v) q ≡ cond (eq_by_cmp key_cmp q k) v (history_at h q)
history_at-insert h k v q = ap (λ (o : Option (List Past)). unwrap_or o []) (get-insert keys_total h k v q) ∙ read_by [] v (get h q) (eq_by_cmp key_cmp q k)

-- ---- a request that changes nothing

after_none : (o : Option KeyedAct) (p : Part (List ℕ)) → is_some o ≡ false → part_after held o p ≡ p
after_none None p e = refl
after_none (Some c) p e = cc

-- ---- a request on a container

module _ (pairs : Pairs) (h : Histories) (w : World (List ℕ)) (q : Asked) (t : ℕ) (numbered : AreNumbered pairs)
    (own : part_at w q.ask.key ≡ replay (pairs_at pairs q.ask.key.account) (history_at h q.ask.key)) where
  abbrev key : Key
  key = q.ask.key

  abbrev keys : Option Keys
  keys = current_at pairs key.account

  abbrev before : List Past
  before = history_at h key

  abbrev found : Option KeyedAct
  found = accepted keys (sizes (replay (pairs_at pairs key.account) before)) q t

  -- the replay with the request's entry is the change
  one_more : change keys (part_at w key) q t ≡ replay (pairs_at pairs key.account) (before ++ entry_of pairs q t ∷ [])
  one_more =
      ap (λ (p : Part (List ℕ)). change keys p q t) own
      ∙ sym (ap (λ (k : Option Keys). change k (replay (pairs_at pairs key.account) before) q t) (pair_of-current pairs key.account numbered))
      ∙ sym (replay_from-append (pairs_at pairs key.account) no_part before (entry_of pairs q t))

  -- without a change the container stays
  unchanged : is_some found ≡ false → change keys (part_at w key) q t ≡ replay (pairs_at pairs key.account) before
  unchanged none = ap (λ (p : Part (List ℕ)). change keys p q t) own ∙ after_none found (replay (pairs_at pairs key.account) before) none

  by_own : (b : Bool) → is_some found ≡ b → change keys (part_at w key) q t ≡ replay (pairs_at pairs key.account) (history_at (cond b (with_entry h (entry_of pairs q t)) h) key)
  by_own true e =
      one_more
      ∙ ap (replay (pairs_at pairs key.account)) (sym (history_at-insert h key (before ++ entry_of pairs q t ∷ []) key ∙ ap (λ b. cond b (before ++ entry_of pairs q t ∷ []) (history_at h key)) ((eq_by_cmp_equiv keys_total).refl key)))
  by_own false e = unchanged e

  -- the own container after the request
  pub effect-own : part_at (effect keys w q t) key ≡ replay (pairs_at pairs key.account) (history_at (cond (is_some found) (with_entry h (entry_of pairs q t)) h) key)
  effect-own = part_at-effect byte_count held keys w q t ∙ by_own (is_some found) refl

history_other : (h : Histories) (q : Key) (v : List Past) (k : Key) (b c : Bool) → eq_by_cmp key_cmp k q ≡ false → history_at (cond b (insert h q v) h) k ≡ history_at h k
history_other h q v k true c e = history_at-insert h q v k ∙ ap (λ b. cond b v (history_at h k)) e
history_other h q v k false c e = refl

-- a container after a request on any container, if the slot's histories replay to both
pub effect_replayed : (s : SlotState) (w : World (List ℕ)) (q : Asked) (t : ℕ) → AreNumbered s.pairs → part_at w q.ask.key ≡ replayed_at s.pairs s.histories q.ask.key
    → (k : Key) → part_at w k ≡ replayed_at s.pairs s.histories k → part_at (effect (current_at s.pairs q.ask.key.account) w q t) k ≡ replayed_at s.pairs (slot_after s q t).histories k
effect_replayed s w q t numbered own k there = by (eq_by_cmp key_cmp k q.ask.key) refl
  where
    by : (b : Bool) → eq_by_cmp key_cmp k q.ask.key ≡ b → part_at (effect (current_at s.pairs q.ask.key.account) w q t) k ≡ replayed_at s.pairs (slot_after s q t).histories k
    by true e =
        subst (λ (x : Key). part_at (effect (current_at s.pairs q.ask.key.account) w q t) x ≡ replayed_at s.pairs (slot_after s q t).histories x) (sym (tied k q.ask.key e))
        (effect-own s.pairs s.histories w q t numbered own)
    by false e =
        part_at-effect_others byte_count held (current_at s.pairs q.ask.key.account) w q t k (untied k q.ask.key e)
        ∙ there
        ∙ ap (replay (pairs_at s.pairs k.account)) (sym (history_other s.histories q.ask.key (history_at s.histories q.ask.key ++ entry_of s.pairs q t ∷ []) k (is_some (change_now s.pairs s.histories q t)) true e))
