-- A core in which one slot settled its doubt, or came in doubt, stands for the state after it.
use Rattle.std.proofs.Common.{zero, suc, ◌≡◌, ◌≢◌, ◌<◌, inl, inr, ℕ, Bool, true, false, cond, List, [], ◌∷◌, ◌++◌, Option, Some, None, refl, sym, ap, ◌∙◌, subst, arith, length, map}
use Rattle.std.specs.Prelude.{IsSome, slice_get, slice_index_or, slice_set}
use Rattle.std.specs.Option.{option_and_then}
use Rattle.std.specs.Ordering.{eq_by_cmp}
use Rattle.std.proofs.lemmas.List.{length-set}
use Rattle.stamp_values.specs.Operations.{names_container}
use Rattle.stamp_values.specs.Order.{key_cmp}
use Rattle.stamp_values.specs.declared.key.Key.{Key}
use Rattle.stamp_types.specs.declared.past.Past.{Past}
use Rattle.stamp_types.specs.Pieces.{held}
use Rattle.stamp_types.specs.Requests.{Asked}
use Rattle.stamp_types.specs.World.{Part, World, no_part, part_at}
use Rattle.access_rules.specs.declared.keys.Keys.{Keys}
use Rattle.range_rows.specs.SentContent.{byte_count, sizes}
use Rattle.stamp_model.specs.Effects.{accepted, change}
use Rattle.stamp_model.specs.Histories.{pair_of, replay}
use Rattle.stamp_model.specs.Runs.{world_after_one}
use Rattle.stamp_model.specs.SeenContainers.{routed}
use Rattle.stamp_model.proofs.EffectLemmas.{part_at-effect, part_at-effect_others}
use Rattle.stamp_model.proofs.HistoryLemmas.{replay_from-append}
use Rattle.partition_map.specs.Spans.{slot_of}
use Rattle.slot_state.specs.HistoryMaps.{history_at, with_entry}
use Rattle.slot_state.specs.Pairs.{Pairs, current_at, pairs_at}
use Rattle.slot_state.specs.Slots.{SlotState, change_now, entry_of, replayed_at}
use Rattle.stored_slot.specs.Served.{doubting}
use Rattle.stored_slot.specs.Settled as settles
use Rattle.core_run.specs.Cores.{CoreState, StandsFor, no_slot, slot_at}
use Rattle.core_run.specs.Machine.{SettlesDoubt, SettlesDoubtBy}
use Rattle.core_run.specs.Places.{IsSound}
use Rattle.core_run.specs.States.{State, change_in, slot_doubt, doubted, dropped, kept, slot_for, with_doubt}
use Rattle.core_run.proofs.ServedCores.{at_place, history_at-insert, same_key, tied}
use Rattle.core_run.proofs.SoundLemmas.{doubted_sound, lists_nothing, routed_own, settled_sound, slot_of-within}
use Rattle.core_run.proofs.SplitCores.{read-doubt}

-- the core in which the slot with this number became another one
abbrev pub with_slot : CoreState → ℕ → SlotState → CoreState
with_slot c i new = record c { slots = slice_set c.slots i new }

-- ---- lists with one element changed

module _ {X : Type 0} where
  pub set_same : (xs : List X) (i : ℕ) (d : X) → slice_set xs i (slice_index_or xs i d) ≡ xs
  set_same [] i d = refl
  set_same (x ∷ xs) zero d = refl
  set_same (x ∷ xs) (suc i) d = λ j. x ∷ set_same xs i d j

  pub set_twice : (xs : List X) (i : ℕ) (a b : X) → slice_set (slice_set xs i a) i b ≡ slice_set xs i b
  set_twice [] i a b = refl
  set_twice (x ∷ xs) zero a b = refl
  set_twice (x ∷ xs) (suc i) a b = λ j. x ∷ set_twice xs i a b j

set_mapped : (slots : List SlotState) (i : ℕ) (new : SlotState) → map (λ (h : SlotState). h.doubt) (slice_set slots i new) ≡ slice_set (map (λ (h : SlotState). h.doubt) slots) i new.doubt
set_mapped [] i new = refl
set_mapped (h ∷ slots) zero new = refl
set_mapped (h ∷ slots) (suc i) new = λ j. h.doubt ∷ set_mapped slots i new j

-- ---- one slot

module _ (c : CoreState) (s : State) (stands : StandsFor c s) (i : ℕ) (low : i < length c.slots) where
  abbrev slot : SlotState
  slot = slice_index_or c.slots i no_slot

  -- the doubt of the slot is the state's
  pub doubt_is : slot_doubt s i ≡ slot.doubt
  doubt_is = ap (λ (ds : List (Option Past)). option_and_then (λ o. o) (slice_get ds i)) stands.doubts ∙ read-doubt c.slots i

  -- the pairs and the containers of a slot that has a key
  pairs_there : (k : Key) (n : ℕ) → slot_of c.points k ≡ n → (slice_index_or c.slots n no_slot).pairs ≡ s.pairs
  pairs_there k n same = ap (λ (m : ℕ). (slice_index_or c.slots m no_slot).pairs) (sym same) ∙ stands.pairs k

  part_there : (k : Key) (n : ℕ) → slot_of c.points k ≡ n → part_at s.world k ≡ replayed_at (slice_index_or c.slots n no_slot).pairs (slice_index_or c.slots n no_slot).histories k
  part_there k n same = stands.parts k ∙ ap (λ (m : ℕ). replayed_at (slice_index_or c.slots m no_slot).pairs (slice_index_or c.slots m no_slot).histories k) same

  -- another slot with the same pairs is put in its place
  module _ (new : SlotState) (s' : State) (points : s'.points ≡ s.points) (tickets : s'.tickets ≡ s.tickets) (pairs : s'.pairs ≡ s.pairs) (same_pairs : new.pairs ≡ slot.pairs)
      (doubts : s'.doubts ≡ slice_set s.doubts i new.doubt) (sound : IsSound s')
      (own : (k : Key) → slot_of c.points k ≡ i → part_at s'.world k ≡ replayed_at slot.pairs new.histories k)
      (others : (k : Key) → slot_of c.points k ≢ i → part_at s'.world k ≡ part_at s.world k) where
    abbrev HasPairs : ℕ → SlotState → Type 0
    HasPairs n held = (k : Key) → slot_of c.points k ≡ n → held.pairs ≡ s'.pairs

    abbrev IsPart : ℕ → SlotState → Type 0
    IsPart n held = (k : Key) → slot_of c.points k ≡ n → part_at s'.world k ≡ replayed_at held.pairs held.histories k

    stands_with : StandsFor (with_slot c i new) s'
    stands_with = record {
      points = points ∙ stands.points;
      tickets = tickets ∙ stands.tickets;
      counted = length-set c.slots i new ∙ stands.counted;
      doubts = doubts ∙ ap (λ (ds : List (Option Past)). slice_set ds i new.doubt) stands.doubts ∙ sym (set_mapped c.slots i new);
      sound = sound;
      pairs = λ k. at_place c.slots i new low HasPairs (λ j same. same_pairs ∙ pairs_there j i same ∙ sym pairs) (λ n other j same. pairs_there j n same ∙ sym pairs) (slot_of c.points k) k refl;
      parts = λ k. at_place c.slots i new low IsPart (λ j same. own j same ∙ ap (λ (ps : Pairs). replayed_at ps new.histories j) (sym same_pairs))
          (λ n other j same. others j (λ there. other (sym same ∙ there)) ∙ part_there j n same) (slot_of c.points k) k refl;
    }

  -- ---- a doubt that ends

  module _ (e : Past) (some : slot.doubt ≡ Some e) where
    abbrev key : Key
    key = e.request.ask.key

    settled_by : (m : State) → SettlesDoubtBy (Some e) s i m → SettlesDoubt s i m
    settled_by m is = subst (λ (o : Option Past). SettlesDoubtBy o s i m) (sym (doubt_is ∙ some)) is

    stands_dropped : StandsFor (with_slot c i (settles.dropped slot)) (dropped s i)
    stands_dropped =
        stands_with (settles.dropped slot) (dropped s i) refl refl refl refl refl (settled_sound (Some e) s (dropped s i) i (inr refl) stands.sound) (λ k same. part_there k i same) (λ k other. refl)

    -- the container of the doubt is the slot's
    place : slot_of c.points key ≡ i
    place = ap (λ (ps : List Key). slot_of ps key) (sym stands.points) ∙ stands.sound.placed i e (doubt_is ∙ some)

    abbrev keys : Option Keys
    keys = pair_of (pairs_at s.pairs key.account) e.epoch

    abbrev after : World (List ℕ)
    after = world_after_one s.world (doubted s e)

    history_own : history_at (with_entry slot.histories e) key ≡ history_at slot.histories key ++ e ∷ []
    history_own =
        history_at-insert slot.histories key (history_at slot.histories key ++ e ∷ []) key
        ∙ ap (λ (b : Bool). cond b (history_at slot.histories key ++ e ∷ []) (history_at slot.histories key)) (same_key key)

    kept_own : part_at after key ≡ replayed_at slot.pairs (with_entry slot.histories e) key
    kept_own =
        part_at-effect byte_count held keys s.world e.request e.moment
        ∙ ap (λ (p : Part (List ℕ)). change keys p e.request e.moment) (part_there key i place)
        ∙ ap (λ (ps : Pairs). change (pair_of (pairs_at ps key.account) e.epoch) (replayed_at slot.pairs slot.histories key) e.request e.moment) (sym (pairs_there key i place))
        ∙ sym (replay_from-append (pairs_at slot.pairs key.account) no_part (history_at slot.histories key) e)
        ∙ ap (replay (pairs_at slot.pairs key.account)) (sym history_own)

    apart : (k : Key) → eq_by_cmp key_cmp k key ≡ false → k ≡ key → ⊥
    apart k e same = never (sym (same_key key) ∙ ap (λ (x : Key). eq_by_cmp key_cmp x key) (sym same) ∙ e)
      where
        never : true ≡ false → ⊥
        never f = cc

    kept_there : (k : Key) (b : Bool) → eq_by_cmp key_cmp k key ≡ b → slot_of c.points k ≡ i → part_at after k ≡ replayed_at slot.pairs (with_entry slot.histories e) k
    kept_there k true tie same = subst (λ (x : Key). part_at after x ≡ replayed_at slot.pairs (with_entry slot.histories e) x) (sym (tied k key tie)) kept_own
    kept_there k false tie same =
        part_at-effect_others byte_count held keys s.world e.request e.moment k (apart k tie)
        ∙ part_there k i same
        ∙ ap (replay (pairs_at slot.pairs k.account))
        (sym (history_at-insert slot.histories key (history_at slot.histories key ++ e ∷ []) k ∙ ap (λ (b : Bool). cond b (history_at slot.histories key ++ e ∷ []) (history_at slot.histories k)) tie))

    stands_kept : StandsFor (with_slot c i (settles.kept slot e)) (kept s i e)
    stands_kept =
        stands_with (settles.kept slot e) (kept s i e) refl refl refl refl refl (settled_sound (Some e) s (kept s i e) i (inl refl) stands.sound)
        (λ k same. kept_there k (eq_by_cmp key_cmp k key) refl same)
        (λ k other. part_at-effect_others byte_count held keys s.world e.request e.moment k (λ own. other (ap (slot_of c.points) own ∙ place)))

  -- a slot that stays
  pub stands_same : (new : SlotState) → new ≡ slot → StandsFor (with_slot c i new) s
  stands_same new is = subst (λ (hs : List SlotState). StandsFor (record c { slots = hs }) s) (sym (ap (slice_set c.slots i) is ∙ set_same c.slots i no_slot)) stands

  -- the slot settled its doubt, and so does the state
  pub settled_core : (new : SlotState) → settles.SettlesSlot slot new → (m : State) × (SettlesDoubt s i m × StandsFor (with_slot c i new) m)
  settled_core new is = by slot.doubt refl is
    where
      by : (o : Option Past) → slot.doubt ≡ o → settles.SettlesDoubtBy o slot new → (m : State) × (SettlesDoubt s i m × StandsFor (with_slot c i new) m)
      by None none is = (s, (subst (λ (o : Option Past). SettlesDoubtBy o s i s) (sym (doubt_is ∙ none)) refl, stands_same new is))
      by (Some e) some (inl is) = (kept s i e, (settled_by e some (kept s i e) (inl refl), subst (λ (h : SlotState). StandsFor (with_slot c i h) (kept s i e)) (sym is) (stands_kept e some)))
      by (Some e) some (inr is) = (dropped s i, (settled_by e some (dropped s i) (inr refl), subst (λ (h : SlotState). StandsFor (with_slot c i h) (dropped s i)) (sym is) (stands_dropped e some)))

-- ---- a request whose change is in doubt

module _ (c : CoreState) (s : State) (stands : StandsFor c s) (q : Asked) (t : ℕ) where
  abbrev at : ℕ
  at = slot_of c.points (routed q)

  abbrev here : SlotState
  here = slot_at c.slots c.points (routed q)

  pub within : at < length c.slots
  within = omega (arith, stands.counted, slot_of-within c.points (routed q))

  never_some : {X : Type 0} (o : Option X) → o ≡ None → IsSome o → ⊥
  never_some None is some = cc
  never_some (Some x) is some = cc

  -- the change is the state's
  pub some_change : IsSome (change_now here.pairs here.histories q t) → IsSome (change_in s q t)
  some_change some = by (names_container q.ask.op) refl
    where
      by : (b : Bool) → names_container q.ask.op ≡ b → IsSome (change_in s q t)
      by false e = absurd (never_some (change_now here.pairs here.histories q t) (lists_nothing (current_at here.pairs q.ask.key.account) (sizes (replayed_at here.pairs here.histories q.ask.key)) q t e) some)
      by true e =
          let part = part_there c s stands at within q.ask.key at (ap (slot_of c.points) (sym (routed_own q e))) in
          subst (λ (p : Part (List ℕ)). IsSome (accepted (current_at s.pairs q.ask.key.account) (sizes p) q t)) (sym part)
          (subst (λ (ps : Pairs). IsSome (accepted (current_at ps q.ask.key.account) (sizes (replayed_at here.pairs here.histories q.ask.key)) q t)) (stands.pairs (routed q)) some)

  pub same_place : slot_for s q ≡ at
  same_place = ap (λ (ps : List Key). slot_of ps (routed q)) stands.points

  pub stands_doubting : IsSome (change_now here.pairs here.histories q t) → StandsFor (with_slot c at (doubting here q t)) (with_doubt s (slot_for s q) (entry_of s.pairs q t))
  stands_doubting some =
      stands_with c s stands at within (doubting here q t) (with_doubt s (slot_for s q) (entry_of s.pairs q t)) refl refl refl refl
      ((λ j. slice_set s.doubts (same_place j) (Some (entry_of (sym (stands.pairs (routed q)) j) q t)))) (doubted_sound s q t (some_change some) stands.sound)
      (λ k same. part_there c s stands at within k at same) (λ k other. refl)
