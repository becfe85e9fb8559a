-- A core in which a slot was split stands for the state after the split.
use Rattle.std.proofs.Common.{◌≡◌, ◌≤◌, ◌<◌, ◌+◌, ℕ, zero, suc, Bool, true, false, not, cond, List, [], ◌∷◌, Option, None, unwrap_or, refl, sym, ap, ◌∙◌, subst, arith, length, map}
use Rattle.std.specs.Prelude.{slice_get, slice_set, slice_index_or}
use Rattle.std.specs.FinMap.{get, get-retain_keys, retain_keys}
use Rattle.std.specs.Option.{option_and_then}
use Rattle.std.proofs.lemmas.List.{length-set}
use Rattle.std.proofs.lemmas.List.Edits.{length-insert}
use Rattle.stamp_values.specs.Order.{keys_exact}
use Rattle.stamp_values.specs.Trees.{is_below, is_from}
use Rattle.stamp_values.specs.declared.key.Key.{Key}
use Rattle.stamp_types.specs.declared.past.Past.{Past}
use Rattle.stamp_types.specs.World.{part_at}
use Rattle.stamp_model.specs.Histories.{replay}
use Rattle.partition_map.specs.Spans.{is_inside, points_limit, split_refusal, with_point, with_two}
use Rattle.partition_map.proofs.KeyOrder.{from_is_not_below}
use Rattle.partition_map.proofs.RefusalLemmas.{allowed_is}
use Rattle.partition_map.proofs.SplitLemmas.{split_at}
use Rattle.slot_state.specs.HistoryMaps.{Histories, history_at}
use Rattle.slot_state.specs.Pairs.{pairs_at}
use Rattle.slot_state.specs.Slots.{SlotState, lower_half, replayed_at, upper_half}
use Rattle.core_run.specs.Cores.{CoreState, StandsFor, no_slot, with_halves}
use Rattle.core_run.specs.States.{State, slot_doubt, split}
use Rattle.core_run.proofs.SoundLemmas.{inside_before, split_sound}

-- ---- lists with two elements in place of one

module _ {X Y : Type 0} (f : X → Y) where
  map-with_two : (xs : List X) (i : ℕ) (a b : X) → map f (with_two xs i a b) ≡ with_two (map f xs) i (f a) (f b)
  map-with_two [] i a b = refl
  map-with_two (x ∷ xs) zero a b = refl
  map-with_two (x ∷ xs) (suc i) a b = λ j. f x ∷ map-with_two xs i a b j

length-with_two : {X : Type 0} (xs : List X) (i : ℕ) (a b : X) → i < length xs → length (with_two xs i a b) ≡ length xs + 1
length-with_two xs i a b low =
    length-insert (slice_set xs i a) (suc i) b (omega (arith, low, length-set xs i a)) ∙ ap (λ (n : ℕ). n + 1) (length-set xs i a)

pub read-doubt : (slots : List SlotState) (i : ℕ) → option_and_then (λ o. o) (slice_get (map (λ (h : SlotState). h.doubt) slots) i) ≡ (slice_index_or slots i no_slot).doubt
read-doubt [] i = refl
read-doubt (h ∷ slots) zero = refl
read-doubt (h ∷ slots) (suc i) = read-doubt slots i

-- ---- halves

retained_by : {X : Type 0} (d : X) (o : Option X) (b : Bool) → b ≡ true → unwrap_or (cond b o None) d ≡ unwrap_or o d
retained_by d o true is = refl
retained_by d o false is = cc

-- a half has the history of each key that passes its test
half_history : (h : Histories) (p : Key → Bool) (k : Key) → p k ≡ true → history_at (retain_keys h p) k ≡ history_at h k
half_history h p k e =
    ap (λ (o : Option (List Past)). unwrap_or o []) (get-retain_keys h p k (λ x tie. ap p (sym (keys_exact k x tie)))) ∙ retained_by [] (get h k) (p k) e

module _ (c : CoreState) (s : State) (stands : StandsFor c s) (at : ℕ) (middle : Key) (allowed : split_refusal c.points at middle ≡ None) (calm : slot_doubt s at ≡ None) where
  abbrev old : SlotState
  old = slice_index_or c.slots at no_slot

  can : (at ≤ length c.points) × (is_inside c.points at middle ≡ true) × (length c.points < points_limit)
  can = (allowed_is c.points at middle).0 allowed

  low : at < length c.slots
  low = omega (arith, can.0, stands.counted)

  old_calm : old.doubt ≡ None
  old_calm = sym (read-doubt c.slots at) ∙ ap (λ (ds : List (Option Past)). option_and_then (λ o. o) (slice_get ds at)) (sym stands.doubts) ∙ calm

  pub stands_split : StandsFor (with_halves c at middle) (split s at middle)
  stands_split = record {
    points = ap (λ (ps : List Key). with_point ps at middle) stands.points;
    tickets = stands.tickets;
    counted = length-with_two c.slots at (lower_half old middle) (upper_half old middle) low ∙ ap (λ (n : ℕ). n + 1) (stands.counted ∙ sym (length-insert c.points at middle can.0));
    doubts =
        ap (λ (ds : List (Option Past)). with_two ds at None None) stands.doubts
        ∙ (λ i. with_two (map (λ (h : SlotState). h.doubt) c.slots) at (sym old_calm i) None)
        ∙ sym (map-with_two (λ (h : SlotState). h.doubt) c.slots at (lower_half old middle) (upper_half old middle));
    sound = split_sound s at middle (subst (λ (ps : List Key). split_refusal ps at middle ≡ None) (sym stands.points) allowed) stands.sound;
    pairs = λ k. split_at no_slot k middle (lower_half old middle) (upper_half old middle) (λ h. h.pairs ≡ s.pairs) c.points c.slots at can.0 (inside_before c.points at middle can.1) stands.counted (stands.pairs k)
        (λ here below. ap (λ (n : ℕ). (slice_index_or c.slots n no_slot).pairs) (sym here) ∙ stands.pairs k)
        (λ here above. ap (λ (n : ℕ). (slice_index_or c.slots n no_slot).pairs) (sym here) ∙ stands.pairs k);
    parts = λ k. split_at no_slot k middle (lower_half old middle) (upper_half old middle) (λ h. part_at s.world k ≡ replayed_at h.pairs h.histories k) c.points c.slots at can.0
        (inside_before c.points at middle can.1) stands.counted (stands.parts k)
        (λ here below. stands.parts k ∙ ap (λ (n : ℕ). replayed_at (slice_index_or c.slots n no_slot).pairs (slice_index_or c.slots n no_slot).histories k) here
        ∙ ap (replay (pairs_at old.pairs k.account)) (sym (half_history old.histories (is_below middle) k below)))
        (λ here above. stands.parts k ∙ ap (λ (n : ℕ). replayed_at (slice_index_or c.slots n no_slot).pairs (slice_index_or c.slots n no_slot).histories k) here
        ∙ ap (replay (pairs_at old.pairs k.account)) (sym (half_history old.histories (is_from middle) k (from_is_not_below middle k ∙ ap not above))));
  }
