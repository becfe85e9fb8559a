-- Rotations of a core, as steps of the machine.
use Rattle.std.proofs.Common.{◌≡◌, ◌⊎◌, ◌≤◌, ◌<◌, ◌+◌, arith, inl, inr, ℕ, zero, suc, Bool, List, [], ◌∷◌, Option, Some, None, refl, sym, ap, ◌∙◌, subst, length, map, Ok, Err}
use Rattle.std.specs.Prelude.{IsSome, is_some, slice_index_or, slice_set}
use Rattle.std.proofs.lemmas.Bool.{cases_order}
use Rattle.std.proofs.lemmas.List.{length-map}
use Rattle.stamp_values.specs.declared.key.Key.{Key}
use Rattle.stamp_types.specs.declared.past.Past.{Past}
use Rattle.stamp_types.specs.World.{part_at}
use Rattle.access_rules.specs.declared.keys.Keys.{Keys}
use Rattle.access_rules.specs.declared.rotation.Which.{Which}
use Rattle.access_rules.specs.Rotation.{epoch_after, rotated}
use Rattle.partition_map.specs.Spans.{least_key, slot_of}
use Rattle.slot_state.specs.NextPairs as next
use Rattle.slot_state.specs.NextPairs.{AreFront, HasNextPair, ReplaysBy, with_next, with_pairs}
use Rattle.slot_state.specs.Pairs.{Pairs, current_at}
use Rattle.slot_state.specs.Slots.{SlotState, replayed_at}
use Rattle.slot_state.specs.declared.rotate_fault.RotateFault.{RotateFault}
use Rattle.slot_state.specs.declared.rotate_fault.RotateFault.TheVariants as cause
use Rattle.slot_state.proofs.NextLemmas.{next_are_longer}
use Rattle.slot_state.proofs.RotationLemmas.{next_is}
use Rattle.core_run.specs.Cores.{CoreState, StandsFor, no_slot, slot_at}
use Rattle.core_run.specs.Machine.{Answer, RotatesBy, Takes}
use Rattle.core_run.specs.States.{State, with_pair}
use Rattle.core_run.specs.declared.step.Step.TheVariants as step
use Rattle.core_run.specs.declared.step.Outcome.TheVariants as outcome
use Rattle.core_run.specs.declared.step.StepFault.{StepFault}
use Rattle.core_run.specs.declared.step.StepFault.TheVariants as fault
use Rattle.core_run.proofs.SoundLemmas.{rotated_sound, slot_of-within}
use Rattle.stamp_core.specs.Ranges.{HaveSpans, Range, range_of, ranges_from}
use Rattle.stamp_core.specs.Rotations.{BeginPairs, HaveCaughtUp, IsRotated, TellsNoNextPair, map_from, pairs_of_all, told}
use Rattle.stamp_core.proofs.RangeLemmas.{counted, shared_pairs}
use Rattle.stamp_core.proofs.ServeLemmas.{get_any}

-- ---- lists

module _ {X : Type 0} (f : X → X) where
  map_from-none : (n : ℕ) (xs : List X) → length xs ≤ n → map_from f n xs ≡ xs
  map_from-none zero [] low = refl
  map_from-none zero (x ∷ xs) low = absurd (omega (arith, low))
  map_from-none (suc n) [] low = refl
  map_from-none (suc n) (x ∷ xs) low = λ j. x ∷ map_from-none n xs (omega (arith, low)) j

  read-map_from : (n : ℕ) (xs : List X) (d : X) → slice_index_or (map_from f (suc n) xs) n d ≡ slice_index_or xs n d
  read-map_from n [] d = refl
  read-map_from zero (x ∷ xs) d = refl
  read-map_from (suc n) (x ∷ xs) d = read-map_from n xs d

  set-map_from : (n : ℕ) (xs : List X) (d : X) → slice_set (map_from f (suc n) xs) n (f (slice_index_or xs n d)) ≡ map_from f n xs
  set-map_from zero [] d = refl
  set-map_from (suc n) [] d = refl
  set-map_from zero (x ∷ xs) d = refl
  set-map_from (suc n) (x ∷ xs) d = λ j. x ∷ set-map_from n xs d j

  length-map_from : (n : ℕ) (xs : List X) → length (map_from f n xs) ≡ length xs
  length-map_from zero xs = length-map xs f
  length-map_from (suc n) [] = refl
  length-map_from (suc n) (x ∷ xs) = ap suc (length-map_from n xs)

  read-mapped : (xs : List X) (i : ℕ) (d : X) → i < length xs → slice_index_or (map f xs) i d ≡ f (slice_index_or xs i d)
  read-mapped [] i d low = absurd (omega (arith, low))
  read-mapped (x ∷ xs) zero d low = refl
  read-mapped (x ∷ xs) (suc i) d low = read-mapped xs i d (omega (arith, low))

-- ---- slots that take longer pairs

module _ (slots : List SlotState) (pairs : Pairs) where
  next_number : (at : ℕ) → at + 1 ≡ suc at
  next_number at = omega arith

  -- no slot has the number or a later one
  pub none_left : (new : List SlotState) (at : ℕ) → length slots ≤ at → new ≡ slots → HaveCaughtUp slots at pairs new
  none_left new at over same = (same ∙ sym (map_from-none (with_pairs pairs) at slots over), λ i high low. absurd (omega (arith, over, high, low)))

  module _ (later : List SlotState) (at : ℕ) (done : HaveCaughtUp slots (at + 1) pairs later) (low : at < length slots) where
    later_is : later ≡ map_from (with_pairs pairs) (suc at) slots
    later_is = done.0 ∙ ap (λ (n : ℕ). map_from (with_pairs pairs) n slots) (next_number at)

    pub still_within : at < length later
    still_within = omega (arith, low, ap length later_is, length-map_from (with_pairs pairs) (suc at) slots)

    module _ (old d : SlotState) (was : old ≡ slice_index_or later at d) where
      -- the slot of this number is as it was
      its_own : old ≡ slice_index_or slots at no_slot
      its_own = was ∙ ap (λ (hs : List SlotState). slice_index_or hs at d) later_is ∙ read-map_from (with_pairs pairs) at slots d ∙ get_any slots at d no_slot low

      pub may_take : (own : Pairs) → own ≡ pairs → BeginPairs slots pairs → AreFront old.pairs own
      may_take own same begins = subst (AreFront old.pairs) (sym same) (subst (λ (h : SlotState). AreFront h.pairs pairs) (sym its_own) (begins at low))

      pub one_more : (own : Pairs) (new : SlotState) → own ≡ pairs → new ≡ with_pairs own old → ReplaysBy own old → HaveCaughtUp slots at pairs (slice_set later at new)
      one_more own new same is replays = (
        (λ i. slice_set (later_is i) at ((is ∙ (λ j. with_pairs (same j) (its_own j))) i)) ∙ set-map_from (with_pairs pairs) at slots no_slot,
        λ i high within. by i within (earlier i high (cases_order at i)),
      )
        where
          here : ReplaysBy pairs (slice_index_or slots at no_slot)
          here = subst (λ (h : SlotState). ReplaysBy pairs h) its_own (subst (λ (ps : Pairs). ReplaysBy ps old) same replays)

          earlier : (i : ℕ) → at ≤ i → (at ≡ i) ⊎ ((at < i) ⊎ (i < at)) → (at ≡ i) ⊎ (at + 1 ≤ i)
          earlier i high (inl same) = inl same
          earlier i high (inr (inl after)) = inr (omega (arith, after))
          earlier i high (inr (inr before)) = absurd (omega (arith, high, before))

          by : (i : ℕ) → i < length slots → (at ≡ i) ⊎ (at + 1 ≤ i) → ReplaysBy pairs (slice_index_or slots i no_slot)
          by i within (inl same) = subst (λ (n : ℕ). ReplaysBy pairs (slice_index_or slots n no_slot)) same here
          by i within (inr after) = done.1 i after within

-- ---- slots that share longer pairs

abbrev with_range : Pairs → Range → Range
with_range pairs r = (r.0, (r.1.0, pairs))

mapped_ranges : (pairs : Pairs) (slots : List SlotState) → map range_of (map (with_pairs pairs) slots) ≡ map (with_range pairs) (map range_of slots)
mapped_ranges pairs [] = refl
mapped_ranges pairs (h ∷ slots) = λ i. with_range pairs (range_of h) ∷ mapped_ranges pairs slots i

ranges_with : (old pairs : Pairs) (first : Key) (points : List Key) → map (with_range pairs) (ranges_from old first points) ≡ ranges_from pairs first points
ranges_with old pairs first [] = refl
ranges_with old pairs first (p ∷ points) = λ i. (first, (Some p, pairs)) ∷ ranges_with old pairs p points i

mapped_doubts : (pairs : Pairs) (slots : List SlotState) → map (λ (h : SlotState). h.doubt) (map (with_pairs pairs) slots) ≡ map (λ (h : SlotState). h.doubt) slots
mapped_doubts pairs [] = refl
mapped_doubts pairs (h ∷ slots) = λ i. h.doubt ∷ mapped_doubts pairs slots i

-- why no pair was made, as a step tells it
pub not_made : (pairs : Pairs) (account : List ℕ) (c : RotateFault) (f : StepFault) → f ≡ told c → next.HasNoNextPair pairs account c → TellsNoNextPair pairs account f
not_made pairs account c f is none = (c, (is, none))

module _ (slots : List SlotState) (points : List Key) (have : HaveSpans slots points) where
  pub some_slot : 0 < length slots
  some_slot = omega (arith, counted slots points have)

  -- all slots have the pairs of the first one
  same_as_first : (i : ℕ) → i < length slots → (slice_index_or slots i no_slot).pairs ≡ pairs_of_all slots
  same_as_first i low = shared_pairs slots points have i (omega (arith, low, counted slots points have)) ∙ sym (shared_pairs slots points have 0 (omega arith))

  -- the pairs of the first slot are lent, and read
  pub first_are : (own shared : Pairs) (first d : SlotState) → first ≡ slice_index_or slots 0 d → shared ≡ first.pairs → own ≡ shared → own ≡ pairs_of_all slots
  first_are own shared first d was lent read = read ∙ lent ∙ ap (λ (h : SlotState). h.pairs) (was ∙ get_any slots 0 d no_slot some_slot)

  module _ (longer : Pairs) where
    pub begin_pairs : (account : List ℕ) (which : Which) (key : List ℕ) (n : ℕ) → HasNextPair (pairs_of_all slots) account which key n longer → BeginPairs slots longer
    begin_pairs account which key n made i low =
        subst (λ (ps : Pairs). AreFront ps longer) (sym (same_as_first i low))
        (subst (AreFront (pairs_of_all slots)) (sym made.1.1.1) (next_are_longer (pairs_of_all slots) account _ (next_is (pairs_of_all slots) account which key made.0 made.1.0)))

    pub spans_caught_up : (slots' : List SlotState) → HaveCaughtUp slots 0 longer slots' → HaveSpans slots' points
    spans_caught_up slots' done = (
      longer,
      ap (map range_of) done.0 ∙ mapped_ranges longer slots ∙ ap (map (with_range longer)) have.1 ∙ ranges_with have.0 longer least_key points,
    )

-- memory can run out after the next pair of an account was made
pub made_then_none : (pairs longer : Pairs) (account : List ℕ) (which : Which) (key : List ℕ) (n : ℕ) → HasNextPair pairs account which key n longer → TellsNoNextPair pairs account fault.NoMemory
made_then_none pairs longer account which key n made = (cause.NoMemory, (refl, ap (λ (o : Option Keys). is_some o) made.1.0))

-- ---- steps of the machine

module _ (c : CoreState) (have : HaveSpans c.slots c.points) (s : State) (stands : StandsFor c s) (account : List ℕ) (which : Which) (key : List ℕ) (b : Bool) (slots : List SlotState) where
  abbrev pairs : Pairs
  pairs = pairs_of_all c.slots

  low_slot : (k : Key) → slot_of c.points k < length c.slots
  low_slot k = omega (arith, slot_of-within c.points k, stands.counted)

  -- the pairs of the slots are the state's
  pairs_are : pairs ≡ s.pairs
  pairs_are = sym (same_as_first c.slots c.points have (slot_of c.points least_key) (low_slot least_key)) ∙ stands.pairs least_key

  current_is : current_at s.pairs account ≡ current_at pairs account
  current_is = ap (λ (ps : Pairs). current_at ps account) (sym pairs_are)

  abbrev Steps : Answer → Type 0
  Steps r = (s' : State) × (Takes s (step.Rotate account which key) b r s' × StandsFor (record { slots = slots; points = c.points; tickets = c.tickets }) s')

  takes : (r : Answer) (s' : State) (o : Option Keys) → current_at pairs account ≡ o → RotatesBy o s account which key r s' → Takes s (step.Rotate account which key) b r s'
  takes r s' o there by = subst (λ (x : Option Keys). RotatesBy x s account which key r s') (sym (current_is ∙ there)) by

  unchanged : slots ≡ c.slots → StandsFor (record { slots = slots; points = c.points; tickets = c.tickets }) s
  unchanged same = subst (λ (hs : List SlotState). StandsFor (record { slots = hs; points = c.points; tickets = c.tickets }) s) (sym same) stands

  module _ (longer : Pairs) (old : Keys) (there : current_at pairs account ≡ Some old) (is : longer ≡ with_next pairs account (rotated old which key (epoch_after old.epoch))) (done : HaveCaughtUp c.slots 0 longer slots) where
    abbrev after : State
    after = with_pair s account (rotated old which key (epoch_after old.epoch))

    longer_is : longer ≡ after.pairs
    longer_is = is ∙ ap (λ (ps : Pairs). with_next ps account (rotated old which key (epoch_after old.epoch))) pairs_are

    slot_is : (k : Key) → slot_at slots c.points k ≡ with_pairs longer (slot_at c.slots c.points k)
    slot_is k =
        ap (λ (hs : List SlotState). slice_index_or hs (slot_of c.points k) no_slot) done.0
        ∙ read-mapped (with_pairs longer) c.slots (slot_of c.points k) no_slot (low_slot k)

    stands_after : StandsFor (record { slots = slots; points = c.points; tickets = c.tickets }) after
    stands_after = record {
      points = stands.points;
      tickets = stands.tickets;
      counted = ap length done.0 ∙ length-map c.slots (with_pairs longer) ∙ stands.counted;
      doubts = stands.doubts ∙ sym (ap (map (λ (h : SlotState). h.doubt)) done.0 ∙ mapped_doubts longer c.slots);
      sound = rotated_sound s account which key old (current_is ∙ there) stands.sound;
      pairs = λ k. ap (λ (h : SlotState). h.pairs) (slot_is k) ∙ longer_is;
      parts = λ k.
          stands.parts k
          ∙ sym (done.1 (slot_of c.points k) (omega arith) (low_slot k) k)
          ∙ ap (λ (h : SlotState). replayed_at h.pairs h.histories k) (sym (slot_is k));
    }

  no_memory : (o : Option Keys) → IsSome o → RotatesBy o s account which key (Err fault.NoMemory) s
  no_memory None some = absurd cc
  no_memory (Some old) some = inr (inr (refl, refl))

  fails_by : (why : RotateFault) → next.HasNoNextPair pairs account why → slots ≡ c.slots → Steps (Err (told why))
  fails_by cause.NoAccount none same = (s, (takes (Err fault.NoAccount) s None none (refl, refl), unchanged same))
  fails_by cause.Last last same = (s, (takes (Err fault.Last) s (Some last.0) last.1.0 (inr (inl (last.1.1, (refl, refl)))), unchanged same))
  fails_by cause.NoMemory some same = (s, (takes (Err fault.NoMemory) s (current_at pairs account) refl (no_memory (current_at pairs account) some), unchanged same))

  fails : (f : StepFault) → TellsNoNextPair pairs account f → slots ≡ c.slots → Steps (Err f)
  fails f none same = subst (λ (f : StepFault). Steps (Err f)) (sym none.1.0) (fails_by none.0 none.1.1 same)

  rotate_step : (r : Answer) → IsRotated c.slots account which key r slots → Steps r
  rotate_step (Ok (outcome.Epoch n)) is =
      let made = is.1.0 in (
        after is.0 made.0 made.1.0 made.1.1.1 is.1.1,
        (
          takes (Ok (outcome.Epoch n)) (after is.0 made.0 made.1.0 made.1.1.1 is.1.1) (Some made.0) made.1.0 (inl (ap (λ (m : ℕ). Ok (outcome.Epoch m)) made.1.1.0, refl)),
          stands_after is.0 made.0 made.1.0 made.1.1.1 is.1.1,
        ),
      )
  rotate_step (Err f) is = fails f is.0 is.1
  rotate_step other is = absurd is

-- the step, from the core that contracts see
pub rotate_at_core : (c seen : CoreState) → c ≡ seen → HaveSpans c.slots c.points → (account : List ℕ) (which : Which) (key : List ℕ) (r : Answer) (slots : List SlotState) → IsRotated c.slots account which key r slots
    → (s : State) (b : Bool) → StandsFor seen s
    → (s' : State) × (Takes s (step.Rotate account which key) b r s' × StandsFor (record { slots = slots; points = c.points; tickets = c.tickets }) s')
rotate_at_core c seen same have account which key r slots is s b stands =
    rotate_step c have s (subst (λ (x : CoreState). StandsFor x s) (sym same) stands) account which key b slots r is
