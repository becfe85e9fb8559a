-- The ranges of slots.
use Rattle.std.proofs.Common.{◌≡◌, ◌≤◌, ◌<◌, ◌+◌, ◌&&◌, inl, inr, ℕ, zero, suc, Bool, true, List, [], ◌∷◌, Option, Some, None, refl, sym, ap, ◌∙◌, subst, arith, length, map}
use Rattle.std.specs.Prelude.{slice_get, slice_set, slice_index_or}
use Rattle.std.specs.FinMap as finite
use Rattle.std.specs.List.{insert}
use Rattle.std.proofs.lemmas.List.{length-map}
use Rattle.stamp_values.specs.Trees.{is_below, is_from}
use Rattle.stamp_values.specs.declared.key.Key.{Key}
use Rattle.stamp_types.specs.declared.past.Past.{Past}
use Rattle.stamp_model.specs.SeenContainers.{is_under}
use Rattle.partition_map.specs.Spans.{bound_at, bound_of, first_key, least_key, slot_of, split_refusal, with_point, with_two}
use Rattle.partition_map.proofs.OneSpan.{own_span}
use Rattle.partition_map.proofs.RefusalLemmas.{allowed_is}
use Rattle.stored_rows.specs.Ranges.{all_keys}
use Rattle.stored_rows.specs.States.{Stored}
use Rattle.stored_rows.specs.declared.key_range.KeyRange.{KeyRange}
use Rattle.slot_state.specs.Pairs.{Pairs}
use Rattle.slot_state.specs.Slots as slots_of
use Rattle.slot_state.specs.Slots.{SlotState, empty_slot, lower_half, upper_half}
use Rattle.stored_slot.specs.Meanings.{slot_with}
use Rattle.stored_slot.specs.Settled.{SettlesSlot, SettlesDoubtBy}
use Rattle.core_run.specs.Cores.{no_slot, slot_at}
use Rattle.core_run.proofs.CoreLemmas.{same_bound}
use Rattle.core_run.proofs.SoundLemmas.{slot_of-within}
use Rattle.stamp_core.specs.CoreSteps.{slots_split}
use Rattle.stamp_core.specs.Ranges.{HaveSpans, Range, range_of, ranges_from}

-- ---- a slot of all keys

abbrev slot_of_range : Pairs → KeyRange → SlotState
slot_of_range pairs r = record { histories = finite.empty; pairs = pairs; from = r.from; to = r.to; doubt = None }

pub slot_of_all : (pairs : Pairs) (rows : Stored) → rows.range ≡ all_keys → slot_with pairs finite.empty rows None ≡ empty_slot pairs
slot_of_all pairs rows whole = ap (λ (r : KeyRange). slot_of_range pairs r) whole

-- ---- lists

module _ {X Y : Type 0} (f : X → Y) where
  map-set : (xs : List X) (i : ℕ) (x d : X) → f x ≡ f (slice_index_or xs i d) → map f (slice_set xs i x) ≡ map f xs
  map-set [] i x d e = refl
  map-set (y ∷ xs) zero x d e = λ i. e i ∷ map f xs
  map-set (y ∷ xs) (suc n) x d e = λ i. f y ∷ map-set xs n x d e i

  map-with_two : (xs : List X) (i : ℕ) (a b : X) → map f (with_two xs i a b) ≡ with_two (map f xs) i (f a) (f b)
  map-with_two [] i a b = refl
  map-with_two (x ∷ xs) zero a b = refl
  map-with_two (x ∷ xs) (suc i) a b = λ j. f x ∷ map-with_two xs i a b j

  read-map : (xs : List X) (i : ℕ) (d : X) → slice_index_or (map f xs) i (f d) ≡ f (slice_index_or xs i d)
  read-map [] i d = refl
  read-map (x ∷ xs) zero d = refl
  read-map (x ∷ xs) (suc i) d = read-map xs i d

-- ---- ranges between split points

module _ (pairs : Pairs) where
  length-ranges : (first : Key) (points : List Key) → length (ranges_from pairs first points) ≡ length points + 1
  length-ranges first [] = refl
  length-ranges first (p ∷ points) = omega (arith, length-ranges p points)

  range_at : (first : Key) (points : List Key) (i : ℕ) (d : Range) (e : Key) → i ≤ length points
      → slice_index_or (ranges_from pairs first points) i d ≡ (slice_index_or (first ∷ points) i e, (slice_get points i, pairs))
  range_at first [] zero d e low = refl
  range_at first [] (suc i) d e low = absurd (omega (arith, low))
  range_at first (p ∷ points) zero d e low = refl
  range_at first (p ∷ points) (suc i) d e low = range_at p points i d e (omega (arith, low))

abbrev low_range : Range → Key → Range
low_range r middle = (r.0, (Some middle, r.1.1))

abbrev high_range : Range → Key → Range
high_range r middle = (middle, r.1)

ranges_split : (pairs : Pairs) (first : Key) (points : List Key) (i : ℕ) (middle : Key) (d : Range) → i ≤ length points
    → with_two (ranges_from pairs first points) i (low_range (slice_index_or (ranges_from pairs first points) i d) middle) (high_range (slice_index_or (ranges_from pairs first points) i d) middle)
    ≡ ranges_from pairs first (insert points i middle)
ranges_split pairs first [] zero middle d low = refl
ranges_split pairs first [] (suc i) middle d low = absurd (omega (arith, low))
ranges_split pairs first (p ∷ points) zero middle d low = refl
ranges_split pairs first (p ∷ points) (suc i) middle d low = λ j. (first, (Some p, pairs)) ∷ ranges_split pairs p points i middle d (omega (arith, low)) j

-- ---- a settle

-- a settle leaves the range
pub settled_range : (h new : SlotState) → SettlesSlot h new → range_of new ≡ range_of h
settled_range h new is = by h.doubt is
  where
    by : (o : Option Past) → SettlesDoubtBy o h new → range_of new ≡ range_of h
    by None is = ap range_of is
    by (Some e) (inl is) = ap range_of is
    by (Some e) (inr is) = ap range_of is

-- ---- slots

module _ (slots : List SlotState) (points : List Key) (have : HaveSpans slots points) where
  pub counted : length slots ≡ length points + 1
  counted = sym (length-map slots range_of) ∙ ap length have.1 ∙ length-ranges have.0 least_key points

  own_range : (i : ℕ) → slice_index_or (ranges_from have.0 least_key points) i (range_of no_slot) ≡ range_of (slice_index_or slots i no_slot)
  own_range i = ap (λ (rs : List Range). slice_index_or rs i (range_of no_slot)) (sym have.1) ∙ read-map range_of slots i no_slot

  range_is : (i : ℕ) → i ≤ length points → range_of (slice_index_or slots i no_slot) ≡ (first_key points i, (bound_of points i, have.0))
  range_is i low = sym (own_range i) ∙ range_at have.0 least_key points i (range_of no_slot) least_key low

  -- all slots have the same key pairs
  pub shared_pairs : (i : ℕ) → i ≤ length points → (slice_index_or slots i no_slot).pairs ≡ have.0
  shared_pairs i low = ap (λ (r : Range). r.1.1) (range_is i low)

  -- the range of a slot has the keys of its span
  pub covered : (key : Key) → slots_of.covers (slot_at slots points key) key ≡ true
  covered key =
      ap (λ (r : Range). is_from r.0 key && is_under r.1.0 key) (range_is (slot_of points key) (slot_of-within points key))
      ∙ ap (λ (b : Bool). is_from (first_key points (slot_of points key)) key && b) (same_bound (bound_at points key) key)
      ∙ own_span points key

  -- the range of a slot ends where its span ends
  pub ends_there : (key : Key) → (slot_at slots points key).to ≡ bound_at points key
  ends_there key = ap (λ (r : Range). r.1.0) (range_is (slot_of points key) (slot_of-within points key))

  -- a slot whose span can be split at a key can be split there
  pub inside : (i : ℕ) (middle : Key) → split_refusal points i middle ≡ None → slots_of.is_inside (slice_index_or slots i no_slot) middle ≡ true
  inside i middle allowed =
      let can = (allowed_is points i middle).0 allowed in
      ap (λ (r : Range). is_below middle r.0 && is_under r.1.0 middle) (range_is i can.0)
      ∙ ap (λ (b : Bool). is_below middle (first_key points i) && b) (same_bound (bound_of points i) middle)
      ∙ can.1

  pub within : (i : ℕ) (middle : Key) → split_refusal points i middle ≡ None → i < length slots
  within i middle allowed = let can = (allowed_is points i middle).0 allowed in omega (arith, can.0, counted)

  pub low_slot : (key : Key) (at : ℕ) → at ≡ slot_of points key → at < length slots
  low_slot key at place = omega (arith, place, slot_of-within points key, counted)

  -- a slot with the same range is put in the place of one
  pub set_spans : (i : ℕ) (new d : SlotState) → range_of new ≡ range_of (slice_index_or slots i d) → HaveSpans (slice_set slots i new) points
  set_spans i new d same = (have.0, map-set range_of slots i new d same ∙ have.1)

  -- after a split they have those of one span more
  pub split_spans : (i : ℕ) (h : SlotState) (middle : Key) → range_of h ≡ range_of (slice_index_or slots i no_slot) → split_refusal points i middle ≡ None → HaveSpans (slots_split slots i h middle) (with_point points i middle)
  split_spans i h middle same allowed = (
    have.0,
    map-with_two range_of slots i (lower_half h middle) (upper_half h middle)
        ∙ (λ j. with_two (have.1 j) i (low_range ((same ∙ sym (own_range i)) j) middle) (high_range ((same ∙ sym (own_range i)) j) middle))
        ∙ ranges_split have.0 least_key points i middle (range_of no_slot) ((allowed_is points i middle).0 allowed).0,
  )

-- a core of one slot
pub first_spans : (pairs : Pairs) (slots : List SlotState) (points : List Key) → slots ≡ empty_slot pairs ∷ [] → points ≡ [] → HaveSpans slots points
first_spans pairs slots points one none = (pairs, ap (map range_of) one ∙ ap (ranges_from pairs least_key) (sym none))
