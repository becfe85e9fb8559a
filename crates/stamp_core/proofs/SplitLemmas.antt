-- Splits of a core, as steps of the machine.
use Rattle.std.proofs.Common.{◌≡◌, ◌⊎◌, ◌<◌, arith, inl, inr, ℕ, zero, suc, Bool, true, List, [], ◌∷◌, Option, Some, None, refl, sym, ap, ◌∙◌, subst, length, Ok, Err}
use Rattle.std.specs.Prelude.{IsSome, OnErr, OnOk, Result, slice_index_or, slice_set}
use Rattle.std.specs.List.{insert, remove}
use Rattle.std.proofs.lemmas.List.{get_or-set_same}
use Rattle.std.proofs.lemmas.List.Edits.{length-insert}
use Rattle.stamp_values.specs.declared.key.Key.{Key}
use Rattle.stamp_types.specs.declared.past.Past.{Past}
use Rattle.extent_node.specs.Faults.{Calls}
use Rattle.stream_manager.specs.declared.faults.StoredFault.{StoredFault}
use Rattle.stream_manager.specs.declared.faults.StoredFault.TheVariants as stored
use Rattle.partition_map.specs.declared.fault.MapFault.{MapFault}
use Rattle.partition_map.specs.declared.fault.MapFault.TheVariants as map_fault
use Rattle.partition_map.specs.Spans.{cause_of, split_refusal, with_point, with_two}
use Rattle.partition_map.proofs.BoundLemmas.{without_new}
use Rattle.partition_map.proofs.RefusalLemmas.{allowed_is}
use Rattle.stored_rows.specs.Counting.{FailsStored}
use Rattle.slot_state.specs.Slots.{SlotState, lower_half, upper_half}
use Rattle.stored_slot.specs.Served.{Faulted}
use Rattle.stored_slot.specs.Settled as settles
use Rattle.stored_slot.specs.Settled.{CutsSettled}
use Rattle.core_run.specs.Cores.{CoreState, StandsFor, no_slot, with_halves}
use Rattle.core_run.specs.Machine.{Answer, Fails, OnSettled, SettlesDoubt, SplitsBy, Takes}
use Rattle.core_run.specs.States.{State, slot_doubt, split}
use Rattle.core_run.specs.declared.step.Step.TheVariants as step
use Rattle.core_run.specs.declared.step.Outcome.TheVariants as outcome
use Rattle.core_run.specs.declared.step.StepFault.{StepFault}
use Rattle.core_run.specs.declared.step.StepFault.TheVariants as fault
use Rattle.core_run.proofs.ChangedCores.{doubt_is, set_same, set_twice, settled_core, stands_same, with_slot}
use Rattle.core_run.proofs.SplitCores.{stands_split}
use Rattle.core_run.proofs.StepLemmas.{gone}
use Rattle.stamp_core.specs.CoreSteps.{AreHalved, ChangesSlot, FailsSlot, IsSplit, fault_of_slot, slots_split}
use Rattle.stamp_core.specs.Ranges.{HaveSpans, range_of}
use Rattle.stamp_core.proofs.RangeLemmas.{counted, set_spans, settled_range, split_spans, within}
use Rattle.stamp_core.proofs.ServeLemmas.{get_any}

abbrev core_of : CoreState → List SlotState → List Key → CoreState
core_of c slots points = record { slots = slots; points = points; tickets = c.tickets }

-- F says that a call of the wire failed, and b says so of the step
module _ (F : Type 0) (b : Bool) (failed : F → b ≡ true) (c : CoreState) (have : HaveSpans c.slots c.points) (i : ℕ) (middle : Key) (slots : List SlotState) (points : List Key) (s : State) (stands : StandsFor c s) where
  abbrev Steps : Answer → Type 0
  Steps r = (s' : State) × (Takes s (step.Split i middle) b r s' × StandsFor (core_of c slots points) s')

  -- what the spans say of the split in the state
  same_refusal : split_refusal s.points i middle ≡ split_refusal c.points i middle
  same_refusal = ap (λ (ps : List Key). split_refusal ps i middle) stands.points

  takes : (r : Answer) (s' : State) (o : Option MapFault) → split_refusal c.points i middle ≡ o → SplitsBy o s i middle b r s' → Takes s (step.Split i middle) b r s'
  takes r s' o is by = subst (λ (x : Option MapFault). SplitsBy x s i middle b r s') (sym (same_refusal ∙ is)) by

  unchanged : slots ≡ c.slots → points ≡ c.points → StandsFor (core_of c slots points) s
  unchanged same_slots same_points = subst (λ (x : CoreState). StandsFor x s) (λ j. core_of c (sym same_slots j) (sym same_points j)) stands

  refused : (f : MapFault) → split_refusal c.points i middle ≡ cause_of f → SplitsBy (cause_of f) s i middle b (Err (fault.Map f)) s
  refused map_fault.NoMemory cause = inr (refl, refl)
  refused map_fault.NoSuchSlot cause = (refl, refl)
  refused map_fault.NotInside cause = (refl, refl)
  refused map_fault.Full cause = (refl, refl)

  module _ (allowed : split_refusal c.points i middle ≡ None) where
    low : i < length c.slots
    low = within c.slots c.points have i middle allowed

    abbrev old : SlotState
    old = slice_index_or c.slots i no_slot

    -- a slot that settled, and was split
    halved : (h : SlotState) → settles.SettlesSlot old h → slots ≡ slots_split c.slots i h middle → points ≡ with_point c.points i middle → Steps (Ok outcome.Made)
    halved h settled are is =
        let m = settled_core c s stands i low h settled in
        let none = gone (slot_doubt s i) s m.0 i refl m.1.0 in
        let its : slice_index_or (slice_set c.slots i h) i no_slot ≡ h = get_or-set_same c.slots i h no_slot low in
        let after = stands_split (with_slot c i h) m.0 m.1.1 i middle allowed none in
        let halves : (with_halves (with_slot c i h) i middle).slots ≡ slots_split c.slots i h middle =
        (λ j. with_two (slice_set c.slots i h) i (lower_half (its j) middle) (upper_half (its j) middle))
        ∙ ap (λ (hs : List SlotState). insert hs (suc i) (upper_half h middle)) (set_twice c.slots i h (lower_half h middle)) in (
          split m.0 i middle,
          (
            takes (Ok outcome.Made) (split m.0 i middle) None allowed (inl (inl (m.0, (m.1.0, inl (refl, refl))))),
            subst (λ (x : CoreState). StandsFor x (split m.0 i middle)) (λ j. core_of c ((halves ∙ sym are) j) (sym is j)) after,
          ),
        )

    -- a slot that failed
    fails : (r : Answer) → Fails (step.Split i middle) b r → ChangesSlot c.slots i slots FailsSlot → points ≡ c.points → Steps r
    fails r why changed is = by changed.1.0
      where
        same : (s' : State) → StandsFor (with_slot c i changed.0) s' → StandsFor (core_of c slots points) s'
        same s' after = subst (λ (x : CoreState). StandsFor x s') (λ j. core_of c (sym changed.1.1 j) (sym is j)) after

        by : FailsSlot old changed.0 → Steps r
        by (inl settled) =
            let m = settled_core c s stands i low changed.0 settled in
            (m.0, (takes r m.0 None allowed (inl (inl (m.0, (m.1.0, inr (why, refl))))), same m.0 m.1.1))
        by (inr p) =
            let some : IsSome (slot_doubt s i) = subst (λ (x : Option Past). IsSome x) (sym (doubt_is c s stands i low)) p.0 in
            (s, (takes r s None allowed (inl (inr (some, (why, refl)))), same s (stands_same c s stands i low changed.0 p.1)))

  pub split_step : (r : Answer) → IsSplit c.slots c.points i middle F r slots points → Steps r
  split_step (Ok outcome.Made) is = halved is.0 is.1.0.0 is.1.0.1.0 is.1.0.1.1 is.1.1
  split_step (Err (fault.Map f)) is = (s, (takes (Err (fault.Map f)) s (cause_of f) is.0 (refused f is.0), unchanged is.1.0 is.1.1))
  split_step (Err fault.Busy) is = fails is.0 (Err fault.Busy) (inl (failed is.1.0, refl)) is.1.1.0 is.1.1.1
  split_step (Err fault.NoMemory) is = fails is.0 (Err fault.NoMemory) (inr refl) is.1.0 is.1.1
  split_step other is = absurd is

-- the step, from the core that contracts see
pub split_at_core : (F : Type 0) (b : Bool) → (F → b ≡ true) → (c seen : CoreState) → c ≡ seen → HaveSpans c.slots c.points → (i : ℕ) (middle : Key) (r : Answer) (slots : List SlotState) (points : List Key)
    → IsSplit c.slots c.points i middle F r slots points → (s : State) → StandsFor seen s → (s' : State) × (Takes s (step.Split i middle) b r s' × StandsFor (core_of c slots points) s')
split_at_core F b failed c seen same have i middle r slots points is s stands = split_step F b failed c have i middle slots points s (subst (λ (x : CoreState). StandsFor x s) (sym same) stands) r is

-- ---- split points

-- a point that is put between the others and taken away again
pub joined : (old between new : List Key) (i : ℕ) (middle : Key) → split_refusal old i middle ≡ None → between ≡ with_point old i middle → new ≡ remove between i → new ≡ old
joined old between new i middle allowed put taken = taken ∙ ap (λ (ps : List Key). remove ps i) put ∙ without_new old i middle ((allowed_is old i middle).0 allowed).0

pub one_point_more : (before between : List Key) (i : ℕ) (middle : Key) → split_refusal before i middle ≡ None → between ≡ with_point before i middle → i < length between
one_point_more before between i middle allowed put =
    let low = ((allowed_is before i middle).0 allowed).0 in omega (arith, low, ap length put, length-insert before i middle low)

-- ---- the slots and the spans after a split

module _ (slots slots' : List SlotState) (before between points : List Key) (i : ℕ) (middle : Key) (have : HaveSpans slots before) (allowed : split_refusal before i middle ≡ None) (put : between ≡ with_point before i middle) where
  failed_range : (h new : SlotState) → FailsSlot h new → range_of new ≡ range_of h
  failed_range h new (inl settled) = settled_range h new settled
  failed_range h new (inr p) = ap range_of p.1

  pub spans_made : (E : Type 0) (u : Unit {0}) → AreHalved {E = E} slots i middle (Ok u) slots' → points ≡ between → HaveSpans slots' points
  spans_made E u is same =
      subst (λ (hs : List SlotState). HaveSpans hs points) (sym is.1.1)
      (subst (λ (ps : List Key). HaveSpans (slots_split slots i is.0 middle) ps) (sym (same ∙ put)) (split_spans slots before have i is.0 middle (settled_range (slice_index_or slots i no_slot) is.0 is.1.0) allowed))

  pub spans_back : ChangesSlot slots i slots' FailsSlot → points ≡ remove between i → HaveSpans slots' points
  spans_back is taken =
      subst (λ (hs : List SlotState). HaveSpans hs points) (sym is.1.1)
      (subst (λ (ps : List Key). HaveSpans (slice_set slots i is.0) ps) (sym (joined before between points i middle allowed put taken)) (set_spans slots before have i is.0 no_slot (failed_range (slice_index_or slots i no_slot) is.0 is.1.0)))

  -- what a split that fails answers
  failed_so : (e : StoredFault) (a b : Calls) → FailsStored {T = Unit {0}} (Err e) a b → ChangesSlot slots i slots' FailsSlot → points ≡ remove between i
      → IsSplit slots before i middle (Faulted a b) (Err (fault_of_slot e)) slots' points
  failed_so stored.Busy a b failed is taken = (allowed, (failed.0, (is, joined before between points i middle allowed put taken)))
  failed_so stored.NoMemory a b failed is taken = (allowed, (is, joined before between points i middle allowed put taken))

  pub split_failed : (e : StoredFault) (a b : Calls) → FailsStored {T = Unit {0}} (Err e) a b → ChangesSlot slots i slots' FailsSlot → points ≡ remove between i
      → (f : StepFault) → f ≡ fault_of_slot e → IsSplit slots before i middle (Faulted a b) (Err f) slots' points
  split_failed e a b failed is taken f told = subst (λ (x : StepFault). IsSplit slots before i middle (Faulted a b) (Err x) slots' points) (sym told) (failed_so e a b failed is taken)

-- ---- the halves of a slot

-- nothing is settled and nothing is halved
fails_by : (h : SlotState) (o : Option Past) → h.doubt ≡ o → FailsSlot h h
fails_by h None none = inl (subst (λ (x : Option Past). settles.SettlesDoubtBy x h h) (sym none) refl)
fails_by h (Some e) some = inr (subst (λ (x : Option Past). IsSome x) (sym some) refl, refl)

pub not_halved : {E : Type 0} (slots : List SlotState) (i : ℕ) (middle : Key) (e : E) → AreHalved {E = E} slots i middle (Err e) slots
not_halved slots i middle e = (slice_index_or slots i no_slot, (fails_by (slice_index_or slots i no_slot) (slice_index_or slots i no_slot).doubt refl, sym (set_same slots i no_slot)))

module _ (slots : List SlotState) (i : ℕ) (middle : Key) (old new d : SlotState) (was : old ≡ slice_index_or slots i d) (low : i < length slots) where
  its_slot : old ≡ slice_index_or slots i no_slot
  its_slot = was ∙ get_any slots i d no_slot low

  pub are_halved : (E : Type 0) (upper : SlotState) (cut : CutsSettled (Ok upper) old middle new) → AreHalved {E = E} slots i middle (Ok tt) (insert (slice_set slots i new) (suc i) upper)
  are_halved E upper cut = (
    cut.0,
    (
      subst (λ (h : SlotState). settles.SettlesSlot h cut.0) its_slot cut.1.0,
      λ j. insert (slice_set slots i (cut.1.1.0 j)) (suc i) (cut.1.1.1 j),
    ),
  )

  pub half_fails : (e : StoredFault) → CutsSettled (Err e) old middle new → AreHalved {E = StoredFault} slots i middle (Err e) (slice_set slots i new)
  half_fails e cut = (new, (subst (λ (h : SlotState). FailsSlot h new) its_slot cut, refl))
