-- Cares of one slot, as steps of the machine.
use Rattle.std.proofs.Common.{◌≡◌, ◌⊎◌, ◌<◌, ◌≤◌, ◌+◌, inl, inr, ℕ, Bool, true, false, not, nat_lt, List, Option, Some, None, refl, sym, ap, ◌∙◌, subst, arith, length, Ok, Err}
use Rattle.std.specs.Prelude.{IsSome, Result, slice_index_or, slice_set}
use Rattle.std.proofs.lemmas.Bool.{le-ltb, lt-ltb}
use Rattle.stamp_values.specs.declared.key.Key.{Key}
use Rattle.stamp_types.specs.declared.past.Past.{Past}
use Rattle.extent_node.specs.Faults.{Calls}
use Rattle.stored_rows.specs.Counting.{FailsStored}
use Rattle.stored_rows.specs.Repairs.{FailsRepair}
use Rattle.stream_manager.specs.declared.faults.RepairFault.{RepairFault}
use Rattle.stream_manager.specs.declared.faults.RepairFault.TheVariants as repair
use Rattle.stream_manager.specs.declared.faults.StoredFault.{StoredFault}
use Rattle.stream_manager.specs.declared.faults.StoredFault.TheVariants as stored
use Rattle.slot_state.specs.Slots.{SlotState}
use Rattle.stored_slot.specs.Served.{Faulted}
use Rattle.stored_slot.specs.Settled.{LeavesRepaired, LeavesSettled, SettlesOrFails}
use Rattle.core_run.specs.Cores.{CoreState, StandsFor, no_slot}
use Rattle.core_run.specs.Machine.{Answer, Fails, MadeOrFails, OnSettled, OnSlotIf, SettledFirst, SettlesDoubt, Takes}
use Rattle.core_run.specs.States.{State, slot_doubt, has_slot}
use Rattle.core_run.specs.declared.step.Step.{Step}
use Rattle.core_run.specs.declared.step.Step.TheVariants as step
use Rattle.core_run.specs.declared.step.Outcome.TheVariants as outcome
use Rattle.core_run.specs.declared.step.StepFault.TheVariants as fault
use Rattle.core_run.proofs.ChangedCores.{doubt_is, settled_core, stands_same, with_slot}
use Rattle.stamp_core.specs.CoreSteps.{CaresSettled, FailsCare, IsTended, IsTendedAt, out_of_reach, repair_answer, slot_answer, step_of}
use Rattle.stamp_core.specs.Ranges.{HaveSpans, range_of}
use Rattle.stamp_core.specs.declared.care.CoreCare.{CoreCare}
use Rattle.stamp_core.specs.declared.care.CoreCare.TheVariants as care
use Rattle.stamp_core.proofs.RangeLemmas.{set_spans, settled_range}
use Rattle.stamp_core.proofs.ServeLemmas.{get_any}

-- ---- calls of a slot

module _ (h new : SlotState) (old later : Calls) where
  -- a step that settles, and then leaves the slot
  pub leaves_cared : {T : Type 0} (x : CoreCare) → out_of_reach x ≡ Err fault.Busy → (r : Result T StoredFault) → LeavesSettled r h new → FailsStored r old later
      → CaresSettled x h (Faulted old later) (slot_answer r) new (slot_answer r ≡ Ok outcome.Made)
  leaves_cared x reach (Ok u) left counted = inl (left, inl refl)
  leaves_cared x reach (Err stored.Busy) (inl left) counted = inl (left, inr (inl (counted.0, sym reach)))
  leaves_cared x reach (Err stored.Busy) (inr left) counted = inr (left.0, (inl (counted.0, sym reach), left.1))
  leaves_cared x reach (Err stored.NoMemory) (inl left) counted = inl (left, inr (inr refl))
  leaves_cared x reach (Err stored.NoMemory) (inr left) counted = inr (left.0, (inr refl, left.1))

  pub settle_cared : (r : Result (Unit {0}) StoredFault) → SettlesOrFails r h new → FailsStored r old later → IsTended care.Settle h (Faulted old later) (slot_answer r) new
  settle_cared (Ok u) left counted = inl (left, refl)
  settle_cared (Err stored.Busy) left counted = inr (left.0, (inl (counted.0, refl), left.1))
  settle_cared (Err stored.NoMemory) left counted = inr (left.0, (inr refl, left.1))

  pub repair_cared : (x : CoreCare) → out_of_reach x ≡ Err fault.Unreachable → (r : Result (Unit {0}) RepairFault) → LeavesRepaired r h new → FailsRepair r old later
      → CaresSettled x h (Faulted old later) (repair_answer r) new ((repair_answer r ≡ Ok outcome.Made) ⊎ (repair_answer r ≡ Err fault.NoSuchExtent))
  repair_cared x reach (Ok u) left counted = inl (left, inl (inl refl))
  repair_cared x reach (Err repair.NoSuchExtent) left counted = inl (left, inl (inr refl))
  repair_cared x reach (Err repair.Unreachable) (inl left) counted = inl (left, inr (inl (counted.0, sym reach)))
  repair_cared x reach (Err repair.Unreachable) (inr left) counted = inr (left.0, (inl (counted.0, sym reach), left.1))
  repair_cared x reach (Err repair.NoMemory) (inl left) counted = inl (left, inr (inr refl))
  repair_cared x reach (Err repair.NoMemory) (inr left) counted = inr (left.0, (inr refl, left.1))

-- ---- ranges

cared_range : (x : CoreCare) (h new : SlotState) (F : Type 0) (r : Answer) (so : Type 0) → CaresSettled x h F r new so → range_of new ≡ range_of h
cared_range x h new F r so (inl p) = settled_range h new p.0
cared_range x h new F r so (inr p) = ap range_of p.1.1

-- a care leaves the range of its slot
tended_range : (x : CoreCare) (h new : SlotState) (F : Type 0) (r : Answer) → IsTended x h F r new → range_of new ≡ range_of h
tended_range care.Settle h new F r (inl p) = settled_range h new p.0
tended_range care.Settle h new F r (inr p) = ap range_of p.1.1
tended_range care.Seal h new F r p = cared_range care.Seal h new F r _ p
tended_range care.Load h new F r p = cared_range care.Load h new F r _ p
tended_range care.Checkpoint h new F r p = cared_range care.Checkpoint h new F r _ p
tended_range care.Compact h new F r p = cared_range care.Compact h new F r _ p
tended_range (care.Repair stream extent node) h new F r p = cared_range (care.Repair stream extent node) h new F r _ p
tended_range care.Unload h new F r p = ap range_of p.1
tended_range (care.Move server) h new F r p = ap range_of p.1

module _ (slots : List SlotState) (points : List Key) (i : ℕ) (x : CoreCare) (F : Type 0) (r : Answer) where
  -- no slot has the number
  pub not_tended : length slots ≤ i → r ≡ Err fault.NoSuchSlot → IsTendedAt slots i x F r slots
  not_tended over is = inl (over, (is, refl))

  module _ (old new d : SlotState) (low : i < length slots) (was : old ≡ slice_index_or slots i d) (tended : IsTended x old F r new) where
    pub tended_there : IsTendedAt slots i x F r (slice_set slots i new)
    tended_there = inr (low, (new, (subst (λ (h : SlotState). IsTended x h F r new) (was ∙ get_any slots i d no_slot low) tended, refl)))

    pub spans_tended : HaveSpans slots points → HaveSpans (slice_set slots i new) points
    spans_tended have = set_spans slots points have i new d (tended_range x old new F r tended ∙ ap range_of was)

-- ---- steps of the machine

module _ (F : Type 0) (b : Bool) (failed : F → b ≡ true) (c : CoreState) (s : State) (stands : StandsFor c s) (i : ℕ) (r : Answer) where
  exists : (n m k : ℕ) → n ≡ m + 1 → m ≡ k → i < n → not (nat_lt k i) ≡ true
  exists n m k is same low = ap not (le-ltb k i (omega (arith, is, same, low)))

  absent : (n m k : ℕ) → n ≡ m + 1 → m ≡ k → n ≤ i → not (nat_lt k i) ≡ false
  absent n m k is same over = ap not (lt-ltb k i (omega (arith, is, same, over)))

  is_there : i < length c.slots → has_slot s i ≡ true
  is_there low = exists (length c.slots) (length c.points) (length s.points) stands.counted (ap length (sym stands.points)) low

  is_absent : length c.slots ≤ i → has_slot s i ≡ false
  is_absent over = absent (length c.slots) (length c.points) (length s.points) stands.counted (ap length (sym stands.points)) over

  on_slot : (s' : State) (so : Type 0) → i < length c.slots → so → OnSlotIf (has_slot s i) s r s' so
  on_slot s' so low there = subst (λ (x : Bool). OnSlotIf x s r s' so) (sym (is_there low)) there

  not_there : (so : Type 0) → length c.slots ≤ i → r ≡ Err fault.NoSuchSlot → OnSlotIf (has_slot s i) s r s so
  not_there so over is = subst (λ (x : Bool). OnSlotIf x s r s so) (sym (is_absent over)) (is, refl)

  no_slot_takes : (x : CoreCare) → length c.slots ≤ i → r ≡ Err fault.NoSuchSlot → Takes s (step_of i x) b r s
  no_slot_takes care.Settle over is = not_there _ over is
  no_slot_takes care.Seal over is = not_there _ over is
  no_slot_takes care.Load over is = not_there _ over is
  no_slot_takes care.Checkpoint over is = not_there _ over is
  no_slot_takes care.Compact over is = not_there _ over is
  no_slot_takes care.Unload over is = not_there _ over is
  no_slot_takes (care.Move server) over is = not_there _ over is
  no_slot_takes (care.Repair stream extent node) over is = not_there _ over is

  module _ (low : i < length c.slots) (new : SlotState) where
    abbrev old : SlotState
    old = slice_index_or c.slots i no_slot

    some_doubt : IsSome old.doubt → IsSome (slot_doubt s i)
    some_doubt some = subst (λ (x : Option Past). IsSome x) (sym (doubt_is c s stands i low)) some

    abbrev Stood : (State → Type 0) → Type 0
    Stood takes = (s' : State) × (takes s' × StandsFor (with_slot c i new) s')

    fails : (x : CoreCare) (y : Step) → ((F × (r ≡ out_of_reach x)) → Fails y b r) → FailsCare x F r → Fails y b r
    fails x y reach (inl p) = reach p
    fails x y reach (inr is) = inr is

    -- a care that settles first
    cared : (x : CoreCare) (y : Step) → ((F × (r ≡ out_of_reach x)) → Fails y b r) → (so : Type 0) → CaresSettled x old F r new so → Stood (λ s'. OnSettled y s i b r s' (λ m. so × (s' ≡ m)))
    cared x y reach so (inl p) =
        let m = settled_core c s stands i low new p.0 in
        (m.0, (inl (m.0, (m.1.0, elim p.1 [ inl is ↦ inl (is, refl) | inr is ↦ inr (fails x y reach is, refl) ])), m.1.1))
    cared x y reach so (inr p) = (s, (inr (some_doubt p.0, (fails x y reach p.1.0, refl)), stands_same c s stands i low new p.1.1))

    settles_only : IsTended care.Settle old F r new → Stood (λ s'. SettledFirst (step.Settle i) s i b r s' (λ m. (r ≡ Ok outcome.Made) × (s' ≡ m)))
    settles_only (inl p) = let m = settled_core c s stands i low new p.0 in (m.0, (inl (m.0, (m.1.0, (p.1, refl))), m.1.1))
    settles_only (inr p) =
        (s, (inr (some_doubt p.0, (fails care.Settle (step.Settle i) (λ f. inl (failed f.0, f.1)) p.1.0, refl)), stands_same c s stands i low new p.1.1))

    there : (takes : State → Type 0) → Stood takes → Stood (λ s'. OnSlotIf (has_slot s i) s r s' (takes s'))
    there takes p = (p.0, (on_slot p.0 (takes p.0) low p.1.0, p.1.1))

    leaves : (r ≡ Ok outcome.Made) × (new ≡ old) → Stood (λ s'. OnSlotIf (has_slot s i) s r s' ((r ≡ Ok outcome.Made) × (s' ≡ s)))
    leaves p = (s, (on_slot s _ low (p.0, refl), stands_same c s stands i low new p.1))

    tended_takes : (x : CoreCare) → IsTended x old F r new → Stood (λ s'. Takes s (step_of i x) b r s')
    tended_takes care.Settle p = there _ (settles_only p)
    tended_takes care.Seal p = there _ (cared care.Seal (step.Seal i) (λ f. inl (failed f.0, f.1)) (r ≡ Ok outcome.Made) p)
    tended_takes care.Load p = there _ (cared care.Load (step.Load i) (λ f. inl (failed f.0, f.1)) (r ≡ Ok outcome.Made) p)
    tended_takes care.Checkpoint p = there _ (cared care.Checkpoint (step.Checkpoint i) (λ f. inl (failed f.0, f.1)) (r ≡ Ok outcome.Made) p)
    tended_takes care.Compact p = there _ (cared care.Compact (step.Compact i) (λ f. inl (failed f.0, f.1)) (r ≡ Ok outcome.Made) p)
    tended_takes (care.Repair stream extent node) p =
        there _ (cared (care.Repair stream extent node) (step.Repair i stream extent node) (λ f. inl (failed f.0, f.1)) ((r ≡ Ok outcome.Made) ⊎ (r ≡ Err fault.NoSuchExtent)) p)
    tended_takes care.Unload p = leaves p
    tended_takes (care.Move server) p = leaves p

  tend_step : (x : CoreCare) (slots' : List SlotState) → IsTendedAt c.slots i x F r slots' → (s' : State) × (Takes s (step_of i x) b r s' × StandsFor (record c { slots = slots' }) s')
  tend_step x slots' (inl p) = (s, (no_slot_takes x p.0 p.1.0, subst (λ (hs : List SlotState). StandsFor (record c { slots = hs }) s) (sym p.1.1) stands))
  tend_step x slots' (inr p) =
      let made = tended_takes p.0 p.1.0 x p.1.1.0 in
      (made.0, (made.1.0, subst (λ (hs : List SlotState). StandsFor (record c { slots = hs }) made.0) (sym p.1.1.1) made.1.1))

-- the step; c is the value that contracts see
pub tend_at_core : (F : Type 0) (b : Bool) → (F → b ≡ true) → (c seen : CoreState) → c ≡ seen → (i : ℕ) (x : CoreCare) (r : Answer) (slots' : List SlotState) → IsTendedAt c.slots i x F r slots'
    → (s : State) → StandsFor seen s → (s' : State) × (Takes s (step_of i x) b r s' × StandsFor (record { slots = slots'; points = c.points; tickets = c.tickets }) s')
tend_at_core F b failed c seen same i x r slots' is s stands = tend_step F b failed c s (subst (λ (y : CoreState). StandsFor y s) (sym same) stands) i r x slots' is
