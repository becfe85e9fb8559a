-- A slot that the core sweeps by itself.
use Rattle.std.proofs.Common.{◌≡◌, ◌<◌, inl, inr, ℕ, Bool, true, List, Option, Some, None, refl, sym, ap, ◌∙◌, subst, length, Ok, Err}
use Rattle.std.specs.Prelude.{IsSome, slice_index_or, slice_set}
use Rattle.extent_node.specs.Faults.{Calls}
use Rattle.stamp_values.specs.declared.key.Key.{Key}
use Rattle.stamp_types.specs.declared.past.Past.{Past}
use Rattle.stream_manager.specs.declared.faults.StoredFault.{StoredFault}
use Rattle.stored_rows.specs.Counting.{FailsStored}
use Rattle.slot_state.specs.Slots.{SlotState}
use Rattle.stored_slot.specs.Served.{Faulted}
use Rattle.stored_slot.specs.Settled as settles
use Rattle.stored_slot.specs.Settled.{LeavesSettled}
use Rattle.core_run.specs.Cores.{CoreState, StandsFor, no_slot}
use Rattle.core_run.specs.Machine.{Answer}
use Rattle.core_run.specs.States.{State}
use Rattle.core_run.specs.declared.step.Outcome.TheVariants as outcome
use Rattle.core_run.proofs.ChangedCores.{set_same}
use Rattle.stamp_core.specs.Sweeps.{IsSweptSlot, SweepsFirst, TakesCompact}
use Rattle.stamp_core.specs.CoreSteps.{CaresSettled, IsCalm, IsTended, IsTendedAt, slot_answer}
use Rattle.stamp_core.specs.Ranges.{HaveSpans}
use Rattle.stamp_core.specs.declared.care.CoreCare.TheVariants as care
use Rattle.stamp_core.proofs.TendLemmas.{leaves_cared, spans_tended, tend_at_core, tended_there}

-- ---- a call of a slot

pub slot_swept : {T : Type 0} (h new : SlotState) (old later : Calls) (x : T) → LeavesSettled {T = T} (Ok x) h new → FailsStored {T = T} (Ok x) old later
    → IsTended care.Compact h (Faulted old later) (Ok outcome.Made) new
slot_swept {T} h new old later x left counted = leaves_cared h new old later {T = T} care.Compact refl (Ok x) left counted

pub slot_failed : (T : Type 0) (h new : SlotState) (old later : Calls) (e : StoredFault) → LeavesSettled {T = T} (Err e) h new → FailsStored {T = T} (Err e) old later
    → (r : Answer) × IsTended care.Compact h (Faulted old later) r new
slot_failed T h new old later e left counted = (slot_answer {T = T} (Err e), leaves_cared h new old later {T = T} care.Compact refl (Err e) left counted)

-- ---- one of the slots

module _ (slots : List SlotState) (points : List Key) (i : ℕ) (F : Type 0) (old new d : SlotState) (low : i < length slots) (was : old ≡ slice_index_or slots i d) where
  pub sweeps_there : {T : Type 0} (o : Option T) → IsSweptSlot o old F new → SweepsFirst o slots F (slice_set slots i new)
  sweeps_there (Some x) is = (i, tended_there slots points i care.Compact F (Ok outcome.Made) old new d low was is)
  sweeps_there None is = inr (i, (is.0, tended_there slots points i care.Compact F is.0 old new d low was is.1))

  pub spans_swept : {T : Type 0} (o : Option T) → IsSweptSlot o old F new → HaveSpans slots points → HaveSpans (slice_set slots i new) points
  spans_swept (Some x) is have = spans_tended slots points i care.Compact F (Ok outcome.Made) old new d low was is have
  spans_swept None is have = spans_tended slots points i care.Compact F is.0 old new d low was is.1 have

-- ---- the core

some_none : (o : Option Past) → o ≡ None → IsSome o → ⊥
some_none None is some = cc
some_none (Some e) is some = cc

settled_is : (h m : SlotState) → h.doubt ≡ None → settles.SettlesSlot h m → m ≡ h
settled_is h m calm is = by h.doubt calm is
  where
    by : (o : Option Past) → o ≡ None → settles.SettlesDoubtBy o h m → m ≡ h
    by None calm is = is
    by (Some e) calm is = absurd (some_none (Some e) calm refl)

cared_calm : (h new : SlotState) (F : Type 0) (r : Answer) (made : Type 0) → h.doubt ≡ None → CaresSettled care.Compact h F r new made → new ≡ h
cared_calm h new F r made calm (inl p) = settled_is h new calm p.0
cared_calm h new F r made calm (inr p) = p.1.1

module _ (c seen : CoreState) (same : c ≡ seen) (F : Type 0) (slots' : List SlotState) where
  tended_calm : (i : ℕ) (r : Answer) → IsTendedAt c.slots i care.Compact F r slots' → IsCalm c → slots' ≡ c.slots
  tended_calm i r (inl p) calm = p.1.1
  tended_calm i r (inr p) calm =
      p.1.1.1 ∙ ap (slice_set c.slots i) (cared_calm (slice_index_or c.slots i no_slot) p.1.0 F r _ (calm i) p.1.1.0) ∙ set_same c.slots i no_slot

  slots_calm : {T : Type 0} (o : Option T) → SweepsFirst o c.slots F slots' → IsCalm c → slots' ≡ c.slots
  slots_calm (Some x) is calm = tended_calm is.0 (Ok outcome.Made) is.1 calm
  slots_calm None (inl is) calm = is
  slots_calm None (inr is) calm = tended_calm is.0 is.1.0 is.1.1 calm

  -- without a doubt the core is as it was
  pub sweeps_calm : {T : Type 0} (o : Option T) → SweepsFirst o c.slots F slots' → IsCalm seen → record { slots = slots'; points = c.points; tickets = c.tickets } ≡ seen
  sweeps_calm o is calm = (λ i. record { slots = slots_calm o is (subst IsCalm (sym same) calm) i; points = c.points; tickets = c.tickets }) ∙ same

  -- a step of the machine
  pub sweeps_taken : {T : Type 0} (b : Bool) → (F → b ≡ true) → (o : Option T) → SweepsFirst o c.slots F slots' → (s : State) → StandsFor seen s
      → (s' : State) × (TakesCompact o s b s' × StandsFor (record { slots = slots'; points = c.points; tickets = c.tickets }) s')
  sweeps_taken b failed (Some x) is s stands =
      let made = tend_at_core F b failed c seen same is.0 care.Compact (Ok outcome.Made) slots' is.1 s stands in
      (made.0, ((is.0, made.1.0), made.1.1))
  sweeps_taken b failed None (inl is) s stands = (
    s,
    (
      inl refl,
      subst (λ (hs : List SlotState). StandsFor (record { slots = hs; points = c.points; tickets = c.tickets }) s) (sym is)
          (subst (λ (x : CoreState). StandsFor x s) (sym same) stands),
    ),
  )
  sweeps_taken b failed None (inr is) s stands =
      let made = tend_at_core F b failed c seen same is.0 care.Compact is.1.0 slots' is.1.1 s stands in
      (made.0, (inr (is.0, (is.1.0, made.1.0)), made.1.1))
