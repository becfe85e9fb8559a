-- How a core sweeps a slot by itself (Calder et al., SOSP 2011, section 5.3).
use Rattle.std.specs.Prelude.{◌≡◌, ◌⊎◌, ℕ, Bool, List, Option, Some, None, Ok}
use Rattle.slot_state.specs.Slots.{SlotState}
use Rattle.core_run.specs.declared.step.Step.TheVariants as step
use Rattle.core_run.specs.declared.step.Outcome.TheVariants as outcome
use Rattle.core_run.specs.Machine.{Answer, Takes}
use Rattle.core_run.specs.States.{State}
use Rattle.stamp_core.specs.CoreSteps.{IsTended, IsTendedAt}
use Rattle.stamp_core.specs.declared.care.CoreCare.TheVariants as care

-- a step of a sweep of the slot is made, or it failed
abbrev pub IsSweptSlot : {T : Type 0} → Option T → SlotState → Type 0 → SlotState → Type 0
IsSweptSlot (Some x) h faulted h' = IsTended care.Compact h faulted (Ok outcome.Made) h'
IsSweptSlot None h faulted h' = (r : Answer) × IsTended care.Compact h faulted r h'

-- a step of a sweep of one of the slots is made; or it failed, or no slot was to be swept
abbrev pub SweepsFirst : {T : Type 0} → Option T → List SlotState → Type 0 → List SlotState → Type 0
SweepsFirst (Some x) slots faulted slots' = (i : ℕ) × IsTendedAt slots i care.Compact faulted (Ok outcome.Made) slots'
SweepsFirst None slots faulted slots' = (slots' ≡ slots) ⊎ ((i : ℕ) × ((r : Answer) × IsTendedAt slots i care.Compact faulted r slots'))

-- the same as a step of the machine
abbrev pub TakesCompact : {T : Type 0} → Option T → State → Bool → State → Type 0
TakesCompact (Some x) s faulted s' = (i : ℕ) × Takes s (step.Compact i) faulted (Ok outcome.Made) s'
TakesCompact None s faulted s' = (s' ≡ s) ⊎ ((i : ℕ) × ((r : Answer) × Takes s (step.Compact i) faulted r s'))
