-- What a core does if a key of an account is replaced (Blob service REST reference, 2012-02-12, Authentication for the Azure Storage
-- Services: an account has two keys). That all slots take the new pair in one step is the stamp's own.
use Rattle.std.specs.Prelude.{◌≡◌, ◌≤◌, ◌<◌, ℕ, zero, suc, List, [], ◌∷◌, length, map, Ok, Err, slice_index_or}
use Rattle.access_rules.specs.declared.rotation.Which.{Which}
use Rattle.slot_state.specs.NextPairs as next
use Rattle.slot_state.specs.NextPairs.{AreFront, HasNextPair, ReplaysBy, with_pairs}
use Rattle.slot_state.specs.Pairs.{Pairs}
use Rattle.slot_state.specs.Slots.{SlotState}
use Rattle.slot_state.specs.declared.rotate_fault.RotateFault.{RotateFault}
use Rattle.slot_state.specs.declared.rotate_fault.RotateFault.TheVariants as cause
use Rattle.core_run.specs.declared.step.Outcome.TheVariants as outcome
use Rattle.core_run.specs.declared.step.StepFault.{StepFault}
use Rattle.core_run.specs.declared.step.StepFault.TheVariants as fault
use Rattle.core_run.specs.Cores.{no_slot}
use Rattle.core_run.specs.Machine.{Answer}

-- ---- pairs

-- the fault of a step for why no key is replaced
abbrev pub told : RotateFault → StepFault
told cause.NoAccount = fault.NoAccount
told cause.Last = fault.Last
told cause.NoMemory = fault.NoMemory

-- why no pair comes after the pair in force, as a step tells it
abbrev pub TellsNoNextPair : Pairs → List ℕ → StepFault → Type 0
TellsNoNextPair pairs account f = (c : RotateFault) × ((f ≡ told c) × next.HasNoNextPair pairs account c)

-- ---- slots

-- the first so many elements as they are, and of each later one what the function makes of it
abbrev pub map_from : {X : Type 0} → (X → X) → ℕ → List X → List X
map_from f zero xs = map f xs
map_from f (suc n) [] = []
map_from f (suc n) (x ∷ xs) = x ∷ map_from f n xs

-- these pairs begin with the pairs of each slot
abbrev pub BeginPairs : List SlotState → Pairs → Type 0
BeginPairs slots pairs = (i : ℕ) → i < length slots → AreFront (slice_index_or slots i no_slot).pairs pairs

-- the slots from this number on have these pairs in the place of their own, by which each of their containers is the same
abbrev pub HaveCaughtUp : List SlotState → ℕ → Pairs → List SlotState → Type 0
HaveCaughtUp slots at pairs slots' =
    (slots' ≡ map_from (with_pairs pairs) at slots) × ((i : ℕ) → at ≤ i → i < length slots → ReplaysBy pairs (slice_index_or slots i no_slot))

-- the pairs that all slots have, which the first slot has
abbrev pub pairs_of_all : List SlotState → Pairs
pairs_of_all slots = (slice_index_or slots 0 no_slot).pairs

-- a key of the account's pair in force is replaced, and all slots have the longer pairs; or no slot is changed
abbrev pub IsRotated : List SlotState → List ℕ → Which → List ℕ → Answer → List SlotState → Type 0
IsRotated slots account which key (Ok (outcome.Epoch n)) slots' =
    (longer : Pairs) × (HasNextPair (pairs_of_all slots) account which key n longer × HaveCaughtUp slots 0 longer slots')
IsRotated slots account which key (Err f) slots' = TellsNoNextPair (pairs_of_all slots) account f × (slots' ≡ slots)
IsRotated slots account which key other slots' = ⊥
