-- What a core does at a step, part by part (Calder et al., SOSP 2011, section 5).
use Rattle.std.specs.Prelude.{◌≡◌, ◌⊎◌, ◌<◌, ◌≤◌, ⊤, ℕ, nat_lt, Bool, true, false, List, [], ◌∷◌, ◌++◌, length, Option, Some, None, IsSome, Result, Ok, Err, slice_index_or, slice_set}
use Rattle.extent_node.specs.Faults.{Calls}
use Rattle.extent_seal.specs.Counting.{all_faults}
use Rattle.stamp_values.specs.declared.key.Key.{Key}
use Rattle.stamp_types.specs.declared.reply.Reply as replies
use Rattle.stamp_types.specs.Requests.{Asked}
use Rattle.partition_map.specs.Spans.{cause_of, slot_of, split_refusal, with_point, with_two}
use Rattle.stamp_model.specs.SeenContainers.{routed}
use Rattle.tickets.specs.declared.answer.Answer as answers
use Rattle.tickets.specs.declared.answer.Answer.TheVariants as answer
use Rattle.stream_manager.specs.declared.faults.RepairFault.{RepairFault}
use Rattle.stream_manager.specs.declared.faults.RepairFault.TheVariants as repair
use Rattle.stream_manager.specs.declared.faults.StoredFault.{StoredFault}
use Rattle.stream_manager.specs.declared.faults.StoredFault.TheVariants as stored
use Rattle.slot_state.specs.Slots.{SlotState, lower_half, upper_half}
use Rattle.stored_slot.specs.Served.{SlotServes, busy}
use Rattle.stored_slot.specs.Settled.{SettlesSlot}
use Rattle.core_run.specs.declared.step.Step.{Step}
use Rattle.core_run.specs.declared.step.Step.TheVariants as step
use Rattle.core_run.specs.declared.step.Outcome.{Outcome}
use Rattle.core_run.specs.declared.step.Outcome.TheVariants as outcome
use Rattle.core_run.specs.declared.step.StepFault.{StepFault}
use Rattle.core_run.specs.declared.step.StepFault.TheVariants as fault
use Rattle.core_run.specs.Cores.{CoreState, StandsFor, no_slot}
use Rattle.core_run.specs.Machine.{Answer}
use Rattle.core_run.specs.States.{State, reply_in, served}
use Rattle.stamp_core.specs.declared.care.CoreCare.{CoreCare}
use Rattle.stamp_core.specs.declared.care.CoreCare.TheVariants as care

-- whether a call of the wire failed, by its counts before and after
abbrev pub has_faults : Calls → Calls → Bool
has_faults old new = nat_lt (all_faults old) (all_faults new)

-- no slot is in doubt
abbrev pub IsCalm : CoreState → Type 0
IsCalm c = (i : ℕ) → (slice_index_or c.slots i no_slot).doubt ≡ None

-- a slot becomes another one, and all other slots stay
abbrev pub ChangesSlot : List SlotState → ℕ → List SlotState → (SlotState → SlotState → Type 0) → Type 0
ChangesSlot slots i slots' becomes = (h : SlotState) × (becomes (slice_index_or slots i no_slot) h × (slots' ≡ slice_set slots i h))

-- ---- requests

-- the slot whose span has the first key of the request serves it
abbrev pub IsServedBySlot : List SlotState → List Key → Asked → ℕ → Type 0 → answers.Answer → List SlotState → Type 0
IsServedBySlot slots points q t faulted a slots' = ChangesSlot slots (slot_of points (routed q)) slots' (λ h h'. SlotServes h q t faulted a h')

-- ---- what is told of the answer of a slot

-- the reply of a ticket is read; or its bytes are out of reach, which is so only if a call of the wire failed; or memory ran out
abbrev pub IsReadNow : {E : Type 0} → replies.Reply → Type 0 → Result replies.Reply E → Type 0
IsReadNow ticket faulted (Ok r) = (r ≡ ticket) ⊎ (faulted × (r ≡ busy))
IsReadNow ticket faulted (Err e) = ⊤

-- the next ticket holds the reply; or no ticket is given, and the reply is read at once
abbrev pub IsHeldOrRead : replies.Reply → List (Option replies.Reply) → Type 0 → Answer → List (Option replies.Reply) → Type 0
IsHeldOrRead ticket old faulted (Ok (outcome.Later n)) new = (n ≡ length old) × (new ≡ old ++ Some ticket ∷ [])
IsHeldOrRead ticket old faulted (Ok (outcome.Reply r)) new = ((r ≡ ticket) ⊎ (faulted × (r ≡ busy))) × (new ≡ old)
IsHeldOrRead ticket old faulted (Err fault.NoMemory) new = new ≡ old
IsHeldOrRead ticket old faulted other new = ⊥

-- a reply is told, or a ticket, or that memory ran out
abbrev pub TellsAnswer : answers.Answer → List (Option replies.Reply) → Type 0 → Answer → List (Option replies.Reply) → Type 0
TellsAnswer (answer.Done r) old faulted o new = (o ≡ Ok (outcome.Reply r)) × (new ≡ old)
TellsAnswer (answer.Later r) old faulted o new = IsHeldOrRead r old faulted o new
TellsAnswer answer.NoMemory old faulted o new = (o ≡ Err fault.NoMemory) × (new ≡ old)

-- a reply is told at once, or that memory ran out
abbrev pub IsToldNow : {E : Type 0} → answers.Answer → Type 0 → Result replies.Reply E → Type 0
IsToldNow (answer.Done r) faulted (Ok o) = o ≡ r
IsToldNow (answer.Done r) faulted (Err e) = ⊥
IsToldNow (answer.Later r) faulted o = IsReadNow r faulted o
IsToldNow answer.NoMemory faulted (Ok o) = ⊥
IsToldNow answer.NoMemory faulted (Err e) = ⊤

-- the answer of a step that tells a reply at once
abbrev pub told_answer : {E : Type 0} → Result replies.Reply E → Answer
told_answer (Ok r) = Ok (outcome.Reply r)
told_answer (Err e) = Err fault.NoMemory

-- what a fetch answers
abbrev pub fetch_answer : Result replies.Reply StepFault → Answer
fetch_answer (Ok r) = Ok (outcome.Reply r)
fetch_answer (Err f) = Err f

-- ---- splits

-- the slots with the two halves of one slot in its place: the lower half has its number, and the upper half has the next one
abbrev pub slots_split : List SlotState → ℕ → SlotState → Key → List SlotState
slots_split slots i h middle = with_two slots i (lower_half h middle) (upper_half h middle)

-- a step on a slot fails: the doubt of the slot was settled before, or is as it was
abbrev pub FailsSlot : SlotState → SlotState → Type 0
FailsSlot h h' = SettlesSlot h h' ⊎ (IsSome h.doubt × (h' ≡ h))

-- a slot settles its doubt and is split; or it fails
abbrev pub AreHalved : {E : Type 0} → List SlotState → ℕ → Key → Result (Unit {0}) E → List SlotState → Type 0
AreHalved slots i middle (Ok u) slots' = (h : SlotState) × (SettlesSlot (slice_index_or slots i no_slot) h × (slots' ≡ slots_split slots i h middle))
AreHalved slots i middle (Err e) slots' = ChangesSlot slots i slots' FailsSlot

-- What a split makes of the slots and of the split points. If it fails, it leaves the split points: the spans refuse it with this cause, or
-- they have no memory for it; or they allow it, and the slot fails
abbrev pub IsSplit : List SlotState → List Key → ℕ → Key → Type 0 → Answer → List SlotState → List Key → Type 0
IsSplit slots points i middle faulted (Ok outcome.Made) slots' points' =
    (split_refusal points i middle ≡ None) × (AreHalved {E = Unit {0}} slots i middle (Ok tt) slots' × (points' ≡ with_point points i middle))
IsSplit slots points i middle faulted (Err (fault.Map f)) slots' points' = (split_refusal points i middle ≡ cause_of f) × ((slots' ≡ slots) × (points' ≡ points))
IsSplit slots points i middle faulted (Err fault.Busy) slots' points' =
    (split_refusal points i middle ≡ None) × (faulted × (ChangesSlot slots i slots' FailsSlot × (points' ≡ points)))
IsSplit slots points i middle faulted (Err fault.NoMemory) slots' points' =
    (split_refusal points i middle ≡ None) × (ChangesSlot slots i slots' FailsSlot × (points' ≡ points))
IsSplit slots points i middle faulted other slots' points' = ⊥

-- ---- cares of one slot

-- the step that takes this care of the slot with this number
abbrev pub step_of : ℕ → CoreCare → Step
step_of i care.Settle = step.Settle i
step_of i care.Seal = step.Seal i
step_of i care.Load = step.Load i
step_of i care.Checkpoint = step.Checkpoint i
step_of i care.Compact = step.Compact i
step_of i care.Unload = step.Unload i
step_of i (care.Move server) = step.Move i server
step_of i (care.Repair stream extent node) = step.Repair i stream extent node

-- why a step on a slot fails
abbrev pub fault_of_slot : StoredFault → StepFault
fault_of_slot stored.Busy = fault.Busy
fault_of_slot stored.NoMemory = fault.NoMemory

-- why a repair fails
abbrev pub fault_of_repair : RepairFault → StepFault
fault_of_repair repair.NoSuchExtent = fault.NoSuchExtent
fault_of_repair repair.Unreachable = fault.Unreachable
fault_of_repair repair.NoMemory = fault.NoMemory

-- what a step answers whose call of the slot ended so
abbrev pub slot_answer : {T : Type 0} → Result T StoredFault → Answer
slot_answer (Ok u) = Ok outcome.Made
slot_answer (Err e) = Err (fault_of_slot e)

-- what a repair answers that ended so
abbrev pub repair_answer : Result (Unit {0}) RepairFault → Answer
repair_answer (Ok u) = Ok outcome.Made
repair_answer (Err e) = Err (fault_of_repair e)

-- what a care answers if nodes are out of reach
abbrev pub out_of_reach : CoreCare → Answer
out_of_reach (care.Repair stream extent node) = Err fault.Unreachable
out_of_reach x = Err fault.Busy

-- the care fails: nodes are out of reach, which is so only if a call of the wire failed; or memory ran out
abbrev pub FailsCare : CoreCare → Type 0 → Answer → Type 0
FailsCare x faulted r = (faulted × (r ≡ out_of_reach x)) ⊎ (r ≡ Err fault.NoMemory)

-- the care settles the doubt of the slot, and is then made or fails; or the settle fails, and the doubt stays
abbrev pub CaresSettled : CoreCare → SlotState → Type 0 → Answer → SlotState → Type 0 → Type 0
CaresSettled x h faulted r h' made =
    (SettlesSlot h h' × (made ⊎ FailsCare x faulted r)) ⊎ (IsSome h.doubt × (FailsCare x faulted r × (h' ≡ h)))

-- what a care of a slot answers, and what it leaves
abbrev pub IsTended : CoreCare → SlotState → Type 0 → Answer → SlotState → Type 0
IsTended care.Settle h faulted r h' = (SettlesSlot h h' × (r ≡ Ok outcome.Made)) ⊎ (IsSome h.doubt × (FailsCare care.Settle faulted r × (h' ≡ h)))
IsTended care.Seal h faulted r h' = CaresSettled care.Seal h faulted r h' (r ≡ Ok outcome.Made)
IsTended care.Load h faulted r h' = CaresSettled care.Load h faulted r h' (r ≡ Ok outcome.Made)
IsTended care.Checkpoint h faulted r h' = CaresSettled care.Checkpoint h faulted r h' (r ≡ Ok outcome.Made)
IsTended care.Compact h faulted r h' = CaresSettled care.Compact h faulted r h' (r ≡ Ok outcome.Made)
IsTended (care.Repair stream extent node) h faulted r h' =
    CaresSettled (care.Repair stream extent node) h faulted r h' ((r ≡ Ok outcome.Made) ⊎ (r ≡ Err fault.NoSuchExtent))
IsTended care.Unload h faulted r h' = (r ≡ Ok outcome.Made) × (h' ≡ h)
IsTended (care.Move server) h faulted r h' = (r ≡ Ok outcome.Made) × (h' ≡ h)

-- a slot that does not exist is told so, and the slots stay; a slot that exists is tended
abbrev pub IsTendedAt : List SlotState → ℕ → CoreCare → Type 0 → Answer → List SlotState → Type 0
IsTendedAt slots i x faulted r slots' =
    ((length slots ≤ i) × ((r ≡ Err fault.NoSuchSlot) × (slots' ≡ slots)))
    ⊎ ((i < length slots) × ChangesSlot slots i slots' (λ h h'. IsTended x h faulted r h'))

-- ---- services

-- What a core without a doubt answers to a request if no call of the wire fails: the model's reply at once, and no slot is in doubt after it;
-- or memory ran out, and nothing changed
abbrev pub AnswersSteadily : {E : Type 0} → CoreState → Asked → ℕ → Result replies.Reply E → CoreState → Type 0
AnswersSteadily c q t (Ok r) c' =
    IsCalm c → IsCalm c' × ((s : State) → StandsFor c s → (r ≡ reply_in s q t) × StandsFor c' (served s q t))
AnswersSteadily c q t (Err e) c' = IsCalm c → c' ≡ c
