-- The machine: what a step answers, and what it leaves (Calder et al., SOSP 2011, sections 4 and 5: what a partition server does with its
-- range and its streams). The answers for nodes that are out of reach, for a change whose outcome is unknown and for a lack of memory are
-- the stamp's own.
use Rattle.std.specs.Prelude.{◌≡◌, ◌⊎◌, ◌≤◌, ℕ, nat_lt, Bool, true, false, List, [], ◌∷◌, length, Option, Some, None, IsSome, Result, Ok, Err}
use Rattle.stamp_values.specs.declared.key.Key.{Key}
use Rattle.stamp_types.specs.declared.past.Past.{Past}
use Rattle.stamp_types.specs.declared.reply.Reply as replies
use Rattle.stamp_types.specs.Requests.{Asked}
use Rattle.access_rules.specs.declared.keys.Keys.{Keys}
use Rattle.access_rules.specs.declared.rotation.Which.{Which}
use Rattle.access_rules.specs.Rotation.{epoch_after, rotated}
use Rattle.partition_map.specs.declared.fault.MapFault.{MapFault}
use Rattle.partition_map.specs.declared.fault.MapFault.TheVariants as map_fault
use Rattle.partition_map.specs.Spans.{split_refusal}
use Rattle.slot_state.specs.NextPairs.{last_epoch}
use Rattle.slot_state.specs.Pairs.{current_at}
use Rattle.slot_state.specs.Slots.{entry_of}
use Rattle.stored_slot.specs.Served.{busy, unknown}
use Rattle.core_run.specs.declared.step.Step.{Step}
use Rattle.core_run.specs.declared.step.Step.TheVariants as step
use Rattle.core_run.specs.declared.step.Outcome.{Outcome}
use Rattle.core_run.specs.declared.step.Outcome.TheVariants.{Reply, Later, Made, Epoch}
use Rattle.core_run.specs.declared.step.StepFault.{StepFault}
use Rattle.core_run.specs.declared.step.StepFault.TheVariants as fault
use Rattle.core_run.specs.States.{State, change_in, slot_doubt, dropped, has_slot, held_by, kept, reply_in, served, slot_for, split, with_doubt, with_pair, with_ticket, without_ticket}

-- what a step answers
abbrev pub Answer : Type 0
Answer = Result Outcome StepFault

-- ---- how a step fails

-- what the step answers if it needs nodes that are out of reach
abbrev pub out_of_reach : Step → Answer
out_of_reach (step.Serve q t) = Ok (Reply busy)
out_of_reach (step.Fetch n) = Err fault.Unreachable
out_of_reach (step.Repair i stream extent node) = Err fault.Unreachable
out_of_reach x = Err fault.Busy

-- the step failed: nodes were out of reach, which is so only if a call of the wire failed during the step; or memory ran out
abbrev pub Fails : Step → Bool → Answer → Type 0
Fails x faulted r = ((faulted ≡ true) × (r ≡ out_of_reach x)) ⊎ (r ≡ Err fault.NoMemory)

-- the step is made; or it fails, and nothing changes
abbrev pub MadeOrFails : Step → State → Bool → Answer → State → Type 0 → Type 0
MadeOrFails x s faulted r s' made = made ⊎ (Fails x faulted r × (s' ≡ s))

-- ---- doubts

-- a change in doubt is kept or dropped, as a whole; without a doubt nothing changes
abbrev pub SettlesDoubtBy : Option Past → State → ℕ → State → Type 0
SettlesDoubtBy None s i m = m ≡ s
SettlesDoubtBy (Some e) s i m = (m ≡ kept s i e) ⊎ (m ≡ dropped s i)

-- the doubt of the slot is settled, if there is one
abbrev pub SettlesDoubt : State → ℕ → State → Type 0
SettlesDoubt s i m = SettlesDoubtBy (slot_doubt s i) s i m

-- the step first settles the doubt of the slot, and is then made from that state. If the settle fails, the step fails, and the doubt stays
abbrev pub SettledFirst : Step → State → ℕ → Bool → Answer → State → (State → Type 0) → Type 0
SettledFirst x s i faulted r s' made =
    ((m : State) × (SettlesDoubt s i m × made m))
    ⊎ (IsSome (slot_doubt s i) × (Fails x faulted r × (s' ≡ s)))

-- the step settles first, and is then made or fails
abbrev pub OnSettled : Step → State → ℕ → Bool → Answer → State → (State → Type 0) → Type 0
OnSettled x s i faulted r s' made = SettledFirst x s i faulted r s' (λ m. MadeOrFails x m faulted r s' (made m))

-- a step on a slot that does not exist says so, and changes nothing
abbrev pub OnSlotIf : Bool → State → Answer → State → Type 0 → Type 0
OnSlotIf true s r s' made = made
OnSlotIf false s r s' made = (r ≡ Err fault.NoSuchSlot) × (s' ≡ s)

abbrev pub OnSlot : State → ℕ → Answer → State → Type 0 → Type 0
OnSlot s i r s' made = OnSlotIf (has_slot s i) s r s' made

-- ---- requests

-- A request is answered with the model's reply, and leaves what the model says, at once or by a ticket that holds the reply. Or a call of
-- the wire failed while the log was written, and the request makes a change: then the outcome of this change is unknown, and the change
-- is in doubt
abbrev pub Serves : State → Asked → ℕ → Bool → Answer → State → Type 0
Serves s q t faulted r s' =
    ((r ≡ Ok (Reply (reply_in s q t))) × (s' ≡ served s q t))
    ⊎ (((r ≡ Ok (Later (length s.tickets))) × (s' ≡ with_ticket (served s q t) (reply_in s q t)))
    ⊎ ((faulted ≡ true) × (IsSome (change_in s q t) × ((r ≡ Ok (Reply unknown)) × (s' ≡ with_doubt s (slot_for s q) (entry_of s.pairs q t))))))

-- a ticket is fetched: the answer is the reply that it holds, and the ticket ends. If the fetch fails, the ticket stays
abbrev pub FetchesBy : Option replies.Reply → State → ℕ → Bool → Answer → State → Type 0
FetchesBy None s n faulted r s' = (r ≡ Err fault.NoSuchTicket) × (s' ≡ s)
FetchesBy (Some o) s n faulted r s' = MadeOrFails (step.Fetch n) s faulted r s' ((r ≡ Ok (Reply o)) × (s' ≡ without_ticket s n))

-- ---- slots

-- a seal, a load, a checkpoint, a compaction, a move or an unload changes nothing
abbrev pub Leaves : State → Answer → State → Type 0
Leaves s r s' = (r ≡ Ok Made) × (s' ≡ s)

-- a repair changes nothing, also if the slot has no such extent
abbrev pub Repairs : State → Answer → State → Type 0
Repairs s r s' = ((r ≡ Ok Made) ⊎ (r ≡ Err fault.NoSuchExtent)) × (s' ≡ s)

-- A split that the spans refuse says the cause, and settles nothing. Else the slot is split, after its doubt is settled; or memory of the
-- spans ran out, and nothing changes
abbrev pub SplitsBy : Option MapFault → State → ℕ → Key → Bool → Answer → State → Type 0
SplitsBy (Some cause) s i middle faulted r s' = (r ≡ Err (fault.Map cause)) × (s' ≡ s)
SplitsBy None s i middle faulted r s' =
    OnSettled (step.Split i middle) s i faulted r s' (λ m. (r ≡ Ok Made) × (s' ≡ split m i middle))
    ⊎ ((r ≡ Err (fault.Map map_fault.NoMemory)) × (s' ≡ s))

-- ---- keys

-- a key of the pair in force is replaced: the account has one pair more, of the next epoch
abbrev pub RotatesBy : Option Keys → State → List ℕ → Which → List ℕ → Answer → State → Type 0
RotatesBy None s account which key r s' = (r ≡ Err fault.NoAccount) × (s' ≡ s)
RotatesBy (Some old) s account which key r s' =
    ((r ≡ Ok (Epoch (epoch_after old.epoch))) × (s' ≡ with_pair s account (rotated old which key (epoch_after old.epoch))))
    ⊎ (((old.epoch ≡ last_epoch) × ((r ≡ Err fault.Last) × (s' ≡ s)))
    ⊎ ((r ≡ Err fault.NoMemory) × (s' ≡ s)))

-- ---- steps and runs

-- what a step may answer, and what it leaves, if a call of the wire failed during it, or if none did
abbrev pub Takes : State → Step → Bool → Answer → State → Type 0
Takes s (step.Serve q t) faulted r s' = OnSettled (step.Serve q t) s (slot_for s q) faulted r s' (λ m. Serves m q t faulted r s')
Takes s (step.Fetch n) faulted r s' = FetchesBy (held_by s n) s n faulted r s'
Takes s (step.Split i middle) faulted r s' = SplitsBy (split_refusal s.points i middle) s i middle faulted r s'
Takes s (step.Settle i) faulted r s' = OnSlot s i r s' (SettledFirst (step.Settle i) s i faulted r s' (λ m. Leaves m r s'))
Takes s (step.Seal i) faulted r s' = OnSlot s i r s' (OnSettled (step.Seal i) s i faulted r s' (λ m. Leaves m r s'))
Takes s (step.Load i) faulted r s' = OnSlot s i r s' (OnSettled (step.Load i) s i faulted r s' (λ m. Leaves m r s'))
Takes s (step.Checkpoint i) faulted r s' = OnSlot s i r s' (OnSettled (step.Checkpoint i) s i faulted r s' (λ m. Leaves m r s'))
Takes s (step.Compact i) faulted r s' = OnSlot s i r s' (OnSettled (step.Compact i) s i faulted r s' (λ m. Leaves m r s'))
Takes s (step.Repair i stream extent node) faulted r s' = OnSlot s i r s' (OnSettled (step.Repair i stream extent node) s i faulted r s' (λ m. Repairs m r s'))
Takes s (step.Move i server) faulted r s' = OnSlot s i r s' (Leaves s r s')
Takes s (step.Unload i) faulted r s' = OnSlot s i r s' (Leaves s r s')
Takes s (step.Rotate account which key) faulted r s' = RotatesBy (current_at s.pairs account) s account which key r s'

-- from a state, after so many faults of the wire, the steps are answered so, and lead to another state, after so many faults. During a
-- step a call failed if the wire counts more faults after the step than before it
abbrev pub IsRun : State → ℕ → List Step → List Answer → State → ℕ → Type 0
IsRun s faults [] [] s' faults' = (s' ≡ s) × (faults' ≡ faults)
IsRun s faults (x ∷ xs) (r ∷ rs) s' faults' =
    (m : State) × ((now : ℕ) × ((faults ≤ now) × (Takes s x (nat_lt faults now) r m × IsRun m now xs rs s' faults')))
IsRun s faults xs rs s' faults' = ⊥
