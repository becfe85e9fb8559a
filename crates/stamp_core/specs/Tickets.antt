-- Tickets as a list, and how a ticket is fetched (the stamp's own).
use Rattle.std.specs.Prelude.{◌≡◌, ℕ, zero, suc, List, [], ◌∷◌, ◌++◌, Option, Some, None, IsSome, Result, Ok, Err, slice_get, slice_set}
use Rattle.std.specs.BTreeMap.{BTreeMap, get}
use Rattle.std.specs.Option.{option_and_then}
use Rattle.std.specs.Ordering.{nat_cmp}
use Rattle.extent_seal.specs.declared.sealed.ReadFault.{ReadFault}
use Rattle.extent_seal.specs.declared.sealed.ReadFault.TheVariants as read
use Rattle.stamp_types.specs.declared.reply.Reply.{Reply}
use Rattle.core_run.specs.declared.step.StepFault.{StepFault}
use Rattle.core_run.specs.declared.step.StepFault.TheVariants as fault

-- what each of the first so many numbers has, in turn
abbrev pub listed : {X : Type 0} → (ℕ → Option X) → ℕ → List (Option X)
listed f zero = []
listed f (suc n) = listed f n ++ f n ∷ []

-- what the ticket of this number holds, if it was given and not fetched
abbrev pub held_reply : {X : Type 0} → List (Option X) → ℕ → Option X
held_reply tickets n = option_and_then (λ o. o) (slice_get tickets n)

-- what the place of this number has, if there is one
abbrev pub at_number : {X : Type 0} → BTreeMap ℕ (Option X) → ℕ → Option X
at_number tree n = option_and_then (λ o. o) (get nat_cmp tree n)

-- why a step that reads a ticket fails
abbrev pub fetch_fault : ReadFault → StepFault
fetch_fault read.Unreachable = fault.Unreachable
fetch_fault read.NoMemory = fault.NoMemory

-- The reply that was held is answered, and is held no more; or nothing was held. Or the nodes with the bytes are out of reach, which is so
-- only if a call of the wire failed, or memory ran out: then the reply is held as before
abbrev pub IsTicketFetched : Option Reply → Type 0 → Result Reply StepFault → Option Reply → Type 0
IsTicketFetched old faulted (Ok r) new = (old ≡ Some r) × (new ≡ None)
IsTicketFetched old faulted (Err fault.NoSuchTicket) new = (old ≡ None) × (new ≡ old)
IsTicketFetched old faulted (Err fault.Unreachable) new = IsSome old × (faulted × (new ≡ old))
IsTicketFetched old faulted (Err fault.NoMemory) new = IsSome old × (new ≡ old)
IsTicketFetched old faulted other new = ⊥

-- the tickets after a fetch: if it gave the reply, the ticket has ended
abbrev pub left_after : Result Reply StepFault → List (Option Reply) → ℕ → List (Option Reply)
left_after (Ok r) tickets n = slice_set tickets n None
left_after (Err f) tickets n = tickets
