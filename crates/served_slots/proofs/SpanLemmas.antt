-- What the spans answer of the slot that has a key.
use Rattle.std.specs.Prelude.{◌≡◌, ◌≤◌, ℕ, List, Option, Some, length}
use Rattle.std.specs.List.{remove}
use Rattle.std.proofs.Common.{◌∙◌, ap, arith, sym}
use Rattle.std.proofs.lemmas.Bool.Decides.{nat_tests}
use Rattle.stamp_values.specs.declared.key.Key.{Key}
use Rattle.partition_map.specs.Spans.{slot_of, split_refusal, with_point}
use Rattle.partition_map.specs.declared.fault.MapFault.{MapFault}
use Rattle.partition_map.specs.declared.fault.MapFault.TheVariants as cause
use Rattle.partition_map.proofs.BoundLemmas.{without_new}
use Rattle.served_slots.specs.Steps.{SpansSay, refusal_at, split_at}

-- what the spans say of the slot that was found
pub refusal_of_found : (points : List Key) (slot : ℕ) (middle : Key) (why : Option MapFault) → slot ≡ slot_of points middle → split_refusal points slot middle ≡ why → refusal_at points middle ≡ why
refusal_of_found points slot middle why found said = ap (λ (i : ℕ). split_refusal points i middle) (sym found) ∙ said

-- the spans after a split of the slot that was found
pub split_of_found : (points new : List Key) (slot : ℕ) (middle : Key) → slot ≡ slot_of points middle → new ≡ with_point points slot middle → new ≡ split_at points middle
split_of_found points new slot middle found put = put ∙ ap (λ (i : ℕ). with_point points i middle) found

-- a slot that was found exists
pub has_slot : (points : List Key) (slot : ℕ) (middle : Key) → slot ≤ length points → split_refusal points slot middle ≡ Some cause.NoSuchSlot → ⊥
has_slot points slot middle within is = grind (arith, nat_tests)

-- spans that were split and joined again are as they were
pub joined : (old between new : List Key) (slot : ℕ) (middle : Key) → slot ≤ length old → between ≡ with_point old slot middle → new ≡ remove between slot → new ≡ old
joined old between new slot middle within put taken = taken ∙ ap (λ (points : List Key). remove points slot) put ∙ without_new old slot middle within

-- what these spans say, some spans say
pub said_by : (points : List Key) (middle : Key) (why : Option MapFault) → refusal_at points middle ≡ why → SpansSay middle why
said_by points middle why said = record { points = points; said = said }
