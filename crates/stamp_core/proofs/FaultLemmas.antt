-- What the wire counts over the calls of a step.
use Rattle.std.proofs.Common.{◌≡◌, ◌≤◌, ◌<◌, ℕ, Bool, true, false, ap, ◌∙◌, arith}
use Rattle.std.proofs.lemmas.Bool.{lt-ltb}
use Rattle.extent_node.specs.Faults.{Calls}
use Rattle.extent_seal.specs.Counting.{Grows, all_faults}
use Rattle.stored_slot.specs.Served.{Faulted}
use Rattle.stamp_core.specs.CoreSteps.{has_faults}

-- a call that failed is counted
pub told : (old new : Calls) → Faulted old new → has_faults old new ≡ true
told old new failed = lt-ltb (all_faults old) (all_faults new) failed

-- also if more calls come after it
pub told_before : (old mid new : Calls) → Grows mid new → Faulted old mid → has_faults old new ≡ true
told_before old mid new grows failed = told old new (omega (arith, grows, failed))

-- and if there were calls before it
pub told_after : (old mid new : Calls) → Grows old mid → Faulted mid new → has_faults old new ≡ true
told_after old mid new grows failed = told old new (omega (arith, grows, failed))

pub grown : (old new : Calls) → Grows old new → all_faults old ≤ all_faults new
grown old new grows = omega (arith, grows)

-- if the count is as before, no call failed
pub never_before : (old mid new : Calls) → Grows mid new → all_faults new ≡ all_faults old → Faulted old mid → ⊥
never_before old mid new grows same failed = omega (arith, grows, same, failed)

pub never_after : (old mid new : Calls) → Grows old mid → all_faults new ≡ all_faults old → Faulted mid new → ⊥
never_after old mid new grows same failed = omega (arith, grows, same, failed)
