use Rattle.std.proofs.Common.{◌≡◌, length}
use Rattle.slot_state.specs.Pairs.{first_pairs, with_first}
use Rattle.slot_state.specs.PairFaults.{pairs_fault}
use Rattle.slot_state.proofs.FaultLemmas.{fault_onto}
use Rattle.slot_state.proofs.account_pairs.AccountPairs.of.Given as goal

abbrev pub invariant-loop-pair : goal.invariant-loop-pair
invariant-loop-pair l = (with_first l.left.items l.all ≡ first_pairs l.initial.left.items) × (fault_onto l.left.items l.all ≡ pairs_fault l.initial.left.items)

abbrev pub decreases-loop-pair : goal.decreases-loop-pair
decreases-loop-pair l = length l.left.items
