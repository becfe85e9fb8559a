-- A number that counts one call more.
use Rattle.std.proofs.Common.{◌≤◌, ℕ, ◌+◌, arith}
use Rattle.extent_node.specs.Faults.{one_more}

-- it grows by one at most
pub one_more_bound : (n : ℕ) → one_more n ≤ n + 1
unfolding one_more
one_more_bound n = omega arith
