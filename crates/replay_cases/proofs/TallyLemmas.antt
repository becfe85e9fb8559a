-- The last line that is printed.
use Rattle.std.proofs.Common.{◌≡◌, ℕ, ◌++◌, arith}
use Rattle.std.specs.Prelude.{codes, decimal}
use Rattle.std.proofs.lemmas.Grind.{common_steps}
use Rattle.replay_cases.specs.Tallies.{tally_line}

-- the line if not all cases hold
pub tally_some : (holding cases : ℕ) → (holding ≡ cases → ⊥) → tally_line holding cases ≡ decimal holding ++ (codes " of " ++ (decimal cases ++ codes " cases hold\n"))
tally_some holding cases differ = grind (arith, common_steps)
