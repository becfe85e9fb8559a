-- Key pairs that a slot takes.
use Rattle.std.proofs.Common.{◌≡◌, ◌<◌, ◌-◌, arith, ℕ, List, Some, sym}
use Rattle.access_rules.specs.declared.keys.Keys.{Keys}
use Rattle.slot_state.specs.NextPairs.{IsNext}
use Rattle.slot_state.specs.Pairs.{Pairs, current_at, pairs_at}

-- a pair whose epoch is one higher than that of the pair in force is the next one
pub next_of : (pairs : Pairs) (account : List ℕ) (old pair : Keys) → Some old ≡ current_at pairs account → old.epoch < pair.epoch → pair.epoch - old.epoch ≡ 1 → IsNext (pairs_at pairs account) pair
next_of pairs account old pair there later is = (old, (sym there, omega (arith, later, is)))
