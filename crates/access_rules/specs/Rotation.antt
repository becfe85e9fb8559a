-- Replacing a key of an account (Blob service REST reference, 2012-02-12, Authentication for the Azure Storage Services: an account
-- has two keys). The epochs are the stamp's own.
use Rattle.std.specs.Prelude.{ℕ, ◌+◌, ◌&&◌, nat_eq, Bool, true, List, [], ◌∷◌}
use Rattle.access_rules.specs.declared.keys.Keys.{Keys}
use Rattle.access_rules.specs.declared.rotation.Which.{Which}
use Rattle.access_rules.specs.declared.rotation.Which.TheVariants as which

-- the pair with one of its keys replaced, and with this epoch
abbrev pub rotated : Keys → Which → List ℕ → ℕ → Keys
rotated pair which.First key epoch = record { account = pair.account; first = key; second = pair.second; epoch = epoch }
rotated pair which.Second key epoch = record { account = pair.account; first = pair.first; second = key; epoch = epoch }

-- the epoch after an epoch
abbrev pub epoch_after : ℕ → ℕ
epoch_after epoch = epoch + 1

-- the epochs of the pairs are this number and the numbers after it, in turn
abbrev pub are_numbered_from : ℕ → List Keys → Bool
are_numbered_from n [] = true
are_numbered_from n (pair ∷ pairs) = nat_eq pair.epoch n && are_numbered_from (epoch_after n) pairs

-- the epochs of the pairs are 0, 1, 2 and so on, in turn
abbrev pub are_numbered : List Keys → Bool
are_numbered pairs = are_numbered_from 0 pairs
