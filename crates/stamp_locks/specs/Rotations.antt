-- What a stamp does if a key of an account is replaced (Blob service REST reference, 2012-02-12, Authentication for the Azure Storage
-- Services: an account has two keys). That all slots have the new pair at once is the stamp's own.
use Rattle.std.specs.Prelude.{ℕ, List}
use Rattle.access_rules.specs.declared.rotation.Which.{Which}
use Rattle.slot_state.specs.NextPairs.{HasNextPair, HasNoNextPair}
use Rattle.slot_state.specs.Pairs.{Pairs}
use Rattle.slot_state.specs.declared.rotate_fault.RotateFault.{RotateFault}

-- a stamp with some key pairs replaces a key of the account's pair in force, and this is the epoch of the new pair
abbrev pub IsRotated : List ℕ → Which → List ℕ → ℕ → Type 0
IsRotated account which key epoch = (pairs : Pairs) × ((longer : Pairs) × HasNextPair pairs account which key epoch longer)

-- a stamp with some key pairs replaces no key of the account, and this is why
abbrev pub IsNotRotated : List ℕ → RotateFault → Type 0
IsNotRotated account f = (pairs : Pairs) × HasNoNextPair pairs account f
