-- Key pairs of accounts that get later pairs (Blob service REST reference, 2012-02-12, Authentication for the Azure Storage Services: an
-- account has two keys). The epochs are the stamp's own.
use Rattle.std.specs.Prelude.{◌≡◌, ◌⊎◌, ℕ, List, [], ◌∷◌, ◌++◌, Some, None, IsSome}
use Rattle.std.specs.FinMap as finite
use Rattle.stamp_values.specs.declared.key.Key.{Key}
use Rattle.access_rules.specs.declared.keys.Keys.{Keys}
use Rattle.access_rules.specs.declared.rotation.Which.{Which}
use Rattle.access_rules.specs.declared.rotation.Which.TheVariants as side
use Rattle.access_rules.specs.Rotation.{epoch_after, rotated}
use Rattle.slot_state.specs.Pairs.{Pairs, current_at, in_force, pairs_at}
use Rattle.slot_state.specs.Slots.{SlotState, replayed_at}
use Rattle.slot_state.specs.declared.rotate_fault.RotateFault.{RotateFault}
use Rattle.slot_state.specs.declared.rotate_fault.RotateFault.TheVariants as fault

-- the epoch of the pair is the one after the epoch of the pair in force
abbrev pub IsNext : List Keys → Keys → Type 0
IsNext ks next = (old : Keys) × ((in_force ks ≡ Some old) × (next.epoch ≡ epoch_after old.epoch))

-- the pairs with one pair more of this account, after the other pairs of the account
abbrev pub with_next : Pairs → List ℕ → Keys → Pairs
with_next pairs account next = finite.insert pairs account (pairs_at pairs account ++ next ∷ [])

-- the last epoch that there can be
abbrev pub last_epoch : ℕ
last_epoch = 18446744073709551615

-- the pair has this key in the place of the one that is replaced, and the other key of the old pair
abbrev pub HasNewKey : Keys → Keys → Which → List ℕ → Type 0
HasNewKey pair old side.First key = (pair.first ≡ key) × (pair.second ≡ old.second)
HasNewKey pair old side.Second key = (pair.first ≡ old.first) × (pair.second ≡ key)

-- the account has a pair in force, after which comes the pair with this epoch; and these are the pairs of all accounts with it
abbrev pub HasNextPair : Pairs → List ℕ → Which → List ℕ → ℕ → Pairs → Type 0
HasNextPair pairs account which key epoch longer =
    (old : Keys) × ((current_at pairs account ≡ Some old) × ((epoch ≡ epoch_after old.epoch) × (longer ≡ with_next pairs account (rotated old which key (epoch_after old.epoch)))))

-- why no pair comes after the pair in force: the stamp has no such account, or no epoch comes after the epoch of the pair, or memory ran out
abbrev pub HasNoNextPair : Pairs → List ℕ → RotateFault → Type 0
HasNoNextPair pairs account fault.NoAccount = current_at pairs account ≡ None
HasNoNextPair pairs account fault.Last = (old : Keys) × ((current_at pairs account ≡ Some old) × (old.epoch ≡ last_epoch))
HasNoNextPair pairs account fault.NoMemory = IsSome (current_at pairs account)

-- the second list is the first one, or the first one has pairs and the second one has more pairs after them
abbrev pub IsFront : List Keys → List Keys → Type 0
IsFront ks ls = (ls ≡ ks) ⊎ (IsSome (in_force ks) × ((more : List Keys) × (ls ≡ ks ++ more)))

-- each account has the pairs that it had, and may have more pairs after them
abbrev pub AreFront : Pairs → Pairs → Type 0
AreFront pairs longer = (account : List ℕ) → IsFront (pairs_at pairs account) (pairs_at longer account)

-- the slot with these pairs in the place of its own
abbrev pub with_pairs : Pairs → SlotState → SlotState
with_pairs pairs s = record s { pairs = pairs }

-- each container is the same by the pairs as by the slot's own pairs
abbrev pub ReplaysBy : Pairs → SlotState → Type 0
ReplaysBy pairs s = (key : Key) → replayed_at pairs s.histories key ≡ replayed_at s.pairs s.histories key
