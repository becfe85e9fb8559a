-- What a rotation makes of the key pairs of a slot, and what an operator knows of the history then (Blob service REST reference, 2012-02-12,
-- Authentication for the Azure Storage Services: an account has two keys). That each slot enters the rotation is the stamp's own.
use Rattle.std.specs.Prelude.{◌≡◌, ℕ, Bool, true, List, [], ◌∷◌, ◌++◌, map, Option, Some, None}
use mathlib.Core.List.{IsPrefix}
use Rattle.stamp_values.specs.declared.key.Key.{Key}
use Rattle.access_rules.specs.declared.keys.Keys.{Keys}
use Rattle.access_rules.specs.declared.rotation.Which.{Which}
use Rattle.slot_state.specs.NextPairs.{last_epoch}
use Rattle.served_history.specs.declared.entry.Entry.{Entry}
use Rattle.served_history.specs.declared.entry.Entry.TheVariants.{Rotated}
use Rattle.served_history.specs.Connections.{IsAmong}
use Rattle.served_history.specs.Growth.{IsEntered, SlotFront}
use Rattle.served_history.specs.Histories.{owner, pair_for}
use Rattle.served_slots.specs.Steps.{HasOneMore}

-- ---- one slot

-- a request on a key of the slot is judged by a pair with this epoch after the entries
pub record IsToldBy (slot : ℕ) (account : List ℕ) (epoch : ℕ) (log : List Entry) : Type 0 where
  pub key : Key
  pub pair : Keys
  pub has : owner log key ≡ slot
  pub judges : pair_for log key account ≡ Some pair
  pub told : epoch ≡ pair.epoch

-- A slot that knows the history entered the rotation, as its one entry, after what was known, and knows then what is known. Or it is of no use any
-- more, and it is told that the history missed an entry. A slot of no use stays so
abbrev pub RotatesSlot : Option SlotFront → List Entry → List ℕ → Which → List ℕ → List Entry → Bool → Option SlotFront → Type 0
RotatesSlot (Some front) known account which key known' missed (Some front') = IsEntered front.slot front.log known (Rotated front.slot account which key) known' × HasOneMore front known' front'
RotatesSlot (Some front) known account which key known' missed None = missed ≡ true
RotatesSlot None known account which key known' missed after = after ≡ None

-- ---- all slots

-- the entries by which these slots replace the key
abbrev pub rotations_of : List ℕ → List ℕ → Which → List ℕ → List Entry
rotations_of slots account which key = map (λ slot. Rotated slot account which key) slots

-- What was known of the history is continued by entries, among which are the rotations of some slots in turn, and then by the rotation of one slot
-- more. The epoch told is that of a pair by which this slot judges from then on
pub record HasRotated (known : List Entry) (account : List ℕ) (which : Which) (key : List ℕ) (epoch : ℕ) (known' : List Entry) : Type 0 where
  pub slots : List ℕ
  pub slot : ℕ
  pub others : List Entry
  pub enters : known' ≡ (known ++ others) ++ Rotated slot account which key ∷ []
  pub own : IsAmong (rotations_of slots account which key) others
  pub told : IsToldBy slot account epoch known'

-- some slots replaced the key, the last of which told this epoch; or no slot did
abbrev pub RotatesSlots : List Entry → List ℕ → Which → List ℕ → Option ℕ → List Entry → Type 0
RotatesSlots known account which key None known' = known' ≡ known
RotatesSlots known account which key (Some epoch) known' = HasRotated known account which key epoch known'

-- a beginning of a history, which the known entries begin too, after which the account's pair in force for some key has the last epoch
pub record HasLastEpoch (known : List Entry) (account : List ℕ) : Type 0 where
  pub history : List Entry
  pub log : List Entry
  pub knew : IsPrefix known history
  pub begins : IsPrefix log history
  pub key : Key
  pub pair : Keys
  pub judges : pair_for log key account ≡ Some pair
  pub last : pair.epoch ≡ last_epoch
