-- The key pairs of accounts (Blob service REST reference, 2012-02-12, Authentication for the Azure Storage Services: an account has two
-- keys). Epochs are the stamp's own.
use Rattle.std.specs.Prelude.{◌≡◌, ◌-◌, ℕ, true, List, [], ◌∷◌, length, Option, Some, None, unwrap_or, slice_get}
use Rattle.std.specs.FinMap as finite
use Rattle.std.specs.FinMap.{FinMap}
use Rattle.stamp_values.specs.Order.{name_cmp}
use Rattle.access_rules.specs.declared.keys.Keys.{Keys}
use Rattle.access_rules.specs.Rotation.{are_numbered}

-- the key pairs of each account by its name, the oldest pair first
abbrev pub Pairs : Type 0
Pairs = FinMap name_cmp (List Keys)

-- the key pairs of the account; none if the stamp has no such account
abbrev pub pairs_at : Pairs → List ℕ → List Keys
pairs_at pairs account = unwrap_or (finite.get pairs account) []

-- the pair in force: the last one
abbrev pub in_force : List Keys → Option Keys
in_force ks = slice_get ks (length ks - 1)

-- the account's pair in force
abbrev pub current_at : Pairs → List ℕ → Option Keys
current_at pairs account = in_force (pairs_at pairs account)

-- the epoch of a pair; without a pair it is 0
abbrev pub epoch_of : Option Keys → ℕ
epoch_of None = 0
epoch_of (Some pair) = pair.epoch

-- the epochs of each account's pairs are 0, 1, 2 and so on, in turn
abbrev pub AreNumbered : Pairs → Type 0
AreNumbered pairs = (account : List ℕ) → are_numbered (pairs_at pairs account) ≡ true

-- these pairs with each of the other pairs under the name of its account, as the only pair of the account
abbrev pub with_first : List Keys → Pairs → Pairs
with_first [] pairs = pairs
with_first (k ∷ ks) pairs = finite.insert (with_first ks pairs) k.account (k ∷ [])

-- each pair under the name of its account, as the only pair of the account
abbrev pub first_pairs : List Keys → Pairs
first_pairs ks = with_first ks finite.empty
