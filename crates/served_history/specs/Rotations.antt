-- Which keys are of the pair in force, and which entries make a key so (Blob service REST reference, 2012-02-12, Authentication for the Azure
-- Storage Services: an account has two keys). That a rotation is an entry of each slot is the stamp's own.
use Rattle.std.specs.Prelude.{◌≡◌, ◌⊎◌, ℕ, List, Option, Some, None}
use Rattle.access_rules.specs.declared.keys.Keys.{Keys}
use Rattle.served_history.specs.declared.entry.Entry.{Entry}
use Rattle.served_history.specs.declared.entry.Entry.TheVariants.{Opened, Rotated, Served, Split}

-- there is a pair in force, and the key is one of the pair
abbrev pub HasKey : Option Keys → List ℕ → Type 0
HasKey None key = ⊥
HasKey (Some pair) key = (pair.first ≡ key) ⊎ (pair.second ≡ key)

-- the entry is a rotation of the account to this key
abbrev pub GivesKey : List ℕ → List ℕ → Entry → Type 0
GivesKey account key (Opened pairs) = ⊥
GivesKey account key (Served slot r) = ⊥
GivesKey account key (Split slot middle upper) = ⊥
GivesKey account key (Rotated slot named which new) = (named ≡ account) × (new ≡ key)
