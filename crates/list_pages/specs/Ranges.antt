-- Ranges of keys (Calder et al., SOSP 2011, section 5.5: each partition has a range of keys).
use Rattle.std.specs.Prelude.{◌≡◌, ℕ, List, Option, IfSome, true}
use Rattle.std.specs.FinMap.{get}
use Rattle.std.specs.List.{filter, slice_get}
use Rattle.std.specs.Ordering.{is_lt}
use Rattle.std.specs.declared.cmp.Ordering.TheVariants.{Less}
use Rattle.stamp_values.specs.Order.{key_cmp}
use Rattle.stamp_values.specs.Trees.{is_from}
use Rattle.stamp_values.specs.declared.key.Key.{Key}
use Rattle.stamp_types.specs.World.{World}

-- the key of a container of an account, or of a bound among its containers
abbrev pub key_of : List ℕ → List ℕ → Key
key_of account container = record { account = account; container = container }

-- the bound of the range that has a key: the first split point past the key
abbrev pub bound_of : List Key → Key → Option Key
bound_of splits key = slice_get (filter (λ split. is_lt (key_cmp key split)) splits) 0

-- two worlds have the same containers from a key on and before a bound
abbrev pub AreSameInRange : {C : Type 0} → Key → Option Key → World C → World C → Type 0
AreSameInRange start bound w v = (key : Key) → is_from start key ≡ true → IfSome bound (λ end. key_cmp key end ≡ Less) → get w key ≡ get v key
