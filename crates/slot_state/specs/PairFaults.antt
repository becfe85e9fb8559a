-- Why the pairs of keys that a stamp begins with are refused.
use Rattle.std.specs.Prelude.{ℕ, nat_eq, Bool, cond, List, [], ◌∷◌, Option, Some, None}
use Rattle.std.specs.List.{list_any}
use Rattle.std.specs.Ordering.{eq_by_cmp}
use Rattle.list_pages.specs.Containers.{or_else}
use Rattle.stamp_values.specs.Order.{name_cmp}
use Rattle.access_rules.specs.declared.keys.Keys.{Keys}
use Rattle.slot_state.specs.declared.pairs_fault.PairsFault.{PairsFault}
use Rattle.slot_state.specs.declared.pairs_fault.PairsFault.TheVariants.{NotFirst, Twice}

-- whether one of the pairs is of the account
abbrev pub has_pair : List Keys → List ℕ → Bool
has_pair ks account = list_any (λ (k : Keys). eq_by_cmp name_cmp account k.account) ks

-- why a pair is refused, if a pair of its account is taken or is not taken: its epoch is not 0, or it comes twice
abbrev pub fault_if : Bool → Keys → Option PairsFault
fault_if taken k = cond (nat_eq k.epoch 0) (cond taken (Some Twice) None) (Some NotFirst)

-- Why the list is refused: the last pair names the cause whose epoch is not 0, or whose account comes again after it. The list is taken if
-- the epoch of each pair is 0 and no account comes twice.
abbrev pub pairs_fault : List Keys → Option PairsFault
pairs_fault [] = None
pairs_fault (k ∷ ks) = or_else (pairs_fault ks) (fault_if (has_pair ks k.account) k)
