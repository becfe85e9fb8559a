-- Spans of keys: the keys from one split point to the next (Calder et al., SOSP 2011, section 5.2: the partition map; section 5.5: splits
-- and merges of partitions). The first span begins with the least key, and the last span has no end.
use Rattle.std.specs.Prelude.{◌≤◌, ℕ, suc, ◌+◌, nat_lt, Bool, true, not, ◌&&◌, ◌==◌, if◌then◌else◌, List, [], ◌∷◌, length, Option, Some, None, slice_get, slice_index_or, slice_set}
use Rattle.std.specs.List.{insert}
use Rattle.std.specs.List.Sorted.{IsStrictlySortedBy}
use Rattle.stamp_values.specs.Order.{key_cmp}
use Rattle.stamp_values.specs.Trees.{is_below, is_from}
use Rattle.stamp_values.specs.declared.key.Key.{Key}
use Rattle.partition_map.specs.declared.fault.MapFault.{MapFault}
use Rattle.partition_map.specs.declared.fault.MapFault.TheVariants as fault

-- the key that comes before all other keys
abbrev pub least_key : Key
least_key = record { account = []; container = [] }

-- the key has no account and no container
abbrev pub is_least : Key → Bool
is_least key = length key.account == 0 && length key.container == 0

-- how many split points there may be: one less than spans
abbrev pub points_limit : ℕ
points_limit = 255

-- the number of the slot whose span has the key: how many split points come before the first one past the key
abbrev pub slot_of : List Key → Key → ℕ
slot_of [] key = 0
slot_of (point ∷ points) key = if is_below point key then 0 else 1 + slot_of points key

-- the first key of the span with this number
abbrev pub first_key : List Key → ℕ → Key
first_key points i = slice_index_or (least_key ∷ points) i least_key

-- the first key past the span with this number, if there is such a key
abbrev pub bound_of : List Key → ℕ → Option Key
bound_of points i = slice_get points i

-- the first key past the span that has this key, if there is such a key
abbrev pub bound_at : List Key → Key → Option Key
bound_at points key = bound_of points (slot_of points key)

-- the key comes before the bound, if there is a bound
abbrev pub is_before : Option Key → Key → Bool
is_before None key = true
is_before (Some bound) key = is_below bound key

-- the key lies in the span: it is the first key of the span or comes after it, and it comes before the bound of the span
abbrev pub is_in_span : List Key → ℕ → Key → Bool
is_in_span points i key = is_from (first_key points i) key && is_before (bound_of points i) key

-- the key comes after the first key of the span and before the bound of the span
abbrev pub is_inside : List Key → ℕ → Key → Bool
is_inside points i key = is_below key (first_key points i) && is_before (bound_of points i) key

-- the least key and the split points rise, and there are at most as many split points as there may be
pub record AreSpans (points : List Key) : Type 0 where
  pub rise : IsStrictlySortedBy key_cmp (least_key ∷ points)
  pub few : length points ≤ points_limit

-- the first cause that refuses the split of a span at a key
abbrev pub split_refusal : List Key → ℕ → Key → Option MapFault
split_refusal points i middle =
    if nat_lt (length points) i then Some fault.NoSuchSlot
    else if not (is_inside points i middle) then Some fault.NotInside
    else if nat_lt (length points) points_limit then None
    else Some fault.Full

-- the cause that a fault names. Memory that ran out is not such a cause
abbrev pub cause_of : MapFault → Option MapFault
cause_of fault.NoMemory = None
cause_of other = Some other

-- the split points with one more: the span with this number is split at the key
abbrev pub with_point : List Key → ℕ → Key → List Key
with_point points i middle = insert points i middle

-- a list with two elements in place of one
abbrev pub with_two : {T : Type 0} → List T → ℕ → T → T → List T
with_two xs i first second = insert (slice_set xs i first) (suc i) second
