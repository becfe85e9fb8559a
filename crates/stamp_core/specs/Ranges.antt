-- The ranges of the slots of a core (Calder et al., SOSP 2011, section 5.2: the partition map), and the key pairs that all slots share.
use Rattle.std.specs.Prelude.{◌≡◌, List, [], ◌∷◌, map, Option, Some, None}
use Rattle.stamp_values.specs.declared.key.Key.{Key}
use Rattle.partition_map.specs.Spans.{least_key}
use Rattle.slot_state.specs.Pairs.{Pairs}
use Rattle.slot_state.specs.Slots.{SlotState}

-- a first key; the first key past a range, if there is one; and the key pairs of all accounts
abbrev pub Range : Type 0
Range = Key × (Option Key × Pairs)

-- the range of a slot, with its key pairs
abbrev pub range_of : SlotState → Range
range_of h = (h.from, (h.to, h.pairs))

-- the ranges that begin with this key and with each of these split points, all with these key pairs
abbrev pub ranges_from : Pairs → Key → List Key → List Range
ranges_from pairs first [] = (first, (None, pairs)) ∷ []
ranges_from pairs first (point ∷ points) = (first, (Some point, pairs)) ∷ ranges_from pairs point points

-- the slots have the ranges of the spans between these split points, in turn, and all have the same key pairs
abbrev pub HaveSpans : List SlotState → List Key → Type 0
HaveSpans slots points = (pairs : Pairs) × (map range_of slots ≡ ranges_from pairs least_key points)
