-- Slots that stand for a state of the machine (Calder et al., SOSP 2011, section 5: the map of partitions).
use Rattle.std.specs.Prelude.{◌≡◌, ℕ, ◌+◌, List, [], ◌∷◌, Option, length, map, refl, slice_index_or}
use Rattle.std.specs.Coded.{Coded, code_by, coded×, coded_list, coded_option}
use Rattle.std.specs.FinMap as finite
use Rattle.stamp_values.specs.Trees.{key_code}
use Rattle.stamp_values.specs.declared.key.Key.{Key}
use Rattle.stamp_types.specs.contracts.reply.Reply as replies
use Rattle.stamp_types.specs.declared.reply.Reply.{Reply}
use Rattle.stamp_types.specs.World.{part_at}
use Rattle.partition_map.specs.Spans.{slot_of, with_point, with_two}
use Rattle.slot_state.specs.Pairs.{Pairs}
use Rattle.slot_state.specs.Slots.{SlotState, empty_slot, lower_half, replayed_at, slot_code, upper_half}
use Rattle.core_run.specs.Places.{IsSound}
use Rattle.core_run.specs.States.{State}

-- what a core has: its slots, the split points between their spans, and for each ticket the reply that it holds until it is fetched
pub record CoreState : Type 0 where
  pub slots : List SlotState
  pub points : List Key
  pub tickets : List (Option Reply)

-- the code of a core
abbrev pub core_code : Coded CoreState
core_code =
    code_by (List SlotState × (List Key × List (Option Reply))) (coded× (coded_list slot_code) (coded× (coded_list key_code) (coded_list (coded_option replies.the_row.coded))))
    (λ c. (c.slots, (c.points, c.tickets))) (λ p. record { slots = p.0; points = p.1.0; tickets = p.1.1 }) (λ _. refl)

-- a core of one slot of all keys, without containers and tickets
abbrev pub first_core : Pairs → CoreState
first_core pairs = record { slots = empty_slot pairs ∷ []; points = []; tickets = [] }

-- a slot that keeps nothing
abbrev pub no_slot : SlotState
no_slot = empty_slot finite.empty

-- the slot of the span that has the key
abbrev pub slot_at : List SlotState → List Key → Key → SlotState
slot_at slots points key = slice_index_or slots (slot_of points key) no_slot

-- the core after the slot with this number was split at a key: the lower half has its number, and the upper half the next one
abbrev pub with_halves : CoreState → ℕ → Key → CoreState
with_halves c i middle = record c {
  slots = with_two c.slots i (lower_half (slice_index_or c.slots i no_slot) middle) (upper_half (slice_index_or c.slots i no_slot) middle);
  points = with_point c.points i middle;
}

-- The core stands for the state, which is sound: the split points and the tickets are the state's; there is one slot more than split points,
-- and its doubt is the state's for it; each slot has the key pairs of the state; and each container is what its history in its slot replays
-- to
pub record StandsFor (c : CoreState) (s : State) : Type 0 where
  pub points : s.points ≡ c.points
  pub tickets : s.tickets ≡ c.tickets
  pub counted : length c.slots ≡ length c.points + 1
  pub doubts : s.doubts ≡ map (λ h. h.doubt) c.slots
  pub sound : IsSound s
  pub pairs : (key : Key) → (slot_at c.slots c.points key).pairs ≡ s.pairs
  pub parts : (key : Key) → part_at s.world key ≡ replayed_at (slot_at c.slots c.points key).pairs (slot_at c.slots c.points key).histories key
