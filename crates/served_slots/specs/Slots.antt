-- A slot whose containers are those that its history leaves (Calder et al., SOSP 2011, section 5: a partition makes its changes one after the
-- other). That a history is of all slots is the stamp's own.
use Rattle.std.specs.Prelude.{◌≡◌, ℕ, true, map, Option, None}
use Rattle.stamp_values.specs.declared.key.Key.{Key}
use Rattle.stamp_types.specs.declared.past.Past.{Past}
use Rattle.stamp_types.specs.Requests.{Asked}
use Rattle.stamp_types.specs.World.{part_at}
use Rattle.stamp_model.specs.Runs.{Timed}
use Rattle.slot_state.specs.HistoryMaps.{history_at}
use Rattle.slot_state.specs.Pairs.{AreNumbered, current_at, epoch_of}
use Rattle.slot_state.specs.Slots.{SlotState, covers, replayed_at}
use Rattle.served_history.specs.declared.entry.Entry.TheVariants.{Split}
use Rattle.served_history.specs.Fronts.{front_at}
use Rattle.served_history.specs.Growth.{IsEntered, SlotFront}
use Rattle.served_history.specs.Histories.{bound_at, owner, pairs_for, world_left, GoesOnWithout}

-- an accepted change as a slot keeps it: its request, its moment, and the epoch of the key pair by which it was judged
abbrev pub past_of : Timed → Past
past_of r = record { request = r.request; moment = r.moment; epoch = epoch_of r.keys }

-- The slot has the keys of its range in the history, and the first of them is in the range. This bound is the end of the range, and the bound that
-- the history gives each of these keys. The slot's key pairs are those by which the history judges on each of them. No change of the slot is in
-- doubt. Of each container of its range the slot keeps the accepted changes of the history, and they replay to what the history leaves
pub record IsLeftBy (front : SlotFront) (to : Option Key) (s : SlotState) : Type 0 where
  pub first : covers s s.from ≡ true
  pub has : (key : Key) → covers s key ≡ true → owner front.log key ≡ front.slot
  pub ends : s.to ≡ to
  pub bound : (key : Key) → covers s key ≡ true → bound_at front.log key ≡ s.to
  pub pairs : (key : Key) → covers s key ≡ true → pairs_for front.log key ≡ s.pairs
  pub numbered : AreNumbered s.pairs
  pub calm : s.doubt ≡ None
  pub histories : (key : Key) → covers s key ≡ true → map past_of (front_at front.log key) ≡ history_at s.histories key
  pub containers : (key : Key) → covers s key ≡ true → part_at (world_left front.log) key ≡ replayed_at s.pairs s.histories key

-- the request as a slot serves it: by its account's key pair in force, and up to this bound
abbrev pub timed_in : SlotState → Option Key → Asked → ℕ → Timed
timed_in s to q t = record { request = q; moment = t; keys = current_at s.pairs q.ask.key.account; bound = to }

-- the slot entered a split at this key, and the upper slot made no entry
pub record IsParted (front : SlotFront) (middle : Key) (lower upper : SlotFront) : Type 0 where
  pub entered : IsEntered front.slot front.log front.log (Split front.slot middle upper.slot) lower.log
  pub fresh : GoesOnWithout upper.slot lower.log upper.log
  pub same : lower.slot ≡ front.slot
