-- What a caller was shown of a container (the stamp's own).
use Rattle.std.specs.Prelude.{◌≡◌, ◌≢◌, List, []}
use mathlib.Core.List.{IsPrefix}
use Rattle.stamp_values.specs.declared.key.Key.{Key}
use Rattle.stamp_types.specs.declared.past.Past.{Past}
use Rattle.access_rules.specs.declared.keys.Keys.{Keys}
use Rattle.stamp_model.specs.Histories.{IsLegal, NoneIsLater}
use Rattle.slot_state.specs.Pairs.{epoch_of, in_force}
use Rattle.slot_pass.specs.Differences.{PartsAt}
use Rattle.slot_pass.specs.declared.meeting.MeetFault.{MeetFault}
use Rattle.slot_pass.specs.declared.meeting.MeetFault.TheVariants as fault
use Rattle.slot_pass.specs.declared.meeting.Order.{Order}
use Rattle.slot_pass.specs.declared.meeting.Order.TheVariants as order

-- a container, a beginning of its accepted changes, and a beginning of the key pairs of its account
pub record PassState : Type 0 where
  pub key : Key
  pub front : List Past
  pub pairs : List Keys

-- a pass of this container whose caller was shown nothing
abbrev pub new_pass : Key → PassState
new_pass key = record { key = key; front = []; pairs = [] }

-- these are accepted changes of the container, legal by these pairs, and no entry is of a later epoch than the last pair
pub record IsShown (pairs : List Keys) (key : Key) (history : List Past) : Type 0 where
  pub legal : IsLegal pairs key history
  pub latest : NoneIsLater (epoch_of (in_force pairs)) history

-- which of two fronts begins the other: they are equal; or the first is a shorter beginning of the second; or the second is one of the first
abbrev pub IsOrder : List Past → List Past → Order → Type 0
IsOrder xs ys order.Same = xs ≡ ys
IsOrder xs ys order.First = IsPrefix xs ys × (xs ≢ ys)
IsOrder xs ys order.Second = IsPrefix ys xs × (xs ≢ ys)

-- why two passes are not of one history: they are of different containers, or of one container, and their fronts differ at this position
abbrev pub IsMeetFault : PassState → PassState → MeetFault → Type 0
IsMeetFault p q fault.Keys = p.key ≢ q.key
IsMeetFault p q (fault.Differ place) = (p.key ≡ q.key) × PartsAt p.front q.front place
