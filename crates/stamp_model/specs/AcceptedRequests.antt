-- Of requests that are answered in turn, those that change a container (Calder et al., SOSP 2011, section 5: a partition's commit
-- log).
use Rattle.std.specs.Prelude.{◌≡◌, ◌≤◌, ℕ, Bool, ◌&&◌, if◌then◌else◌, List, [], ◌∷◌, ◌++◌, None, IsSome, is_some}
use Rattle.std.specs.Ordering.{eq_by_cmp}
use Rattle.stamp_values.specs.Order.{key_cmp}
use Rattle.stamp_values.specs.declared.key.Key.{Key}
use Rattle.stamp_types.specs.declared.past.Past.{Past}
use Rattle.stamp_types.specs.Requests.{Asked}
use Rattle.stamp_types.specs.World.{Part, World, part_at}
use Rattle.access_rules.specs.declared.keys.Keys.{Keys}
use Rattle.range_rows.specs.SentContent.{sizes}
use Rattle.stamp_model.specs.Effects.{accepted}
use Rattle.stamp_model.specs.Histories.{IsEntryAfter, pair_of}
use Rattle.stamp_model.specs.Runs.{Timed, world_after_one}

-- the request is on the container of this key
abbrev pub is_on : Key → Asked → Bool
is_on key q = eq_by_cmp key_cmp key q.ask.key

-- the request changes the container of this key, as the containers are now
abbrev pub changes_at : Key → World (List ℕ) → Timed → Bool
changes_at key w r = is_on key r.request && is_some (accepted r.keys (sizes (part_at w r.request.ask.key)) r.request r.moment)

-- of requests in turn, those that change the container of this key
abbrev pub accepted_at : Key → World (List ℕ) → List Timed → List Timed
accepted_at key w [] = []
accepted_at key w (r ∷ rs) =
    if changes_at key w r then r ∷ accepted_at key (world_after_one w r) rs else accepted_at key (world_after_one w r) rs

-- the request is on the container of this key, and changes it, if it is as this part of the world says
pub record IsChange (key : Key) (p : Part (List ℕ)) (r : Timed) : Type 0 where
  pub own : r.request.ask.key ≡ key
  pub changes : IsSome (accepted r.keys (sizes p) r.request r.moment)

-- an entry of a history, judged by the pair of its epoch
abbrev pub timed_by : List Keys → Past → Timed
timed_by pairs e = record { request = e.request; moment = e.moment; keys = pair_of pairs e.epoch; bound = None }

-- no entry has a lower epoch than an entry before it
abbrev pub EpochsRise : List Past → Type 0
EpochsRise entries = (front between : List Past) (e later : Past) → IsEntryAfter (front ++ e ∷ between) later entries → e.epoch ≤ later.epoch
