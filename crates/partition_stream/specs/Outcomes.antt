-- What calls do to the streams of a partition.
use Rattle.std.specs.Prelude.{◌≡◌, ◌⊎◌, ⊤, ℕ, Option, Some, None, IsSome, Result, Ok, Err, List, [], ◌∷◌, ◌++◌}
use Rattle.extent_node.specs.Copies.{Block}
use Rattle.extent_node.specs.Faults.{held}
use Rattle.stream_manager.specs.Places.{IsLastAt, is_kept}
use Rattle.stream_manager.specs.Streams.{Streamed, laid}
use Rattle.stream_manager.specs.declared.faults.Settled.{Settled}
use Rattle.stream_manager.specs.declared.faults.Settled.TheVariants as settled
use Rattle.stream_manager.specs.declared.faults.StoredFault.{StoredFault}
use Rattle.partition_stream.specs.Changes.{Recorded}
use Rattle.partition_stream.specs.Logging.{IsSameStream}
use Rattle.partition_stream.specs.Streams.{ThreeStreams, logged}
use Rattle.partition_stream.specs.declared.faults.TakeFault.{TakeFault}
use Rattle.partition_stream.specs.declared.faults.TakeFault.TheVariants as fault

-- the change that was in doubt before, if its record is in the log after
abbrev pub kept_doubt : ThreeStreams → ThreeStreams → List Recorded
kept_doubt s t = held (is_kept (laid s.log) s.log.last (laid t.log)) (logged s).doubt

-- the change that was in doubt, if it was kept, comes before those that were added
abbrev pub with_kept : List Recorded → List Recorded → List Recorded
with_kept kept added = kept ++ added

-- the log has the change that was in doubt, if it was kept, and then these changes, and this doubt
pub record Logs (s : ThreeStreams) (added : List Recorded) (doubt : Option Recorded) (t : ThreeStreams) : Type 0 where
  pub changes : (logged t).log ≡ (logged s).log ++ with_kept (kept_doubt s t) added
  pub left : (logged t).doubt ≡ doubt

-- what logging a change does: an older doubt is kept or dropped first, or it stays
abbrev pub IsLogged : Result ℕ TakeFault → ThreeStreams → Recorded → ThreeStreams → Type 0
IsLogged (Ok _) s c t = Logs s (c ∷ []) None t
IsLogged (Err fault.Doubt) s c t = Logs s [] (Some c) t
IsLogged (Err fault.Busy) s c t = Logs s [] None t ⊎ IsSameStream s.log t.log
IsLogged (Err fault.NoMemory) s c t = t ≡ s

-- what a settle does
abbrev pub IsLogSettled : Result Settled StoredFault → ThreeStreams → ThreeStreams → Type 0
IsLogSettled (Ok settled.Clean) s t = ((logged s).doubt ≡ None) × IsSameStream s.log t.log
IsLogSettled (Ok (settled.Kept p)) s t = (c : Recorded) × (((logged s).doubt ≡ Some c) × (((logged t).log ≡ (logged s).log ++ c ∷ []) × ((logged t).doubt ≡ None)))
IsLogSettled (Ok settled.Dropped) s t = IsSome (logged s).doubt × (((logged t).log ≡ (logged s).log) × ((logged t).doubt ≡ None))
IsLogSettled (Err e) s t = IsSome (logged s).doubt × IsSameStream s.log t.log

-- if a settle keeps a doubt, its record is at the place that is answered, after all other records
abbrev pub IsKeptAt : Result Settled StoredFault → Streamed → Streamed → Type 0
IsKeptAt (Ok settled.Clean) s t = ⊤
IsKeptAt (Ok (settled.Kept p)) s t = (block : Block) × ((s.last.tried ≡ Some block) × IsLastAt (laid t) p block)
IsKeptAt (Ok settled.Dropped) s t = ⊤
IsKeptAt (Err e) s t = ⊤

-- what a seal does to the log: a doubt is kept or dropped, or it stays if the seal failed
abbrev pub IsLogSealed : Result (Unit {0}) StoredFault → ThreeStreams → ThreeStreams → Type 0
IsLogSealed (Ok _) s t = Logs s [] None t
IsLogSealed (Err e) s t = Logs s [] None t ⊎ IsSameStream s.log t.log
