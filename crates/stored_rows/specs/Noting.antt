-- What is done beside the streams once a change was put and logged.
use Rattle.std.specs.Prelude.{◌≡◌, ⊤, Option, None, Some, IfSome, List, Result, Ok, Err}
use Rattle.stamp_types.specs.Changes.{KeyedAct}
use Rattle.stamp_types.specs.declared.piece.Piece.{Piece}
use Rattle.stamp_types.specs.World.{World}
use Rattle.extent_seal.specs.declared.sealed.ReadFault.{ReadFault}
use Rattle.stream_manager.specs.declared.faults.Settled.{Settled}
use Rattle.stream_manager.specs.declared.faults.Settled.TheVariants as settled
use Rattle.stream_manager.specs.declared.faults.StoredFault.{StoredFault}
use Rattle.partition_stream.specs.declared.faults.TakeFault.{TakeFault}
use Rattle.partition_stream.specs.declared.faults.TakeFault.TheVariants as take
use Rattle.stored_rows.specs.Faults.{stored_fault_of_read}
use Rattle.stored_rows.specs.Loaded.{IsFollowed}
use Rattle.stored_rows.specs.declared.faults.Ended.{Ended}
use Rattle.stored_rows.specs.declared.faults.Ended.TheVariants as ended
use Rattle.stored_rows.specs.declared.sealed.AllSealed.{AllSealed}
use Rattle.stored_rows.specs.declared.logging.Unlogged.{Unlogged}
use Rattle.stored_rows.specs.declared.logging.Unlogged.TheVariants as fault

-- what a take answers if its change was logged so
abbrev pub taken_by : Result KeyedAct Unlogged → Result (Unit {0}) TakeFault
taken_by (Ok c) = Ok tt
taken_by (Err (fault.Doubt c)) = Err take.Doubt
taken_by (Err fault.Busy) = Err take.Busy
taken_by (Err fault.NoMemory) = Err take.NoMemory

-- rows that are loaded have the change that was logged; the change that is in doubt is kept beside the streams
abbrev pub IsKeptBeside : Result KeyedAct Unlogged → Option (World (List Piece)) → Option (World (List Piece)) → Option KeyedAct → Option KeyedAct → Type 0
IsKeptBeside (Ok c) v w d e = IsFollowed v c w × (e ≡ d)
IsKeptBeside (Err (fault.Doubt c)) v w d e = (w ≡ v) × (e ≡ Some c)
IsKeptBeside (Err fault.Busy) v w d e = (w ≡ v) × (e ≡ d)
IsKeptBeside (Err fault.NoMemory) v w d e = (w ≡ v) × (e ≡ d)

-- what a settle of rows answers if that of their log ended so
abbrev pub ended_by : Result Settled StoredFault → Result Ended StoredFault
ended_by (Ok settled.Clean) = Ok ended.Clean
ended_by (Ok (settled.Kept p)) = Ok ended.Kept
ended_by (Ok settled.Dropped) = Ok ended.Dropped
ended_by (Err f) = Err f

-- it holds if the change that was in doubt is kept
abbrev pub IfKept : Result Settled StoredFault → Type 0 → Type 0
IfKept (Ok (settled.Kept p)) holds = holds
IfKept other holds = ⊤

-- rows that are loaded have the change that was in doubt, if it is kept; a change is kept beside the streams only while it is in doubt
abbrev pub IsSettledBeside : Result Settled StoredFault → Option (World (List Piece)) → Option (World (List Piece)) → Option KeyedAct → Option KeyedAct → Type 0
IsSettledBeside (Ok settled.Clean) v w d e = (w ≡ v) × (e ≡ d)
IsSettledBeside (Ok (settled.Kept p)) v w d e = IfSome d (λ c. IsFollowed v c w) × (e ≡ None)
IsSettledBeside (Ok settled.Dropped) v w d e = (w ≡ v) × (e ≡ None)
IsSettledBeside (Err f) v w d e = (w ≡ v) × (e ≡ d)

-- what a seal of rows answers if that of their streams ended so
abbrev pub sealed_by : Result (Unit {0}) StoredFault → Result AllSealed StoredFault
sealed_by (Ok u) = Ok (record { done = u })
sealed_by (Err f) = Err f

-- what a load answers if the rows were made so
abbrev pub loaded_by : {T : Type 0} → Result T ReadFault → Result (Unit {0}) StoredFault
loaded_by (Ok w) = Ok tt
loaded_by (Err f) = Err (stored_fault_of_read f)

-- rows that were made are loaded
abbrev pub IsLoadedBeside : {T : Type 0} → Result T ReadFault → Option T → Option T → Type 0
IsLoadedBeside (Ok r) v w = w ≡ Some r
IsLoadedBeside (Err f) v w = w ≡ v
