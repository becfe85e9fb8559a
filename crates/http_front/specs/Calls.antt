-- The calls of a connection's reader and writer, and how they ended.
use Rattle.std.specs.Prelude.{◌≡◌, ◌≢◌, ◌⊎◌, ℕ, zero, suc, ◌+◌, Bool, true, false, List, Option, Result, Ok, Err}
use Rattle.http_front.specs.declared.buffer.Unread.{Unread}
use Rattle.http_front.specs.declared.buffer.Unread.TheVariants as unread
use Rattle.http_front.specs.declared.incoming.Missed.{Missed}
use Rattle.http_front.specs.declared.incoming.Missed.TheVariants.{Waits, Interrupted, Failed}
use Rattle.http_front.specs.declared.counted.Input.{Input}
use Rattle.http_front.specs.declared.counted.Input.TheVariants as inputs
use Rattle.http_front.specs.declared.counted.Output.{Output}
use Rattle.http_front.specs.declared.counted.Output.TheVariants as outputs

-- how many reads gave bytes, found the end and failed, and whether the last read had nothing now
pub record Reads : Type 0 where
  pub gave : ℕ
  pub ends : ℕ
  pub faults : ℕ
  pub waits : Bool

-- how many writes and flushes failed, whether bytes were taken after the last flush, and whether the last call had to wait or was
-- interrupted
pub record Writes : Type 0 where
  pub faults : ℕ
  pub behind : Bool
  pub waits : Bool

-- no read was made
abbrev pub no_reads : Reads
no_reads = record { gave = 0; ends = 0; faults = 0; waits = false }

-- no write and no flush was made
abbrev pub no_writes : Writes
no_writes = record { faults = 0; behind = false; waits = false }

-- a reader: the bytes that it still has, if they are known, and its reads
pub record IncomingState : Type 0 where
  pub left : Option (List ℕ)
  pub told : Reads

-- a writer: the bytes that it holds, if they are known, and its calls
pub record OutgoingState : Type 0 where
  pub held : Option (List ℕ)
  pub told : Writes

-- one read more, by how it ended; an interrupted read has failed
abbrev pub TellsRead : Result ℕ Missed → Reads → Reads → Type 0
TellsRead (Ok zero) from to = (to.gave ≡ from.gave) × (to.ends ≡ from.ends + 1) × (to.faults ≡ from.faults) × (to.waits ≡ false)
TellsRead (Ok (suc n)) from to = (to.gave ≡ from.gave + 1) × (to.ends ≡ from.ends) × (to.faults ≡ from.faults) × (to.waits ≡ false)
TellsRead (Err Waits) from to = (to.gave ≡ from.gave) × (to.ends ≡ from.ends) × (to.faults ≡ from.faults) × (to.waits ≡ true)
TellsRead (Err Interrupted) from to = (to.gave ≡ from.gave) × (to.ends ≡ from.ends) × (to.faults ≡ from.faults + 1) × (to.waits ≡ false)
TellsRead (Err Failed) from to = (to.gave ≡ from.gave) × (to.ends ≡ from.ends) × (to.faults ≡ from.faults + 1) × (to.waits ≡ false)

-- one read more was made, unless memory ran out before it
abbrev pub TellsReading : Result ℕ Unread → Reads → Reads → Type 0
TellsReading (Ok n) from to = TellsRead (Ok n) from to
TellsReading (Err unread.Waits) from to = TellsRead (Err Waits) from to
TellsReading (Err unread.Failed) from to = TellsRead (Err Failed) from to
TellsReading (Err unread.NoMemory) from to = to ≡ from

-- one write more, by how it ended; a write that took no byte has failed
abbrev pub TellsWrite : Result ℕ Missed → Writes → Writes → Type 0
TellsWrite (Ok zero) from to = (to.faults ≡ from.faults + 1) × (to.behind ≡ from.behind) × (to.waits ≡ false)
TellsWrite (Ok (suc n)) from to = (to.faults ≡ from.faults) × (to.behind ≡ true) × (to.waits ≡ false)
TellsWrite (Err Waits) from to = (to.faults ≡ from.faults) × (to.behind ≡ from.behind) × (to.waits ≡ true)
TellsWrite (Err Interrupted) from to = (to.faults ≡ from.faults) × (to.behind ≡ from.behind) × (to.waits ≡ true)
TellsWrite (Err Failed) from to = (to.faults ≡ from.faults + 1) × (to.behind ≡ from.behind) × (to.waits ≡ false)

-- one flush more, by how it ended
abbrev pub TellsFlush : {T : Type 0} → Result T Missed → Writes → Writes → Type 0
TellsFlush (Ok x) from to = (to.faults ≡ from.faults) × (to.behind ≡ false) × (to.waits ≡ false)
TellsFlush (Err Waits) from to = (to.faults ≡ from.faults) × (to.behind ≡ from.behind) × (to.waits ≡ true)
TellsFlush (Err Interrupted) from to = (to.faults ≡ from.faults) × (to.behind ≡ from.behind) × (to.waits ≡ true)
TellsFlush (Err Failed) from to = (to.faults ≡ from.faults + 1) × (to.behind ≡ from.behind) × (to.waits ≡ false)

-- one call failed, or the last call had to wait and is not made again
abbrev pub IsFaultOrWait : ℕ → Bool → Type 0
IsFaultOrWait faults waits = (faults ≡ 1) ⊎ ((faults ≡ 0) × (waits ≡ true))

-- how far an input has come is what its reads say
pub record IsMarkedInput (input : Input) (told : Reads) : Type 0 where
  pub sound : input ≢ inputs.Failed → told.faults ≡ 0
  pub going : input ≢ inputs.Ended → told.ends ≡ 0
  pub ended : input ≡ inputs.Ended → told.ends ≡ 1
  pub failed : input ≡ inputs.Failed → IsFaultOrWait told.faults told.waits

-- how far an output has come is what its writes and flushes say
pub record IsMarkedOutput (output : Output) (told : Writes) : Type 0 where
  pub sound : output ≢ outputs.Failed → told.faults ≡ 0
  pub flushed : output ≡ outputs.Flushed → told.behind ≡ false
  pub failed : output ≡ outputs.Failed → IsFaultOrWait told.faults told.waits
