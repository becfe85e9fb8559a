-- How the program ends (this product's own choice).
use Rattle.std.specs.Prelude.{ℕ, Bool, true, false, Result, Ok, Err}
use Rattle.http_front.specs.declared.end.FrontFault.{FrontFault}
use Rattle.http_front.specs.declared.end.FrontFault.TheVariants as faults
use Rattle.stamp_main.specs.declared.ending.Ending.{Ending}
use Rattle.stamp_main.specs.declared.ending.Ending.TheVariants.{Done, Usage, ReadFault, WriteFault, TurnsUsedUp, ListenerFault, NoMemory}

-- the exit status of each ending
abbrev pub ending_status : Ending → ℕ
ending_status Done = 0
ending_status Usage = 2
ending_status ReadFault = 3
ending_status WriteFault = 3
ending_status TurnsUsedUp = 3
ending_status ListenerFault = 3
ending_status NoMemory = 4

-- the ending of a run over a reader and a writer
abbrev pub run_ending : {T : Type 0} → Result T FrontFault → Ending
run_ending (Ok x) = Done
run_ending (Err faults.Read) = ReadFault
run_ending (Err faults.Write) = WriteFault
run_ending (Err faults.Turns) = TurnsUsedUp
run_ending (Err faults.NoMemory) = NoMemory

-- the run came as far as writing: it ended well, or it ended at a write that failed
abbrev pub has_written : Ending → Bool
has_written Done = true
has_written Usage = false
has_written ReadFault = false
has_written WriteFault = true
has_written TurnsUsedUp = false
has_written ListenerFault = false
has_written NoMemory = false

-- the run began, and it was broken off by the reader, the writer or the number of reads
abbrev pub is_fault : Ending → Bool
is_fault Done = false
is_fault Usage = false
is_fault ReadFault = true
is_fault WriteFault = true
is_fault TurnsUsedUp = true
is_fault ListenerFault = false
is_fault NoMemory = false

-- what the run took is answered: the run began, no write failed, and memory did not run out
abbrev pub is_answered : Ending → Bool
is_answered Done = true
is_answered Usage = false
is_answered ReadFault = true
is_answered WriteFault = false
is_answered TurnsUsedUp = true
is_answered ListenerFault = false
is_answered NoMemory = false

-- a command to serve may end in this way
abbrev pub ends_serving : Ending → Bool
ends_serving Done = false
ends_serving Usage = true
ends_serving ReadFault = false
ends_serving WriteFault = true
ends_serving TurnsUsedUp = false
ends_serving ListenerFault = true
ends_serving NoMemory = true
