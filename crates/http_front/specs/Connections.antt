-- What is known of a connection, and what a call does to it.
use Rattle.std.specs.Prelude.{◌≡◌, ◌≢◌, ℕ, ◌+◌, ◌*◌, ◌<◌, ◌≤◌, Bool, true, false, List, [], ◌++◌, length, Option, Result, Ok, Err}
use Rattle.std.specs.Io.KnownBytes.{Consumes, Appends, IsAtEnd}
use Rattle.http_front.specs.Calls.{Reads, Writes, no_reads, no_writes, IsMarkedInput, IsMarkedOutput}
use Rattle.http_front.specs.declared.counted.Came.{Came}
use Rattle.http_front.specs.declared.counted.Came.TheVariants as comes
use Rattle.http_front.specs.declared.counted.Input.{Input}
use Rattle.http_front.specs.declared.counted.Input.TheVariants as inputs
use Rattle.http_front.specs.declared.counted.Output.{Output}
use Rattle.http_front.specs.declared.counted.Output.TheVariants as outputs
use Rattle.http_front.specs.declared.end.FrontFault.{FrontFault}
use Rattle.http_front.specs.declared.end.FrontFault.TheVariants.{Read, Write, Turns, NoMemory}

-- the most bytes that one read asks for
abbrev pub read_size : ℕ
read_size = 8192

-- a reader: the bytes that it still has, if they are known, its reads so far, the reads that may still be made, and how far the
-- input has come
pub record ReaderState : Type 0 where
  pub left : Option (List ℕ)
  pub told : Reads
  pub turns : ℕ
  pub input : Input

-- a writer: the bytes that it holds, if they are known, its writes and flushes so far, and how far the output has come
pub record WriterState : Type 0 where
  pub held : Option (List ℕ)
  pub told : Writes
  pub output : Output

-- a connection: its reader, its writer, and the bytes that came and are not taken yet
pub record ConnectionState : Type 0 where
  pub reader : ReaderState
  pub writer : WriterState
  pub bytes : List ℕ

-- a connection on which nothing was read or written, if the reader has these bytes, the writer holds these bytes, and so many reads
-- may be made
abbrev pub fresh_connection : Option (List ℕ) → ℕ → Option (List ℕ) → ConnectionState
fresh_connection left turns held = record {
  reader = record { left = left; told = no_reads; turns = turns; input = inputs.Open };
  writer = record { held = held; told = no_writes; output = outputs.Flushed };
  bytes = [];
}

-- How far input and output have come is what the calls of the reader and the writer say. The input has ended if and only if one read
-- found the end, and it has failed only if one read failed, or had nothing and was not waited for. The output is flushed only if no
-- byte was taken after the last flush, and it has failed only if one write or flush failed, or had to wait.
pub record IsTold (connection : ConnectionState) : Type 0 where
  pub input : IsMarkedInput connection.reader.input connection.reader.told
  pub output : IsMarkedOutput connection.writer.output connection.writer.told

-- how many of the reads gave no byte: the one that found the end, or the one that failed
abbrev pub idle_reads : Input → ℕ
idle_reads inputs.Open = 0
idle_reads inputs.Ended = 1
idle_reads inputs.Failed = 1

-- The reader gave these bytes. Each read gave at most 8,192 bytes, and at least one byte if it neither found the end nor failed. Each
-- turn that is gone was a read. An input that ended has no bytes left.
pub record Receives (from to : ReaderState) (received : List ℕ) : Type 0 where
  pub consumed : Consumes from.left to.left received
  pub most : length received + (to.turns + idle_reads to.input) * read_size ≤ from.turns * read_size
  pub each : from.turns ≤ (to.turns + length received) + idle_reads to.input
  pub calls : from.turns + from.told.gave ≡ (to.turns + to.told.gave) + idle_reads to.input
  pub ended : to.input ≡ inputs.Ended → IsAtEnd to.left

-- what a writer holds of bytes that it was given: all of them, or, if a write failed, some bytes at their front
abbrev pub HoldsMore : Output → Option (List ℕ) → Option (List ℕ) → List ℕ → Type 0
HoldsMore outputs.Flushed held held' sent = Appends held held' sent
HoldsMore outputs.Pending held held' sent = Appends held held' sent
HoldsMore outputs.Failed held held' sent = (front : List ℕ) × (rest : List ℕ) × (sent ≡ front ++ rest) × Appends held held' front

-- the writer was given these bytes
abbrev pub Sends : WriterState → WriterState → List ℕ → Type 0
Sends from to sent = HoldsMore to.output from.held to.held sent

-- the writer was given the front of what was left to write, and this is left now
pub record SendsFront (from to : WriterState) (pending pending' : List ℕ) : Type 0 where
  pub front : List ℕ
  pub parts : pending ≡ front ++ pending'
  pub sent : Sends from to front

-- what the writer does not take now is not waited for
abbrev pub StopsWriting : WriterState → WriterState → Type 0
StopsWriting from to = (to.held ≡ from.held) × (to.output ≡ outputs.Failed) × (to.told ≡ from.told)

-- a read may be made, and a reply may be written
abbrev pub IsOpen : ConnectionState → Type 0
IsOpen connection = (connection.reader.input ≡ inputs.Open) × (connection.writer.output ≢ outputs.Failed)

-- all that was written is flushed, a read may be made, and the last read had nothing
abbrev pub IsIdle : ConnectionState → Type 0
IsIdle connection =
    (connection.reader.input ≡ inputs.Open) × (connection.writer.output ≡ outputs.Flushed) × (0 < connection.reader.turns) × (connection.reader.told.waits ≡ true)

-- a read may be made, no write failed, and the last write had to wait
abbrev pub IsStalled : ConnectionState → Type 0
IsStalled connection = (connection.reader.input ≡ inputs.Open) × (connection.writer.output ≢ outputs.Failed) × (connection.writer.told.waits ≡ true)

-- the reader is at its end, and a reply may be written
abbrev pub IsEnded : ConnectionState → Type 0
IsEnded connection = (connection.reader.input ≡ inputs.Ended) × (connection.writer.output ≢ outputs.Failed)

-- nothing was read or written yet
abbrev pub IsFresh : ConnectionState → Type 0
IsFresh connection = (connection.reader.input ≡ inputs.Open) × (connection.writer.output ≡ outputs.Flushed) × (connection.bytes ≡ [])

-- the fault has its cause: a read failed or the input ended, the writer failed, or no read is left and the input has not ended
abbrev pub IsLeftBy : FrontFault → ConnectionState → Type 0
IsLeftBy Read connection = (connection.reader.input ≢ inputs.Open) × (connection.writer.output ≢ outputs.Failed)
IsLeftBy Write connection = connection.writer.output ≡ outputs.Failed
IsLeftBy Turns connection = (connection.reader.turns ≡ 0) × IsOpen connection
IsLeftBy NoMemory connection = connection.writer.output ≢ outputs.Failed

-- how a call leaves the connection: open, or as its fault leaves it
abbrev pub Leaves : {T : Type 0} → Result T FrontFault → ConnectionState → Type 0
Leaves (Ok x) connection = IsOpen connection
Leaves (Err fault) connection = IsLeftBy fault connection

-- how a call that reads once leaves the connection: open if a byte came, or at the end of the input
abbrev pub LeavesRead : Result Bool FrontFault → ConnectionState → Type 0
LeavesRead (Ok true) connection = IsOpen connection
LeavesRead (Ok false) connection = IsEnded connection
LeavesRead (Err fault) connection = IsLeftBy fault connection

-- how a call that only writes leaves the writer
abbrev pub LeavesWriter : {T : Type 0} → Result T FrontFault → WriterState → Type 0
LeavesWriter (Ok x) writer = writer.output ≢ outputs.Failed
LeavesWriter (Err Read) writer = ⊥
LeavesWriter (Err Write) writer = writer.output ≡ outputs.Failed
LeavesWriter (Err Turns) writer = ⊥
LeavesWriter (Err NoMemory) writer = writer.output ≢ outputs.Failed

-- a byte came after these bytes, or none did
abbrev pub GivesByte : Result Bool FrontFault → List ℕ → List ℕ → Type 0
GivesByte (Ok true) bytes bytes' = length bytes < length bytes'
GivesByte (Ok false) bytes bytes' = bytes' ≡ bytes
GivesByte (Err fault) bytes bytes' = bytes' ≡ bytes

-- the reader gave some bytes, which were put after the bytes that were there before, and nothing was written
pub record ReadsOn (from to : ConnectionState) (bytes bytes' : List ℕ) : Type 0 where
  pub more : List ℕ
  pub received : Receives from.reader to.reader more
  pub kept : bytes' ≡ bytes ++ more
  pub unwritten : Sends from.writer to.writer []

-- how a read that may have nothing now leaves the connection: open if bytes came, at the end of the input, or open with all that was
-- written flushed, and a read may be made
abbrev pub LeavesTry : Result Came FrontFault → ConnectionState → Type 0
LeavesTry (Ok comes.Bytes) connection = IsOpen connection
LeavesTry (Ok comes.End) connection = IsEnded connection
LeavesTry (Ok comes.Nothing) connection = IsIdle connection
LeavesTry (Err fault) connection = IsLeftBy fault connection

-- bytes came after these bytes, or none did
abbrev pub GivesBytes : Result Came FrontFault → List ℕ → List ℕ → Type 0
GivesBytes (Ok comes.Bytes) bytes bytes' = length bytes < length bytes'
GivesBytes (Ok comes.End) bytes bytes' = bytes' ≡ bytes
GivesBytes (Ok comes.Nothing) bytes bytes' = bytes' ≡ bytes
GivesBytes (Err fault) bytes bytes' = bytes' ≡ bytes

-- what the reader has not now is not waited for
abbrev pub GivesUp : ReaderState → ReaderState → Type 0
GivesUp from to = (to.left ≡ from.left) × (to.input ≡ inputs.Failed) × (to.turns + 1 ≡ from.turns) × (to.told ≡ from.told)

-- what one read came to: a byte came, the input ended, nothing came now, or there is a fault and no byte came
abbrev pub IsReadTo : Result Came FrontFault → ReaderState → List ℕ → Type 0
IsReadTo (Ok comes.Bytes) reader more = (0 < length more) × (reader.input ≡ inputs.Open)
IsReadTo (Ok comes.End) reader more = (more ≡ []) × (reader.input ≡ inputs.Ended)
IsReadTo (Ok comes.Nothing) reader more = (more ≡ []) × (reader.input ≡ inputs.Open) × (0 < reader.turns) × (reader.told.waits ≡ true)
IsReadTo (Err Read) reader more = (more ≡ []) × (reader.input ≡ inputs.Failed)
IsReadTo (Err NoMemory) reader more = (more ≡ []) × (reader.input ≡ inputs.Open)
IsReadTo (Err fault) reader more = ⊥

-- one read was made, or nothing came now, or memory ran out before the read; what came was put after the bytes that were there before
pub record ReadsOnce (result : Result Came FrontFault) (from to : ReaderState) (bytes bytes' : List ℕ) : Type 0 where
  pub more : List ℕ
  pub received : Receives from to more
  pub kept : bytes' ≡ bytes ++ more
  pub few : length more ≤ read_size
  pub came : IsReadTo result to more
