-- How many calls and faults the wire counts over calls of the streams.
use Rattle.std.specs.Prelude.{◌≡◌, ◌≤◌, ◌<◌, ◌⊎◌, ℕ, ◌+◌, ◌*◌, length, Result, Ok, Err}
use Rattle.extent_node.specs.Faults.{Calls, CountsNone}
use Rattle.extent_seal.specs.Counting.{AsksEach, FailsEach, Grows, all_faults}
use Rattle.stream_manager.specs.Counting.{AsksAtMost, CallsAtMost, FailsDoubt, FailsEachAtLeast, FailsNoPut, FailsPutsAtLeast, PutsOnceOrTwice, PutsTwice}
use Rattle.stream_manager.specs.declared.faults.StoredFault.{StoredFault}
use Rattle.stream_manager.specs.declared.faults.StoredFault.TheVariants as stored_fault
use Rattle.partition_stream.specs.Streams.{ThreeStreams}
use Rattle.partition_stream.specs.declared.faults.CompactionFault.{CompactionFault}
use Rattle.partition_stream.specs.declared.faults.CompactionFault.TheVariants as compaction_fault
use Rattle.partition_stream.specs.declared.faults.TakeFault.{TakeFault}
use Rattle.partition_stream.specs.declared.faults.TakeFault.TheVariants as fault

-- the faults of a change that is logged: in a doubt a put failed, and then an ask of each node; if it is Busy, no extent was sealed and an ask of each node failed, or its record was excluded twice and two puts failed
abbrev pub FailsLog : Result ℕ TakeFault → ℕ → ℕ → Calls → Calls → Type 0
FailsLog (Ok _) before after old new = Grows old new
FailsLog (Err fault.Doubt) before after old new = FailsDoubt old new
FailsLog (Err fault.Busy) before after old new = ((after ≡ before) × FailsEach old new) ⊎ ((before + 2 ≤ after) × FailsPutsAtLeast 2 old new)
FailsLog (Err fault.NoMemory) before after old new = new ≡ old

-- the calls of a change that is logged: one put to each node, or two if the first try sealed an extent, and one ask for each extent that was sealed; in a doubt one ask more, which no node answered; if it is Busy, one ask of each node and no put, or two puts; no call if memory runs out
abbrev pub CallsLog : Result ℕ TakeFault → ℕ → ℕ → Calls → Calls → Type 0
CallsLog (Ok _) before after old new = PutsOnceOrTwice before after old.puts new.puts × AsksAtMost 0 before after old.asks new.asks
CallsLog (Err fault.Doubt) before after old new = PutsOnceOrTwice before after old.puts new.puts × AsksAtMost 1 before after old.asks new.asks
CallsLog (Err fault.Busy) before after old new = ((after ≡ before) × AsksEach old new) ⊎ ((before + 2 ≤ after) × PutsTwice old.puts new.puts × AsksAtMost 0 before after old.asks new.asks)
CallsLog (Err fault.NoMemory) before after old new = new ≡ old

-- the faults of a put of data: if it is Busy, an ask of each node failed, or two puts failed
abbrev pub FailsPut : {T : Type 0} → Result T StoredFault → Calls → Calls → Type 0
FailsPut (Ok ps) old new = Grows old new
FailsPut (Err stored_fault.Busy) old new = FailsEachAtLeast old new ⊎ FailsPutsAtLeast 2 old new
FailsPut (Err stored_fault.NoMemory) old new = Grows old new

-- the calls of a put of so many pieces: at most two puts of each piece to each node, and one ask for each extent that was sealed; if it is Busy, one ask more, which no node answered
abbrev pub CallsPut : {T : Type 0} → Result T StoredFault → ℕ → ℕ → ℕ → Calls → Calls → Type 0
CallsPut (Ok ps) pieces before after old new = CallsAtMost (2 * pieces) 0 before after old new
CallsPut (Err stored_fault.Busy) pieces before after old new = CallsAtMost (2 * pieces) 1 before after old new
CallsPut (Err stored_fault.NoMemory) pieces before after old new = CallsAtMost (2 * pieces) 0 before after old new

-- the faults of a row whose content is put again: if it is Busy, an ask of each node failed, or two puts failed; Unreachable comes only after a fault
abbrev pub FailsCompaction : {T : Type 0} → Result T CompactionFault → Calls → Calls → Type 0
FailsCompaction (Ok moved) old new = Grows old new
FailsCompaction (Err compaction_fault.Busy) old new = FailsEachAtLeast old new ⊎ FailsPutsAtLeast 2 old new
FailsCompaction (Err compaction_fault.Unreachable) old new = Grows old new × (all_faults old < all_faults new)
FailsCompaction (Err compaction_fault.NoMemory) old new = Grows old new

-- how many sealed extents the three streams have
abbrev pub sealed_extents : ThreeStreams → ℕ
sealed_extents s = length s.log.sealed + length s.blobs.sealed + length s.rows.sealed

-- the faults of a seal of streams: no put failed; it is Busy only if an ask of each node failed
abbrev pub FailsSeals : Result (Unit {0}) StoredFault → Calls → Calls → Type 0
FailsSeals (Ok _) old new = FailsNoPut old new
FailsSeals (Err stored_fault.Busy) old new = CountsNone old.puts new.puts × FailsEachAtLeast old new
FailsSeals (Err stored_fault.NoMemory) old new = FailsNoPut old new

-- the calls of a seal of streams: nothing was put, and each node was asked once at most for each extent that was sealed; if it is Busy, once more
abbrev pub CallsSeals : Result (Unit {0}) StoredFault → ℕ → ℕ → Calls → Calls → Type 0
CallsSeals (Ok _) before after old new = CountsNone old.puts new.puts × AsksAtMost 0 before after old.asks new.asks
CallsSeals (Err stored_fault.Busy) before after old new = CountsNone old.puts new.puts × AsksAtMost 1 before after old.asks new.asks
CallsSeals (Err stored_fault.NoMemory) before after old new = CountsNone old.puts new.puts × AsksAtMost 0 before after old.asks new.asks
