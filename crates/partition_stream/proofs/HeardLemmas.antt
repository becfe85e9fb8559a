-- Calls of the streams that hear, one after the other.
use Rattle.std.proofs.Common.{Err}
use Rattle.extent_node.specs.Faults.{Calls}
use Rattle.extent_seal.specs.Heard.{AsksAreHeard}
use Rattle.extent_seal.proofs.HeardLemmas.{heard_then}
use Rattle.partition_stream.specs.Heard.{HearsCompaction}
use Rattle.partition_stream.specs.declared.faults.CompactionFault.{CompactionFault}
use Rattle.partition_stream.specs.declared.faults.CompactionFault.TheVariants as fault

-- a call that failed after other calls, whatever it would have given
pub compaction_later : (e : CompactionFault) (a b c f g h : Calls) → AsksAreHeard a b f g → HearsCompaction {T = Unit {0}} (Err e) b c g h → HearsCompaction {T = Unit {0}} (Err e) a c f h
compaction_later fault.Busy a b c f g h before now = tt
compaction_later fault.Unreachable a b c f g h before now = tt
compaction_later fault.NoMemory a b c f g h before now = heard_then a b c f g h before now
