use Rattle.extent_frames.proofs.CrashLemmas.{first_entries}
use Rattle.extent_frames.proofs.laws.the_first_entries_are_read.Goals as goal

pub returns : goal.returns
returns c = first_entries
