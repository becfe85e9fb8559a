use Rattle.extent_frames.proofs.CrashLemmas.{keeps}
use Rattle.extent_frames.proofs.laws.acknowledged_entries_are_read.Goals as goal

pub returns : goal.returns
returns c = keeps
