use Rattle.extent_frames.proofs.CrashLemmas.{ends_before_zeros}
use Rattle.extent_frames.proofs.laws.zeros_after_frames_are_not_read.Goals as goal

pub returns : goal.returns
returns c = ends_before_zeros
