use Rattle.extent_frames.proofs.CrashLemmas.{torn_frame}
use Rattle.extent_frames.proofs.laws.a_torn_frame_is_whole_or_missing.Goals as goal

pub returns : goal.returns
returns c = torn_frame
