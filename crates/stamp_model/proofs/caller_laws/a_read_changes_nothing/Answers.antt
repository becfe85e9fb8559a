use Rattle.stamp_model.proofs.ReadLemmas.{effect-read}
use Rattle.stamp_model.proofs.caller_laws.a_read_changes_nothing.Goals as goal

pub returns : goal.returns
returns c = λ keys w q t reads. effect-read keys w q t reads
