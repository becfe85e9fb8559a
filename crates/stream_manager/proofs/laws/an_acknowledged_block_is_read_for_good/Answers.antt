use Rattle.stream_manager.proofs.RunLemmas.{read_from}
use Rattle.stream_manager.proofs.laws.an_acknowledged_block_is_read_for_good.Goals as goal

pub returns : goal.returns
returns c = λ old new p block from ts a l run. read_from from p block new ts l run a.1.here
