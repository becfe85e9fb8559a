use Rattle.stream_manager.proofs.RunLemmas.{order_from}
use Rattle.stream_manager.proofs.laws.blocks_keep_their_order.Goals as goal

pub returns : goal.returns
returns c = λ s ts from run l. order_from from s ts l run
