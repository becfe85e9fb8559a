use Rattle.stream_manager.proofs.WalkLemmas.{shared_at}
use Rattle.stream_manager.proofs.laws.a_shared_place_has_the_same_block.Goals as goal

pub returns : goal.returns
returns c = λ s t p e l. shared_at s.sealed t.sealed s.last t.last p.extent p.index e l
