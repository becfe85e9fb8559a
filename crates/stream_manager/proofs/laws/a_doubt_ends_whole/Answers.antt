use Rattle.stream_manager.proofs.RunLemmas.{doubt_ends, doubt_left}
use Rattle.stream_manager.proofs.laws.a_doubt_ends_whole.Goals as goal

pub returns-clause-ended : goal.returns-clause-ended
returns-clause-ended c = λ s t d e h. doubt_ends s t d e h

pub returns-clause-left : goal.returns-clause-left
returns-clause-left c = λ e s t d h g. doubt_left s.last t.last d g.last h

pub returns-clause-front : goal.returns-clause-front
returns-clause-front c = λ n s t d h g. doubt_left s.last t.last d g.last h
