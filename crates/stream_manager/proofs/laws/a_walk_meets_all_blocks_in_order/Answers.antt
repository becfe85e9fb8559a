use Rattle.std.proofs.Common.{refl}
use Rattle.stream_manager.proofs.WalkLemmas.{before_next, before_over, before_all}
use Rattle.stream_manager.proofs.laws.a_walk_meets_all_blocks_in_order.Goals as goal

pub returns-clause-first : goal.returns-clause-first
returns-clause-first c = λ es. refl

pub returns-clause-next : goal.returns-clause-next
returns-clause-next c = λ es e i blocks b h k. before_next es e i blocks b h k

pub returns-clause-over : goal.returns-clause-over
returns-clause-over c = λ es e blocks h. before_over es e blocks h

pub returns-clause-all : goal.returns-clause-all
returns-clause-all c = λ es. before_all es
