use Rattle.std.proofs.Common.{refl}
use Rattle.core_run.specs.States.{slot_doubt}
use Rattle.core_run.proofs.DoubtLemmas.{served_first, whole}
use Rattle.core_run.proofs.StepLemmas.{gone, others}
use Rattle.core_run.proofs.laws.a_doubt_ends_whole_before_its_slot_serves.Goals as goal

pub returns-clause-whole : goal.returns-clause-whole
returns-clause-whole c = λ s m i e is settled. whole (slot_doubt s i) s m i e is settled

pub returns-clause-once : goal.returns-clause-once
returns-clause-once c = λ s m i settled. gone (slot_doubt s i) s m i refl settled

pub returns-clause-others : goal.returns-clause-others
returns-clause-others c = λ s m i j apart settled. others (slot_doubt s i) s m i j apart settled

pub returns-clause-serves : goal.returns-clause-serves
returns-clause-serves c = λ s s' q t faulted answer takes. served_first s s' q t faulted answer takes
