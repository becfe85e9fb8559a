use Rattle.partition_stream.proofs.SweepingLemmas.{more_since, none_since, room_stays}
use Rattle.partition_stream.proofs.sweep_laws.a_change_after_the_mark_is_one_more_since_it.Goals as goal

pub returns-clause-none : goal.returns-clause-none
returns-clause-none c = λ s none. none_since s none

pub returns-clause-more : goal.returns-clause-more
returns-clause-more c = λ m s t cs there on log. more_since m s t cs there on log

pub returns-clause-room : goal.returns-clause-room
returns-clause-room c = λ m s t log blobs more put. room_stays m s t log blobs more put
