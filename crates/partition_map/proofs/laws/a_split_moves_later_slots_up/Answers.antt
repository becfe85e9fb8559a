use Rattle.partition_map.proofs.KeyOrder.{below_of_from}
use Rattle.partition_map.proofs.SplitLemmas.{slot_of_lower, slot_of_upper, slot_of_earlier, slot_of_later}
use Rattle.partition_map.proofs.laws.a_split_moves_later_slots_up.Goals as goal

pub returns-clause-lower : goal.returns-clause-lower
returns-clause-lower c = λ points i middle k within here low. slot_of_lower points i middle k within here low

pub returns-clause-upper : goal.returns-clause-upper
returns-clause-upper c = λ points i middle k within here from. slot_of_upper points i middle k within here (below_of_from middle k from)

pub returns-clause-earlier : goal.returns-clause-earlier
returns-clause-earlier c = λ points i middle k within low. slot_of_earlier points i middle k within low

pub returns-clause-later : goal.returns-clause-later
returns-clause-later c = λ points i middle k under high. slot_of_later points i middle k under high
