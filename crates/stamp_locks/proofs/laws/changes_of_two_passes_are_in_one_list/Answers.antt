use Rattle.stamp_locks.proofs.TurnLemmas.{grown, in_one_list, in_turn}
use Rattle.stamp_locks.proofs.laws.changes_of_two_passes_are_in_one_list.Goals as goal

pub returns-clause-made : goal.returns-clause-made
returns-clause-made g c = λ p after calls are. in_turn g.W.Wire.faults c.changes_of_two_passes_are_in_one_list.ensures.made c.changes_of_two_passes_are_in_one_list.ensures.grown p after calls are

pub returns-clause-grown : goal.returns-clause-grown
returns-clause-grown g c = λ p after calls are. grown g.W.Wire.faults c.changes_of_two_passes_are_in_one_list.ensures.made c.changes_of_two_passes_are_in_one_list.ensures.grown p after calls are

pub returns-clause-one : goal.returns-clause-one
returns-clause-one g c = λ p after o last calls others order are also is.
    in_one_list g.W.Wire.faults c.changes_of_two_passes_are_in_one_list.ensures.made c.changes_of_two_passes_are_in_one_list.ensures.grown p after o last calls others are also order is
