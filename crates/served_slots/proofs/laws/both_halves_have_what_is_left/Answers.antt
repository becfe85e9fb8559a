use Rattle.served_slots.proofs.SplitLemmas.{has_middle, lower_left, upper_left}
use Rattle.served_slots.proofs.laws.both_halves_have_what_is_left.Goals as goal

pub returns-clause-own : goal.returns-clause-own
returns-clause-own c = λ front to s middle left inside. has_middle front to s left middle inside

pub returns-clause-lower : goal.returns-clause-lower
returns-clause-lower c = λ front lower upper to s middle left inside parted. lower_left front to s left middle inside lower upper parted

pub returns-clause-upper : goal.returns-clause-upper
returns-clause-upper c = λ front lower upper to s middle left inside parted. upper_left front to s left middle inside lower upper parted
