use Rattle.partition_map.proofs.BoundLemmas.{bound_of_earlier, bound_of_later, bound_of_lower, bound_of_upper, first_key_of_earlier, first_key_of_later, first_key_of_lower, first_key_of_upper}
use Rattle.partition_map.proofs.laws.the_halves_share_the_bounds_of_their_span.Goals as goal

pub returns-clause-lower : goal.returns-clause-lower
returns-clause-lower c = λ points i middle within. (first_key_of_lower points i middle within, bound_of_lower points i middle within)

pub returns-clause-upper : goal.returns-clause-upper
returns-clause-upper c = λ points i middle within. (first_key_of_upper points i middle within, bound_of_upper points i middle within)

pub returns-clause-earlier : goal.returns-clause-earlier
returns-clause-earlier c = λ points i j middle within low. (first_key_of_earlier points i j middle within low, bound_of_earlier points i j middle within low)

pub returns-clause-later : goal.returns-clause-later
returns-clause-later c = λ points i j middle within high. (first_key_of_later points i j middle within high, bound_of_later points i j middle within high)
