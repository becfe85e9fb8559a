use Rattle.stored_slot.proofs.LawLemmas.{doubt_ends}
use Rattle.stored_slot.proofs.laws.a_doubt_of_a_slot_ends_whole.Goals as goal

pub returns : goal.returns
returns x = λ s t q moment none some settled. doubt_ends s t q moment none some settled
