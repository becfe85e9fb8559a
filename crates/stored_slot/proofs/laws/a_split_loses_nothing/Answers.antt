use Rattle.stored_slot.proofs.LawLemmas.{split_keeps}
use Rattle.stored_slot.proofs.laws.a_split_loses_nothing.Goals as goal

pub returns : goal.returns
returns x = λ pairs below above lower upper s middle key low up cut covered. split_keeps pairs below above lower upper s middle key low up cut covered
