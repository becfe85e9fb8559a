use Rattle.stored_rows.proofs.LawLemmas.{doubt_settled}
use Rattle.stored_rows.proofs.laws.a_doubt_is_one_change_or_none.Goals as goal

pub returns : goal.returns
returns x = λ s t u c e taken settled. doubt_settled s t u c e taken settled
