use Rattle.range_rows.proofs.ChangeLemmas.{change_of-fits}
use Rattle.range_rows.proofs.change_laws.a_change_that_no_rule_refuses_fits.Goals as goal

pub returns : goal.returns
returns c = λ p q t free. change_of-fits p q t free
