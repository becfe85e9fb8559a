use Rattle.stored_rows.proofs.LawLemmas.{refused_same, refused_sure}
use Rattle.stored_rows.proofs.laws.a_refused_take_changes_nothing.Goals as goal

pub returns-clause-same : goal.returns-clause-same
returns-clause-same x = λ s t c e taken. refused_same s t c e taken

pub returns-clause-sure : goal.returns-clause-sure
returns-clause-sure x = λ s t c e taken other. refused_sure s t c e taken other
