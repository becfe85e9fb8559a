use Rattle.served_history.proofs.AfterLemmas.{entry_follows}
use Rattle.served_history.proofs.laws.a_slot_has_what_its_entry_leaves.Goals as goal

pub returns : goal.returns
returns c = λ slot front known e known' key entered has. entry_follows slot front known e known' key entered has
