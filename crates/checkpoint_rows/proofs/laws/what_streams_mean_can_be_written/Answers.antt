use Rattle.checkpoint_rows.proofs.WritableLemmas.{held_of-writable, none_writable}
use Rattle.checkpoint_rows.proofs.laws.what_streams_mean_can_be_written.Goals as goal

pub returns-clause-held : goal.returns-clause-held
returns-clause-held c = λ s key kept. held_of-writable s key kept

pub returns-clause-none : goal.returns-clause-none
returns-clause-none c = λ key. none_writable key
