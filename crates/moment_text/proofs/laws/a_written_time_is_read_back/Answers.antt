use Rattle.moment_text.proofs.TimeLemmas.{iso_moment-iso_text}
use Rattle.moment_text.proofs.laws.a_written_time_is_read_back.Goals as goal

pub returns : goal.returns
returns c = λ moment within. iso_moment-iso_text moment within
