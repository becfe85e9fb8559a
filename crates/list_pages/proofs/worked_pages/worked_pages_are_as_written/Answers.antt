use Rattle.std.proofs.Common.{refl}
use Rattle.list_pages.proofs.worked_pages.worked_pages_are_as_written.Goals as goal

pub returns : goal.returns
returns c = record { whole = refl; first = refl; second = refl; past_the_group = refl; bound = refl; other_bound = refl }
