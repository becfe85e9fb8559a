use Rattle.list_pages.proofs.Over.{ranges_are_one}
use Rattle.list_pages.proofs.laws.lists_of_ranges_are_one.Goals as goal

pub returns : goal.returns
returns c = λ account q splits w. ranges_are_one account q w splits
