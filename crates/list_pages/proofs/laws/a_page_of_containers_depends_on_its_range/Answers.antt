use Rattle.list_pages.proofs.Depends.{page_of_range}
use Rattle.list_pages.proofs.laws.a_page_of_containers_depends_on_its_range.Goals as goal

pub returns : goal.returns
returns c = λ account q bound w v past same. page_of_range account q bound w v past same
