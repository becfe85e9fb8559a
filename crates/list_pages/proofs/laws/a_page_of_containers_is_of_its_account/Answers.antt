use Rattle.list_pages.proofs.Depends.{page_of_account_shown}
use Rattle.list_pages.proofs.laws.a_page_of_containers_is_of_its_account.Goals as goal

pub returns : goal.returns
returns c = λ account q bound w v same. page_of_account_shown account q bound w v same
