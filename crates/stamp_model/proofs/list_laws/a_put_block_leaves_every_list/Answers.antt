use Rattle.stamp_model.proofs.ListLemmas.{list-put_block}
use Rattle.stamp_model.proofs.list_laws.a_put_block_leaves_every_list.Goals as goal

pub returns : goal.returns
returns c = λ w put list puts fits lists. list-put_block w put list puts fits lists
