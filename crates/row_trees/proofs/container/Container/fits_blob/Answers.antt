use Rattle.std.proofs.Common.{rules}
use Rattle.row_trees.proofs.BlockFits.{answer_of_list}
use Rattle.row_trees.proofs.container.Container.fits_blob.Goals as goal

pub returns-in-PutBlockList-clause-value : goal.returns-in-PutBlockList-clause-value
returns-in-PutBlockList-clause-value c = answer_of_list c.args.self.now c.args.act.now c.in-PutBlockList.list c.fits_list.result (search rules) c.fits_list.ensures
