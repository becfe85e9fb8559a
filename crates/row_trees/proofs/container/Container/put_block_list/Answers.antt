use Rattle.std.proofs.Common.{rules}
use Rattle.row_trees.proofs.BlockActs.{found_in_no_blob, list_fits_no_blob}
use Rattle.row_trees.proofs.container.Container.put_block_list.Goals as goal

pub of_list-requires-clause-fits : goal.of_list-requires-clause-fits
of_list-requires-clause-fits c = list_fits_no_blob c.args.self.now c.args.list.blob c.args.list.entries (search rules) c.requires.fits

pub of_list-requires-clause-found : goal.of_list-requires-clause-found
of_list-requires-clause-found c = found_in_no_blob c.args.self.now c.args.list.blob c.args.found c.args.list.entries (search rules) c.requires.found
