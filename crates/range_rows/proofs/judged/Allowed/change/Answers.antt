use Rattle.row_trees.specs.FoundParts.{sizes_found}
use Rattle.range_rows.proofs.ChangeLemmas.{made_change_fits}
use Rattle.range_rows.proofs.FoundChanges.{made_change_found}
use Rattle.range_rows.proofs.judged.Allowed.change.Goals as goal

pub returns-clause-fits : goal.returns-clause-fits
returns-clause-fits c =
    made_change_fits (sizes_found c.args.self.now.target.container) c.args.request.now c.args.moment c.change_made.result c.requires.allowed.1 c.change_made.ensures

pub returns-clause-found : goal.returns-clause-found
returns-clause-found c =
    made_change_found c.args.self.now.target.container c.args.request.now c.args.moment c.args.self.now.found c.change_made.result c.requires.allowed.2 c.change_made.ensures
