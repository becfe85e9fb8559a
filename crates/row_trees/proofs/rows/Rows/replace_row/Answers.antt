use Rattle.std.proofs.Common.{◌≡◌, None, rules}
use Rattle.std.specs.FinMap as finite
use Rattle.row_trees.proofs.RowSwaps.{no_row_there}
use Rattle.row_trees.proofs.rows.Rows.replace_row.Goals as goal

pub unreachable-requires : goal.unreachable-requires
unreachable-requires c =
    let none : finite.get c.args.self.now c.args.key.now ≡ None = search rules in
    no_row_there c.args.self.now c.args.key.now c.args.row.now.blob none c.requires.there
