use Rattle.stamp_values.proofs.KeyedTrees.{keyed_from}
use Rattle.stamp_values.proofs.keyed.Keyed.range_from.Goals as goal

pub returns : goal.returns
returns g c = keyed_from c.args.self.now c.self.inside.tree c.range.result c.args.bound.now c.self.view_is c.range.ensures.ordered (c.range.ensures.between tt)
