use Rattle.stamp_values.proofs.NamedTrees.{listed_from}
use Rattle.stamp_values.proofs.named.Named.range_from.Goals as goal

pub returns : goal.returns
returns g c = listed_from c.args.self.now c.self.inside.tree c.range.result c.args.bound.now c.self.view_is c.range.ensures.ordered (c.range.ensures.between tt)
