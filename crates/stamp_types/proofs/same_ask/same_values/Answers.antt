use Rattle.std.proofs.lemmas.Slice.Eq.{slice_eq-Decides, bytes_eq-Decides}
use Rattle.stamp_types.proofs.same_ask.same_values.Goals as goal

pub returns : goal.returns
returns c = slice_eq-Decides bytes_eq-Decides c.args.values.now c.args.others.now c.eq.result c.eq.ensures
