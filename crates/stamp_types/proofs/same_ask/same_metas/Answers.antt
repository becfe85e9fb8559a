use Rattle.std.proofs.lemmas.Slice.Eq.{slice_eq-Decides}
use Rattle.stamp_types.proofs.Same.{metas_decide}
use Rattle.stamp_types.proofs.same_ask.same_metas.Goals as goal

pub returns : goal.returns
returns c = slice_eq-Decides metas_decide c.args.metas.now c.args.others.now c.eq.result c.eq.ensures
