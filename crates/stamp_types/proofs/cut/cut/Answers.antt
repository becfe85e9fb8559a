use Rattle.std.proofs.Common.{arith}
use Rattle.stamp_types.proofs.Cuts.{cut_more}
use Rattle.stamp_types.proofs.cut.cut.Goals as goal

pub loop-at-preserved : goal.loop-at-preserved
loop-at-preserved c = record {
  same = cut_more _ _ _ _ c.loop-at.at c.in_ok-piece_at.field-0 (omega arith) c.in_ok-piece_at.ensures c.in_ok-push.ensures.items c.loop-at.invariant.same;
  near = omega arith;
}
