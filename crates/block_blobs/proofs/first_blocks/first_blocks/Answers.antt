use Rattle.std.proofs.Common.{arith}
use Rattle.block_blobs.proofs.FirstContents.{held_more, nothing_held}
use Rattle.block_blobs.proofs.first_blocks.first_blocks.Goals as goal

pub loop-left-init : goal.loop-left-init
loop-left-init c = record {
  within = omega arith;
  held = nothing_held c.args.blocks.now c.new-first.result.entries c.new-first.ensures.empty;
}

pub loop-left-preserved : goal.loop-left-preserved
loop-left-preserved c = record {
  within = omega arith;
  held =
      held_more c.args.blocks.now c.loop-left.left c.index-blocks-left.result _ _ (omega arith) c.loop-left.invariant.within c.index-blocks-left.is
      c.in_ok-put_block.ensures c.loop-left.invariant.held;
}
