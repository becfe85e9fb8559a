use Rattle.std.proofs.Common.{rules, refl, ap, ◌∙◌}
use Rattle.block_blobs.proofs.StoredBlocks.{stored_done, stored_more, stored_with, stored_with-empty}
use Rattle.block_blobs.proofs.uncommitted.tree_of.Goals as goal

pub loop-block-init : goal.loop-block-init
loop-block-init c = ap (stored_with c.args.blocks.items) c.new-tree.ensures ∙ stored_with-empty c.args.blocks.items

pub loop-block-preserved : goal.loop-block-preserved
loop-block-preserved c =
    stored_more _ c.loop-block.tree c.insert.new.self c.loop-block.left.items c.pop.new.self.items c.in-Some.block c.in-Some.block.id
    (search rules) refl c.in_ok-insert.ensures.inserted c.loop-block.invariant

pub returns : goal.returns
returns c = stored_done _ c.loop-block.tree c.loop-block.left.items (search rules) c.loop-block.invariant
