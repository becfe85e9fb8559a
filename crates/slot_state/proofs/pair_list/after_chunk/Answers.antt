use Rattle.std.specs.Arc.{arc_value}
use Rattle.slot_state.proofs.PartLemmas.{parts_after}
use Rattle.slot_state.proofs.pair_list.after_chunk.Goals as goal

pub invariant_of-result : goal.invariant_of-result
invariant_of-result c = parts_after c.args.older.now.items c.args.newest.now c.args.len c.requires.parts c.in_ok-older.older.items c.in_ok-begun.begun (arc_value c.args.pair) c.requires.full c.in_ok-older.ensures c.in_ok-begun.ensures
