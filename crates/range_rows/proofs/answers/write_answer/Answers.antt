use Rattle.std.proofs.Common.{arith}
use Rattle.row_trees.specs.FoundParts.{sizes_found}
use Rattle.range_rows.proofs.Unrefused.{room_for_write}
use Rattle.range_rows.proofs.answers.write_answer.Goals as goal

pub overflow_add-count : goal.overflow_add-count
overflow_add-count c =
    let room = room_for_write (sizes_found c.args.found.now) c.args.request.now c.requires.allowed c.requires.writes in
    omega (arith, room, c.count.ensures)
