use Rattle.std.proofs.Common.{◌≡◌, ◌-◌}
use Rattle.log_record.specs.Reading.{each_at}
use Rattle.log_record.proofs.ItemTurns.{with_front}
use Rattle.log_record.proofs.lists.read_each.Given as goal

-- what the loop has read, with what it has still to read, is what there is to read
abbrev pub invariant-loop : goal.invariant-loop
invariant-loop g l =
    with_front l.items.items (each_at g.T.Recorded.at (l.count - l.counter) l.left.bytes.now)
    ≡ each_at g.T.Recorded.at l.count l.initial.left.bytes.now
