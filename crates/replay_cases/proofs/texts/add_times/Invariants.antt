use Rattle.std.proofs.Common.{◌≡◌, ◌++◌}
use Rattle.std.specs.List.{repeat}
use Rattle.replay_cases.proofs.texts.add_times.Given as goal

abbrev pub invariant-loop : goal.invariant-loop
invariant-loop l = record { added : l.bytes.items ≡ l.fn.bytes.items ++ repeat l.counter l.once }
