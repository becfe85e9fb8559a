use Rattle.std.proofs.Common.{◌≡◌, take}
use Rattle.stamp_main.proofs.AttendingLemmas.{HasAttended}
use Rattle.stamp_main.proofs.attending.take.Given as goal

-- the bytes that were passed were attended
abbrev pub invariant-loop-byte : goal.invariant-loop-byte
invariant-loop-byte g l = record {
  attended : HasAttended l.initial.operator.account l.initial.operator.known l.initial.line (take l.byte-index l.came) (g.O.Write.contents l.initial.writer) (g.O.Write.contents l.writer) l.operator.known l.line;
  account : l.operator.account ≡ l.initial.operator.account;
}
