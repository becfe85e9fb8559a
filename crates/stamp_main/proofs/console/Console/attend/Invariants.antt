use Rattle.std.proofs.Common.{◌≡◌, [], Some}
use Rattle.stamp_main.proofs.AttendingLemmas.{HasRead}
use Rattle.stamp_main.proofs.console.Console.attend.Given as goal

-- the bytes that came were attended
abbrev pub invariant-loop-turn : goal.invariant-loop-turn
invariant-loop-turn g l = record {
  attended : HasRead (g.L.Read.remaining l.initial.self.lines) (g.L.Read.remaining l.self.lines) l.initial.operator.account l.initial.operator.known (Some [])
      (g.O.Write.contents l.initial.self.answers) (g.O.Write.contents l.self.answers) l.operator.known l.line;
  account : l.operator.account ≡ l.initial.operator.account;
}
