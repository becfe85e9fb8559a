use Rattle.std.proofs.Common.{refl}
use Rattle.stamp_main.proofs.AttendingLemmas.{reads_nothing}
use Rattle.stamp_main.proofs.console.Console.read_ready.Goals as goal

pub returns-else-has_input : goal.returns-else-has_input
returns-else-has_input g c = record {
  attended = reads_nothing (g.L.Read.remaining c.args.self.now.lines) c.args.operator.now.account c.args.operator.now.known c.args.line.now (g.O.Write.contents c.args.self.now.answers) _;
  account = refl;
}
