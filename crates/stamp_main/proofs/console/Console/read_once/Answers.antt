use Rattle.std.proofs.Common.{◌≡◌, ℕ, rules, subst, take, true}
use Rattle.std.specs.Io.KnownBytes.{Consumes}
use Rattle.stamp_main.proofs.AttendingLemmas.{reads_kept, reads_none}
use Rattle.stamp_main.proofs.console.Console.read_once.Goals as goal

pub returns-in-Ok-eq0-clause-attended : goal.returns-in-Ok-eq0-clause-attended
returns-in-Ok-eq0-clause-attended g c =
    let end : c.in-Ok-eq0.field-0 ≡ 0 = search rules in
    reads_none (g.L.Read.remaining c.args.self.now.lines) (g.L.Read.remaining c.read.new.self) c.args.operator.now.account c.args.operator.now.known c.args.line.now
    (g.O.Write.contents c.args.self.now.answers) true
    (subst (λ (n : ℕ). Consumes (g.L.Read.remaining c.args.self.now.lines) (g.L.Read.remaining c.read.new.self) (take n c.read.new.buf)) end c.in-Ok-eq0.ensures.bytes.0)

pub returns-then-matches-clause-attended : goal.returns-then-matches-clause-attended
returns-then-matches-clause-attended g c =
    reads_kept (g.L.Read.remaining c.args.self.now.lines) (g.L.Read.remaining c.read.new.self) c.args.operator.now.account c.args.operator.now.known c.args.line.now
    (g.O.Write.contents c.args.self.now.answers) true c.in-Err.ensures.bytes

pub returns-else-matches-clause-attended : goal.returns-else-matches-clause-attended
returns-else-matches-clause-attended g c =
    reads_kept (g.L.Read.remaining c.args.self.now.lines) (g.L.Read.remaining c.read.new.self) c.args.operator.now.account c.args.operator.now.known c.args.line.now
    (g.O.Write.contents c.args.self.now.answers) true c.in-Err.ensures.bytes
