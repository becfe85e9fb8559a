use Rattle.std.proofs.Common.{ap}
use Rattle.audit_lines.specs.Rounds.{Round}
use Rattle.audit_lines.proofs.RoundLemmas.{begun, nothing_written, renewed, written_in_turn, written_on}
use Rattle.audit_lines.proofs.writing.write_books.Goals as goal

pub returns-in_default : goal.returns-in_default
returns-in_default g c = nothing_written (g.W.Write.contents c.args.writer.now)

pub loop-round-init : goal.loop-round-init
loop-round-init g c =
    begun (g.W.Write.contents c.args.writer.now) c.new-rounds.result (ap (λ (r : Round). r.next) c.new-rounds.ensures) (ap (λ (r : Round). r.left) c.new-rounds.ensures)

pub returns-then-load : goal.returns-then-load
returns-then-load g c =
    written_in_turn (g.W.Write.contents c.args.writer.now) (g.W.Write.contents c.finish.new.writer) c.finish.new.self
    (written_on (g.W.Write.contents c.args.writer.now) (g.W.Write.contents c.loop-round.writer) (g.W.Write.contents c.finish.new.writer) c.loop-round.rounds c.finish.new.self
    c.loop-round.invariant c.finish.ensures)

pub loop-round-preserved : goal.loop-round-preserved
loop-round-preserved g c =
    renewed (g.W.Write.contents c.args.writer.now) (g.W.Write.contents c.go_on.new.writer) c.go_on.new.self c.renew.new.self
    (written_on (g.W.Write.contents c.args.writer.now) (g.W.Write.contents c.loop-round.writer) (g.W.Write.contents c.go_on.new.writer) c.loop-round.rounds c.go_on.new.self
    c.loop-round.invariant c.go_on.ensures) c.renew.ensures
