use Rattle.audit_lines.proofs.WriteLemmas.{writes_joined}
use Rattle.audit_lines.proofs.unwritten.Unwritten.write.Goals as goal

pub loop-turn-preserved : goal.loop-turn-preserved
loop-turn-preserved g c =
    writes_joined (g.W.Write.contents c.args.writer.now) (g.W.Write.contents c.loop-turn.writer) (g.W.Write.contents c.write_once.new.writer) c.args.self.now c.loop-turn.self c.write_once.new.self c.loop-turn.invariant c.write_once.ensures

pub returns-then-not-write_once : goal.returns-then-not-write_once
returns-then-not-write_once g c =
    writes_joined (g.W.Write.contents c.args.writer.now) (g.W.Write.contents c.loop-turn.writer) (g.W.Write.contents c.write_once.new.writer) c.args.self.now c.loop-turn.self c.write_once.new.self c.loop-turn.invariant c.write_once.ensures
