use Rattle.audit_lines.proofs.RoundLemmas.{goes_on, stays_on}
use Rattle.audit_lines.proofs.writing.Rounds.finish.Goals as goal

pub loop-round-init : goal.loop-round-init
loop-round-init g c = stays_on (g.W.Write.contents c.args.writer.now) c.args.self.now

pub loop-round-preserved : goal.loop-round-preserved
loop-round-preserved g c =
    goes_on (g.W.Write.contents c.args.writer.now) (g.W.Write.contents c.loop-round.writer) (g.W.Write.contents c.go_on.new.writer) c.args.self.now c.loop-round.self c.go_on.new.self
    c.loop-round.invariant c.go_on.ensures
