use Rattle.audit_lines.specs.Lines.{WritesFrom}
use Rattle.audit_lines.proofs.unwritten.Unwritten.write.Given as goal

-- what is no longer left was written
abbrev pub invariant-loop-turn : goal.invariant-loop-turn
invariant-loop-turn g l = WritesFrom (g.W.Write.contents l.initial.writer) (g.W.Write.contents l.writer) l.initial.self l.self
