use Rattle.audit_lines.specs.Rounds.{GoesOn}
use Rattle.audit_lines.proofs.writing.Rounds.finish.Given as goal

-- the rounds so far
abbrev pub invariant-loop-round : goal.invariant-loop-round
invariant-loop-round g l = GoesOn (g.W.Write.contents l.initial.writer) (g.W.Write.contents l.writer) l.initial.self l.self
