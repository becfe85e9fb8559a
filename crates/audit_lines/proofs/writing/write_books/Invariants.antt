use Rattle.audit_lines.proofs.RoundLemmas.{HasWritten}
use Rattle.audit_lines.proofs.writing.write_books.Given as goal

-- the rounds so far
abbrev pub invariant-loop-round : goal.invariant-loop-round
invariant-loop-round g l = HasWritten (g.W.Write.contents l.initial.writer) (g.W.Write.contents l.writer) l.rounds
