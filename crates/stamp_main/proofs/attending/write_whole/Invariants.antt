use Rattle.audit_lines.specs.Lines.{WritesFrom}
use Rattle.stamp_main.proofs.attending.write_whole.Given as goal

-- what is no longer left was written
abbrev pub invariant-loop-turn : goal.invariant-loop-turn
invariant-loop-turn g l = WritesFrom (g.O.Write.contents l.initial.writer) (g.O.Write.contents l.writer) l.bytes l.left
