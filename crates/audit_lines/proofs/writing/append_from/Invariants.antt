use Rattle.std.proofs.Common.{◌≤◌}
use Rattle.std.specs.Prelude.{max}
use Rattle.audit_lines.specs.Lines.{AppendsLines}
use Rattle.audit_lines.proofs.writing.append_from.Given as goal

-- the lines of the indexes that were passed have been appended
abbrev pub invariant-loop-at : goal.invariant-loop-at
invariant-loop-at l = AppendsLines l.book l.from l.at l.initial.out.items l.out.items × (l.at ≤ max l.end l.from)
