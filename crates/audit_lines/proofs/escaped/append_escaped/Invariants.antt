use Rattle.std.proofs.Common.{◌≡◌, ◌++◌, take}
use Rattle.audit_lines.specs.Lines.{escaped}
use Rattle.audit_lines.proofs.escaped.append_escaped.Given as goal

-- the bytes that were passed have been appended
abbrev pub invariant-loop-byte : goal.invariant-loop-byte
invariant-loop-byte l = l.out.items ≡ l.initial.out.items ++ escaped (take l.byte-index l.text)
