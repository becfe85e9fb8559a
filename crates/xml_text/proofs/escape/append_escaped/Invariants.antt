use Rattle.std.proofs.Common.{◌≡◌, ◌++◌, length}
use Rattle.xml_text.specs.Escapes.{escaped}
use Rattle.xml_text.proofs.escape.append_escaped.Given as goal

-- what is written, with what is left, is what was asked for
abbrev pub invariant-loop-left : goal.invariant-loop-left
invariant-loop-left l = l.out.items ++ escaped l.left ≡ l.fn.out.items ++ escaped l.fn.text

abbrev pub decreases-loop-left : goal.decreases-loop-left
decreases-loop-left l = length l.left
