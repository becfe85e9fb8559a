use Rattle.std.proofs.Common.{◌≡◌, ◌++◌, length}
use Rattle.xml_text.specs.ElementReading.{unescaped}
use Rattle.xml_text.proofs.unescape.unescaped.Given as goal

-- what is left gives the answer
abbrev pub invariant-loop-left : goal.invariant-loop-left
invariant-loop-left l = l.out.items ++ unescaped l.in_reference l.left ≡ unescaped 0 l.written

abbrev pub decreases-loop-left : goal.decreases-loop-left
decreases-loop-left l = length l.left
