use Rattle.std.proofs.Common.{◌≡◌, length, reverse}
use Rattle.xml_text.specs.Elements.{without_white_front}
use Rattle.xml_text.proofs.trimming.without_end.Given as goal

-- what is left gives the answer
abbrev pub invariant-loop-left : goal.invariant-loop-left
invariant-loop-left l = without_white_front (reverse l.left) ≡ without_white_front (reverse l.text)

abbrev pub decreases-loop-left : goal.decreases-loop-left
decreases-loop-left l = length l.left
