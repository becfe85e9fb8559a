use Rattle.std.proofs.Common.{◌≡◌, length}
use Rattle.xml_text.specs.FrontReading as spec
use Rattle.xml_text.proofs.front.after_end.Given as goal

abbrev pub invariant-loop-left : goal.invariant-loop-left
invariant-loop-left l = spec.after_end l.left ≡ spec.after_end l.text

abbrev pub decreases-loop-left : goal.decreases-loop-left
decreases-loop-left l = length l.left
