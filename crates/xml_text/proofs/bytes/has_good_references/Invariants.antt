use Rattle.std.proofs.Common.{◌≡◌, length}
use Rattle.xml_text.specs.Tokens as spec
use Rattle.xml_text.proofs.bytes.has_good_references.Given as goal

abbrev pub invariant-loop-left : goal.invariant-loop-left
invariant-loop-left l = spec.has_good_references l.left ≡ spec.has_good_references l.text

abbrev pub decreases-loop-left : goal.decreases-loop-left
decreases-loop-left l = length l.left
