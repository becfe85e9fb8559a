use Rattle.std.proofs.Common.{◌≤◌, length, map}
use Rattle.body_forms.specs.BlockListReading.{entry_view, entry_at}
use Rattle.body_forms.specs.BlockLists.{list_name}
use Rattle.xml_text.proofs.ElementTurns.{Lists}
use Rattle.body_forms.proofs.elements.elements.Given as goal

abbrev pub invariant-elements : goal.invariant-elements
invariant-elements l =
    (length l.text.left.now ≤ length l.fn.text.left.now) × Lists list_name entry_at l.fn.text.left.now l.text.left.now (map entry_view l.elements.items)

abbrev pub decreases-elements : goal.decreases-elements
decreases-elements l = length l.text.left.now
