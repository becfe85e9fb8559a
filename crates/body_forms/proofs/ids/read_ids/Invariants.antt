use Rattle.std.proofs.Common.{drop}
use Rattle.body_forms.proofs.IdTurns.{Reads}
use Rattle.body_forms.proofs.ids.read_ids.Given as goal

abbrev pub invariant-loop-element : goal.invariant-loop-element
invariant-loop-element l = Reads l.elements (drop l.element-index l.elements) l.blocks.items
