use Rattle.std.proofs.Common.{◌≡◌, drop}
use Rattle.list_pages.specs.Seeks.{cut_from}
use Rattle.list_pages.proofs.names.cut_end.Given as goal

abbrev pub invariant-loop-at : goal.invariant-loop-at
invariant-loop-at l = cut_from l.at l.delimiter (drop l.at l.text) ≡ cut_from 0 l.delimiter l.text
