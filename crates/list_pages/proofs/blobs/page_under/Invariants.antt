use Rattle.std.proofs.Common.{◌≤◌, length}
use Rattle.std.specs.FinMap as finite
use Rattle.list_pages.specs.Lists.{shown_row}
use Rattle.list_pages.proofs.Steps.{IsAt}
use Rattle.list_pages.proofs.blobs.page_under.Given as goal

-- the entries so far, and then those of the blobs that are left, are the list from the marker on
abbrev pub invariant-loop-name : goal.invariant-loop-name
invariant-loop-name l = record {
  can : (goal.iterator-loop-name).can_next l.left;
  ends : (goal.iterator-loop-name).is_finite l.left;
  at : IsAt shown_row l.prefix l.delimiter l.marker (finite.entries l.found.blobs) l.entries.items l.left;
  room : length l.entries.items ≤ l.max;
}

abbrev pub decreases-loop-name : goal.decreases-loop-name
decreases-loop-name l = length l.left
