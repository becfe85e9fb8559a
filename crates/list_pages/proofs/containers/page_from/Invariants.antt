use Rattle.std.proofs.Common.{◌≤◌, [], length}
use Rattle.std.specs.List.{filter_map}
use Rattle.std.specs.Option.{option_map}
use Rattle.std.specs.FinMap as finite
use Rattle.list_pages.specs.Lists.{shown_container}
use Rattle.list_pages.proofs.Keys.{FromKey, InKeyOrder, shown}
use Rattle.list_pages.proofs.Steps.{IsAt}
use Rattle.list_pages.proofs.containers.page_from.Given as goal

-- the entries so far, and then those of the containers that are left, are the list from the marker on
abbrev pub invariant-loop-key : goal.invariant-loop-key
invariant-loop-key l = record {
  can : (goal.iterator-loop-key).can_next l.left;
  ends : (goal.iterator-loop-key).is_finite l.left;
  at : IsAt shown_container l.prefix [] l.start.container (filter_map (shown l.start.account (option_map (λ t. t.now) l.end)) (finite.entries l.rows)) l.entries.items
      (filter_map (shown l.start.account (option_map (λ t. t.now) l.end)) l.left);
  from : FromKey l.start l.left;
  order : InKeyOrder l.left;
  room : length l.entries.items ≤ l.max;
}

abbrev pub decreases-loop-key : goal.decreases-loop-key
decreases-loop-key l = length l.left
