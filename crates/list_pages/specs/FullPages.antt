-- How many entries a page has if the list goes on after it (Blob service REST reference, 2012-02-12, "List Blobs", "List Containers":
-- maxresults and NextMarker).
use Rattle.std.specs.Prelude.{◌≡◌, ◌≢◌, ℕ, List, Option, length}
use Rattle.list_pages.specs.Pages.{PageOf}

-- a page whose NextMarker is its own, and not the end of the rows that it was made of, has as many entries as were asked for
abbrev pub IsFull : {X : Type 0} → Option (List ℕ) → ℕ → PageOf X → Type 0
IsFull end max r = r.next ≢ end → length r.entries ≡ max
