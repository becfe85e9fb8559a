-- The laws of lists and of their pages (Blob service REST reference, 2012-02-12, "List Blobs", "List Containers": the marker).
use Rattle.std.specs.Prelude.{◌≡◌, true, ℕ, ◌<◌, ◌≤◌, IfSome, IsTrue, List, [], ◌∷◌, ◌++◌, length, nat_eq, Option, None, Some, unwrap_or}
use Rattle.std.specs.Cmp.Lexicographic.{pointwise}
use Rattle.std.specs.FinMap.{get}
use Rattle.std.specs.List.{AllByRecursion, filter}
use Rattle.std.specs.Option.{option_and_then, option_map, option_to_list}
use Rattle.std.specs.declared.cmp.Ordering.TheVariants.{Less}
use Rattle.stamp_values.specs.Order.{name_cmp}
use Rattle.stamp_values.specs.Trees.{is_name_from}
use Rattle.stamp_types.specs.declared.args.Page.{Page}
use Rattle.stamp_types.specs.World.{Part}
use Rattle.list_pages.specs.Lists.{ShownBlob, given, shown_blob}
use Rattle.list_pages.specs.Names.{begins_with, group_of}
use Rattle.list_pages.specs.Pages.{Entry, PageOf, entry_of}
use Rattle.list_pages.specs.Rising.{Rises}

-- ---- following the markers

-- the same page from another marker on, with another largest number of entries
abbrev pub asked : Page → Option (List ℕ) → ℕ → Page
asked q marker max = record { prefix = q.prefix; delimiter = q.delimiter; marker = marker; max = max; metadata = q.metadata }

-- what a page and the pages after it have together, if the pages after it end. `later` is asked with the page's NextMarker
abbrev pub joined : {X : Type 0} → List (Entry X) → Option (List ℕ) → (List ℕ → Option (List (Entry X))) → Option (List (Entry X))
joined entries None later = Some entries
joined entries (Some next) later = option_map (λ more. entries ++ more) (later next)

-- the pages from a marker on, joined: each page is asked with the NextMarker of the page before it and with the next largest number, and
-- is answered as `answer` says. Nothing, if the numbers end before the pages do
abbrev pub followed : {X : Type 0} → (Page → PageOf X) → Page → Option (List ℕ) → List ℕ → Option (List (Entry X))
followed answer q marker [] = None
followed answer q marker (max ∷ maxes) =
    joined (answer (asked q marker max)).entries (answer (asked q marker max)).next (λ next. followed answer q (Some next) maxes)

-- each page may have an entry
abbrev pub AreSome : List ℕ → Type 0
AreSome maxes = AllByRecursion (λ max. 1 ≤ max) maxes

-- following the markers from the start gives the whole list and ends, with more numbers than `turns`
abbrev pub FollowingGivesAll : {X : Type 0} → (Page → PageOf X) → Page → List (Entry X) → ℕ → Type 0
FollowingGivesAll answer q whole turns = (maxes : List ℕ) → AreSome maxes → turns < length maxes → followed answer q None maxes ≡ Some whole

-- ---- one page

-- a page is in order and within its bounds
pub record IsInBounds {X : Type 0} (prefix marker : List ℕ) (max : ℕ) (r : PageOf X) : Type 0 where
  -- the texts strictly rise
  pub rises : Rises r.entries
  -- each text is at or past the marker
  pub from : AllByRecursion (λ entry. IsTrue (is_name_from marker entry.0)) r.entries
  -- each text begins with the prefix
  pub begins : AllByRecursion (λ entry. IsTrue (begins_with entry.0 prefix)) r.entries
  -- there are at most `max` entries
  pub most : length r.entries ≤ max
  -- NextMarker is past each entry
  pub next : IfSome r.next (λ next. AllByRecursion (λ entry. name_cmp entry.0 next ≡ Less) r.entries)

-- ---- the entries of names

-- the text under which a name is listed: its group, if it has a group, and otherwise the name itself
abbrev pub listed_text : List ℕ → List ℕ → List ℕ → List ℕ
listed_text prefix delimiter name = unwrap_or (group_of prefix delimiter name) name

-- the entries that have this text
abbrev pub entries_at : {X : Type 0} → List ℕ → List (Entry X) → List (Entry X)
entries_at text entries = filter (λ entry. pointwise nat_eq entry.0 text) entries

-- what a list shows of the blob of a name: nothing, if the blob has no committed part
abbrev pub shown_at : Part ℕ → List ℕ → Option ShownBlob
shown_at p name = option_and_then shown_blob (get p.blobs name)

-- a page with this NextMarker reaches the name: the name begins with the prefix, is at the marker or past it, and comes before the first
-- entry that the page leaves out
pub record Reaches (q : Page) (next : Option (List ℕ)) (name : List ℕ) : Type 0 where
  pub begins : begins_with name (given q.prefix) ≡ true
  pub from : is_name_from (given q.marker) name ≡ true
  pub before : IfSome next (λ next. name_cmp name next ≡ Less)

-- the entry of a name of which this is shown, or no entry
abbrev pub own_entry : {X : Type 0} → List ℕ → Option X → List (Entry X)
own_entry name shown = option_to_list (option_map (λ shown. (name, Some shown)) shown)

-- the entry is that of a committed name
abbrev pub IsOfSomeName : Part ℕ → List ℕ → List ℕ → Entry ShownBlob → Type 0
IsOfSomeName p prefix delimiter entry =
    (name : List ℕ) × (shown : ShownBlob) × (shown_at p name ≡ Some shown) × (entry_of prefix delimiter (name, shown) ≡ Some entry)
