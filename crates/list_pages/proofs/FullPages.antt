-- A page that is not the last has as many entries as were asked for.
use Rattle.std.proofs.Common.{◌≡◌, ◌≢◌, ℕ, zero, suc, List, [], ◌∷◌, length, take, Option, None, refl, ap}
use Rattle.std.specs.FinMap.{entries}
use Rattle.std.specs.List.{slice_get}
use Rattle.std.specs.Option.{option_map}
use Rattle.stamp_values.specs.declared.key.Key.{Key}
use Rattle.stamp_types.specs.declared.args.Page.{Page}
use Rattle.stamp_types.specs.World.{Part, World}
use Rattle.list_pages.specs.Containers.{before_end, end_of, of_account, or_else}
use Rattle.list_pages.specs.FullPages.{IsFull}
use Rattle.list_pages.specs.Lists.{blob_list, given, page_of_blobs, page_of_containers, shown_container}
use Rattle.list_pages.specs.Pages.{Entry, from_marker, listed, with_value}

module _ {Y : Type 0} where
  -- if an entry is left out, as many entries are taken as were asked for
  taken : (max : ℕ) (items : List (Entry Y)) → option_map (λ (entry : Entry Y). entry.0) (slice_get items max) ≢ None → length (take max items) ≡ max
  taken zero [] some = absurd (some refl)
  taken zero (item ∷ items) some = refl
  taken (suc n) [] some = absurd (some refl)
  taken (suc n) (item ∷ items) some = ap suc (taken n items some)

  -- a page before an end
  full_to : (max : ℕ) (end : Option (List ℕ)) (items : List (Entry Y)) → or_else (option_map (λ (entry : Entry Y). entry.0) (slice_get items max)) end ≢ end → length (take max items) ≡ max
  full_to max end items own = taken max items (λ none. own (ap (λ next. or_else next end) none))

pub blobs_full : (q : Page) (p : Part ℕ) → IsFull None q.max (page_of_blobs q p)
blobs_full q p own = taken q.max (from_marker (given q.marker) (blob_list q p)) own

pub containers_full : {C : Type 0} (account : List ℕ) (q : Page) (bound : Option Key) (w : World C) → IsFull (end_of account bound) q.max (page_of_containers account q bound w)
containers_full account q bound w own =
    full_to q.max (end_of account bound) (from_marker (given q.marker) (listed (given q.prefix) [] (with_value shown_container (before_end (end_of account bound) (of_account account (entries w)))))) own
