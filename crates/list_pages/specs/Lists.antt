-- What lists show of blobs and of containers, and their pages (Blob service REST reference, 2012-02-12, "List Blobs", "List Containers").
use Rattle.std.specs.Prelude.{ℕ, List, [], Option, unwrap_or, sum_by}
use Rattle.std.specs.Option.{option_map}
use Rattle.std.specs.FinMap.{entries}
use Rattle.stamp_values.specs.declared.key.Key.{Key}
use Rattle.stamp_types.specs.declared.args.Page.{Page}
use Rattle.stamp_types.specs.declared.committed.Committed.{Committed}
use Rattle.stamp_types.specs.declared.piece.Piece.{Piece}
use Rattle.stamp_types.specs.Pieces.{pieces_len}
use Rattle.stamp_types.specs.World.{Blob, Part, World, blob_value}
pub use Rattle.body_forms.specs.ListEntries.{ShownBlob, ShownContainer, shown_committed, shown_standing}
use Rattle.list_pages.specs.Containers.{of_account, page_of_rows}
use Rattle.list_pages.specs.Pages.{Entry, PageOf, from_marker, listed, page, with_value}

-- the text, or the empty text if it isn't given
abbrev pub given : Option (List ℕ) → List ℕ
given text = unwrap_or text []

-- what a list shows of a committed part whose content is its size
abbrev pub shown_part : Committed ℕ → ShownBlob
shown_part c = shown_committed c (sum_by (λ block. block.content) c.blocks)

-- what a list shows of a blob: nothing, if the blob has no committed part
abbrev pub shown_blob : Blob ℕ → Option ShownBlob
shown_blob b = option_map shown_part b.committed

-- what a list shows of a blob whose content is in pieces: what it shows of the blob whose content is the size of the pieces
abbrev pub shown_row : Blob (List Piece) → Option ShownBlob
shown_row b = shown_blob (blob_value pieces_len b)

-- what a list shows of a container: nothing, if the container does not exist
abbrev pub shown_container : {C : Type 0} → Part C → Option ShownContainer
shown_container p = option_map shown_standing p.standing

-- the whole list of the blobs of a container whose content is its size
abbrev pub blob_list : Page → Part ℕ → List (Entry ShownBlob)
blob_list q p = listed (given q.prefix) (given q.delimiter) (with_value shown_blob (entries p.blobs))

-- a page of blobs: of the whole list, the first `max` entries at or past the marker
abbrev pub page_of_blobs : Page → Part ℕ → PageOf ShownBlob
page_of_blobs q p = page q.max (from_marker (given q.marker) (blob_list q p))

-- the whole list of the containers of an account
abbrev pub container_list : {C : Type 0} → List ℕ → Page → World C → List (Entry ShownContainer)
container_list account q w = listed (given q.prefix) [] (with_value shown_container (of_account account (entries w)))

-- a page of the containers of an account, of a world whose keys past the bound are elsewhere
abbrev pub page_of_containers : {C : Type 0} → List ℕ → Page → Option Key → World C → PageOf ShownContainer
page_of_containers account q bound w = page_of_rows shown_container account (given q.prefix) (given q.marker) q.max bound (entries w)
