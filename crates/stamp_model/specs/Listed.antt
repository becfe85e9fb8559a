-- What a list of blobs shows (Blob service REST reference, 2012-02-12, "List Blobs", "Get Blob").
use Rattle.std.specs.Prelude.{◌≡◌, ◌≢◌, ◌≤◌, ℕ, Bool, true, false, List, [], ◌∷◌, Contains, length, Option, None, Some}
use Rattle.stamp_values.specs.declared.key.Key.{Key}
use Rattle.stamp_values.specs.declared.op.Op.{Op}
use Rattle.stamp_values.specs.declared.op.Op.TheVariants as op
use Rattle.stamp_types.specs.declared.header.Header.TheVariants as header
use Rattle.stamp_types.specs.declared.reply.Reply.{Reply}
use Rattle.stamp_types.specs.Requests.{Asked}
use Rattle.stamp_types.specs.World.{Part}
use Rattle.body_forms.specs.ListEntries.{ShownBlob, ShownContainer}
use Rattle.body_forms.specs.WrittenPages.{blob_list_text, container_list_text}
use Rattle.list_pages.specs.Containers.{end_of}
use Rattle.list_pages.specs.FullPages.{IsFull}
use Rattle.list_pages.specs.Laws.{Reaches, entries_at, own_entry}
use Rattle.list_pages.specs.ListReplies.{page_asked}
use Rattle.list_pages.specs.Lists.{shown_container}
use Rattle.list_pages.specs.Pages.{PageOf}

-- the operation leaves a blob that readers see: it puts the blob, commits its blocks, or sets its metadata
abbrev pub leaves_blob : Op → Bool
leaves_blob op.PutBlob = true
leaves_blob op.PutBlockList = true
leaves_blob op.SetMetadata = true
leaves_blob _ = false

-- the request is a List Blobs of this container without a delimiter, so each entry is a name
pub record ListsNames (key : Key) (q : Asked) : Type 0 where
  pub op : q.ask.op ≡ op.ListBlobs
  pub container : q.ask.key ≡ key
  pub plain : (page_asked q).delimiter ≡ None

-- The body of the reply is a page, and the reply tells how many bytes it has. If this page reaches the name, it has exactly one entry of the
-- name, of which this is true.
pub record ListsOnce (q : Asked) (name : List ℕ) (listed : Reply) (IsShown : ShownBlob → Type 0) : Type 0 where
  pub page : PageOf ShownBlob
  pub body : listed.body ≡ blob_list_text (page_asked q) page.entries page.next
  pub told : listed.length ≡ length listed.body
  -- if the page may have an entry, its next marker is not empty: so a page with an empty NextMarker reaches every name from its own marker on
  pub marked : 1 ≤ (page_asked q).max → page.next ≢ Some []
  -- if the page has a next marker, it has as many entries as were asked for
  pub full : IsFull None (page_asked q).max page
  pub once : Reaches (page_asked q) page.next name → (shown : ShownBlob) × (entries_at name page.entries ≡ (name, Some shown) ∷ []) × IsShown shown

-- the body of the reply is a page, which has no entry of the name, and the reply tells how many bytes it has
pub record ListsNever (q : Asked) (name : List ℕ) (listed : Reply) : Type 0 where
  pub page : PageOf ShownBlob
  pub body : listed.body ≡ blob_list_text (page_asked q) page.entries page.next
  pub told : listed.length ≡ length listed.body
  pub never : entries_at name page.entries ≡ []

-- The body of the reply is a page of containers up to the bound, and the reply tells how many bytes it has. If this page reaches the name, it
-- has exactly one entry of the name, which shows this container if it exists, and else no entry of the name.
pub record ListsContainer {C : Type 0} (q : Asked) (bound : Option Key) (name : List ℕ) (p : Part C) (listed : Reply) : Type 0 where
  pub page : PageOf ShownContainer
  pub body : listed.body ≡ container_list_text (page_asked q) page.entries page.next
  pub told : listed.length ≡ length listed.body
  -- as in `ListsOnce`
  pub marked : 1 ≤ (page_asked q).max → page.next ≢ Some []
  -- as in `ListsOnce`, if the next marker is not that of the bound
  pub full : IsFull (end_of q.ask.key.account bound) (page_asked q).max page
  pub once : Reaches (page_asked q) page.next name → entries_at name page.entries ≡ own_entry name (shown_container p)

-- the reply to a Get Blob tells what is shown of the blob: its ETag, its moment, its content type and its length
pub record IsTold (got : Reply) (shown : ShownBlob) : Type 0 where
  pub etag : Contains got.headers (header.Etag shown.etag)
  pub made : Contains got.headers (header.LastModified shown.made)
  pub content_type : Contains got.headers (header.ContentType shown.content_type)
  pub len : got.length ≡ shown.len
