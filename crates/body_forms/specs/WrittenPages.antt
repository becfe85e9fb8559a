-- Lists of blobs and of containers as they are written (Blob service REST reference, 2012-02-12, "List Blobs", "List Containers"; Extensible
-- Markup Language 1.0, sections 2.8 and 3.1).
use Rattle.std.specs.Prelude.{ℕ, Bool, List, [], ◌++◌, Option, Some, None, codes, cond, decimal, flat_map, unwrap_or}
use Rattle.stamp_values.specs.Etags.{etag_text}
use Rattle.stamp_values.specs.declared.meta.Meta.{Meta}
use Rattle.stamp_types.specs.declared.args.Page.{Page}
use Rattle.moment_text.specs.Http.{http_text}
use Rattle.body_forms.specs.ListEntries.{Entry, ShownBlob, ShownContainer}
use Rattle.xml_text.specs.WrittenElements.{opening_text, closing_text, prolog_text, element_text, given_text, filled_text}

-- a name of metadata with its value
abbrev pub meta_text : Meta → List ℕ
meta_text m = element_text m.name m.value

-- the metadata, if they were asked for
abbrev pub metadata_text : Bool → List Meta → List ℕ
metadata_text asked ms = cond asked (filled_text (codes "Metadata") (flat_map meta_text ms)) []

-- the moment of the last change in the form of a date of HTTP, and the ETag with its quotation marks
unfoldable pub dates_text : ℕ → ℕ → List ℕ
dates_text made etag = filled_text (codes "Last-Modified") (http_text made) ++ filled_text (codes "Etag") (etag_text etag)

-- the length of the content, its type, and the type of the blob
unfoldable pub content_text : ShownBlob → List ℕ
content_text b =
    filled_text (codes "Content-Length") (decimal b.len) ++ element_text (codes "Content-Type") b.content_type
    ++ filled_text (codes "BlobType") (codes "BlockBlob")

-- the properties of a blob
unfoldable pub blob_properties_text : ShownBlob → List ℕ
blob_properties_text b = opening_text (codes "Properties") ++ dates_text b.made b.etag ++ content_text b ++ closing_text (codes "Properties")

-- a blob
unfoldable pub blob_text : Bool → List ℕ → ShownBlob → List ℕ
blob_text asked name b =
    opening_text (codes "Blob") ++ element_text (codes "Name") name ++ blob_properties_text b ++ metadata_text asked b.metadata
    ++ closing_text (codes "Blob")

-- a group of names
unfoldable pub group_text : List ℕ → List ℕ
group_text text = filled_text (codes "BlobPrefix") (element_text (codes "Name") text)

-- the properties of a container
unfoldable pub container_properties_text : ShownContainer → List ℕ
container_properties_text c = filled_text (codes "Properties") (dates_text c.made c.etag)

-- a container
unfoldable pub container_text : Bool → List ℕ → ShownContainer → List ℕ
container_text asked name c =
    opening_text (codes "Container") ++ element_text (codes "Name") name ++ container_properties_text c ++ metadata_text asked c.metadata
    ++ closing_text (codes "Container")

-- an entry, by how a name is written of which something is shown
abbrev pub entry_text : {X : Type 0} → (List ℕ → X → List ℕ) → Entry X → List ℕ
entry_text shown_text (text, Some shown) = shown_text text shown
entry_text shown_text (text, None) = group_text text

-- what was asked for, without the delimiter: the prefix, the marker, and the largest number of entries
unfoldable pub page_asked_text : Page → List ℕ
page_asked_text q =
    given_text (codes "Prefix") q.prefix ++ given_text (codes "Marker") q.marker ++ filled_text (codes "MaxResults") (decimal q.max)

-- the marker with which the list goes on, which is empty if the list ends here
unfoldable pub next_text : Option (List ℕ) → List ℕ
next_text next = element_text (codes "NextMarker") (unwrap_or next [])

-- the blobs and the groups of names, in an element of their own
unfoldable pub blobs_text : Bool → List (Entry ShownBlob) → List ℕ
blobs_text asked entries = opening_text (codes "Blobs") ++ flat_map (entry_text (blob_text asked)) entries ++ closing_text (codes "Blobs")

-- the containers, in an element of their own
unfoldable pub containers_text : Bool → List (Entry ShownContainer) → List ℕ
containers_text asked entries =
    opening_text (codes "Containers") ++ flat_map (entry_text (container_text asked)) entries ++ closing_text (codes "Containers")

-- a list of blobs as it is written, which also tells the delimiter
unfoldable pub blob_list_text : Page → List (Entry ShownBlob) → Option (List ℕ) → List ℕ
blob_list_text q entries next =
    prolog_text ++ opening_text (codes "EnumerationResults") ++ page_asked_text q ++ given_text (codes "Delimiter") q.delimiter
    ++ blobs_text q.metadata entries ++ next_text next ++ closing_text (codes "EnumerationResults")

-- a list of containers as it is written
unfoldable pub container_list_text : Page → List (Entry ShownContainer) → Option (List ℕ) → List ℕ
container_list_text q entries next =
    prolog_text ++ opening_text (codes "EnumerationResults") ++ page_asked_text q ++ containers_text q.metadata entries
    ++ next_text next ++ closing_text (codes "EnumerationResults")
