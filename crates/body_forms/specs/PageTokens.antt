-- Lists of blobs and of containers as the tokens that a reader is to find in them (Blob service REST reference, 2012-02-12, "List Blobs",
-- "List Containers"; Extensible Markup Language 1.0, section 3.1).
use Rattle.std.specs.Prelude.{◌≡◌, ℕ, Bool, true, List, [], ◌∷◌, ◌++◌, All, Option, Some, None, IfSome, codes, cond, decimal, flat_map, unwrap_or}
use Rattle.stamp_values.specs.Etags.{etag_text}
use Rattle.stamp_values.specs.Names.{is_metadata_name}
use Rattle.stamp_values.specs.declared.meta.Meta.{Meta}
use Rattle.stamp_types.specs.declared.args.Page.{Page}
use Rattle.moment_text.specs.Http.{http_text}
use Rattle.body_forms.specs.KeptPolicies.{IsMoment}
use Rattle.body_forms.specs.ListEntries.{Entry, ShownBlob, ShownContainer}
use Rattle.xml_text.specs.Texts.{Token}
use Rattle.xml_text.specs.WrittenTokens.{element_tokens, field_tokens, given_tokens, IsCleanText}

-- a name of metadata with its value
abbrev pub meta_tokens : Meta → List Token
meta_tokens m = field_tokens m.name m.value

-- the metadata, if they were asked for
abbrev pub metadata_tokens : Bool → List Meta → List Token
metadata_tokens asked ms = cond asked (element_tokens (codes "Metadata") (flat_map meta_tokens ms)) []

-- the moment of the last change, and the ETag
abbrev pub dates_tokens : ℕ → ℕ → List Token
dates_tokens made etag = field_tokens (codes "Last-Modified") (http_text made) ++ field_tokens (codes "Etag") (etag_text etag)

-- the properties of a blob
abbrev pub blob_properties_tokens : ShownBlob → List Token
blob_properties_tokens b =
    element_tokens (codes "Properties") (
    dates_tokens b.made b.etag ++ field_tokens (codes "Content-Length") (decimal b.len)
    ++ field_tokens (codes "Content-Type") b.content_type ++ field_tokens (codes "BlobType") (codes "BlockBlob"))

-- a blob
abbrev pub blob_tokens : Bool → List ℕ → ShownBlob → List Token
blob_tokens asked name b =
    element_tokens (codes "Blob") (field_tokens (codes "Name") name ++ blob_properties_tokens b ++ metadata_tokens asked b.metadata)

-- a group of names
abbrev pub group_tokens : List ℕ → List Token
group_tokens t = element_tokens (codes "BlobPrefix") (field_tokens (codes "Name") t)

-- a container
abbrev pub container_tokens : Bool → List ℕ → ShownContainer → List Token
container_tokens asked name c =
    element_tokens (codes "Container") (
    field_tokens (codes "Name") name ++ element_tokens (codes "Properties") (dates_tokens c.made c.etag)
    ++ metadata_tokens asked c.metadata)

-- an entry, by the tokens of a name of which something is shown
abbrev pub entry_tokens : {X : Type 0} → (List ℕ → X → List Token) → Entry X → List Token
entry_tokens shown (name, Some x) = shown name x
entry_tokens shown (name, None) = group_tokens name

-- what was asked for, without the delimiter
abbrev pub asked_tokens : Page → List Token
asked_tokens q =
    given_tokens (codes "Prefix") q.prefix ++ given_tokens (codes "Marker") q.marker ++ field_tokens (codes "MaxResults") (decimal q.max)

-- the marker with which the list goes on
abbrev pub next_tokens : Option (List ℕ) → List Token
next_tokens next = field_tokens (codes "NextMarker") (unwrap_or next [])

-- the entries of a list of blobs
abbrev pub BlobEntries : Type 0
BlobEntries = List (Entry ShownBlob)

-- the entries of a list of containers
abbrev pub ContainerEntries : Type 0
ContainerEntries = List (Entry ShownContainer)

-- a list of blobs
abbrev pub blob_list_tokens : Page → BlobEntries → Option (List ℕ) → List Token
blob_list_tokens q entries next =
    element_tokens (codes "EnumerationResults") (
    asked_tokens q ++ given_tokens (codes "Delimiter") q.delimiter
    ++ element_tokens (codes "Blobs") (flat_map (entry_tokens (blob_tokens q.metadata)) entries) ++ next_tokens next)

-- a list of containers
abbrev pub container_list_tokens : Page → ContainerEntries → Option (List ℕ) → List Token
container_list_tokens q entries next =
    element_tokens (codes "EnumerationResults") (
    asked_tokens q ++ element_tokens (codes "Containers") (flat_map (entry_tokens (container_tokens q.metadata)) entries)
    ++ next_tokens next)

-- ---- what the types of the parts promise

-- the name is a name of metadata, and the value is a text
pub record IsCleanMeta (m : Meta) : Type 0 where
  pub name : is_metadata_name m.name ≡ true
  pub value : IsCleanText m.value

-- the content type is a text, the last change was at a moment, and the metadata have names of metadata and texts
pub record IsCleanBlob (b : ShownBlob) : Type 0 where
  pub made : IsMoment b.made
  pub content_type : IsCleanText b.content_type
  pub metadata : All IsCleanMeta b.metadata

-- the last change was at a moment, and the metadata have names of metadata and texts
pub record IsCleanContainer (c : ShownContainer) : Type 0 where
  pub made : IsMoment c.made
  pub metadata : All IsCleanMeta c.metadata

-- the name is a text, and what is shown of it has texts
abbrev pub IsCleanEntry : {X : Type 0} → (X → Type 0) → Entry X → Type 0
IsCleanEntry IsCleanShown e = IsCleanText e.0 × IfSome e.1 IsCleanShown

-- what was asked for has texts
pub record IsCleanPage (q : Page) : Type 0 where
  pub prefix : IfSome q.prefix IsCleanText
  pub marker : IfSome q.marker IsCleanText
  pub delimiter : IfSome q.delimiter IsCleanText
