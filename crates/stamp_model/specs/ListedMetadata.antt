-- What a list of blobs and a Get Blob Metadata both tell (Blob service REST reference, 2012-02-12, "List Blobs": include=metadata; "Get Blob
-- Metadata").
use Rattle.std.specs.Prelude.{◌≡◌, ℕ, List, [], ◌∷◌, ◌++◌, map}
use Rattle.stamp_types.specs.declared.header.Header.TheVariants as header
use Rattle.stamp_types.specs.declared.args.Page.{Page}
use Rattle.stamp_types.specs.declared.reply.Reply.{Reply}
use Rattle.body_forms.specs.ListEntries.{ShownBlob}
use Rattle.body_forms.specs.WrittenPages.{blob_text}

-- the headers of the reply are the metadata that are shown of the blob, all of them in their order, and then its ETag and its moment
abbrev pub TellsMetadata : Reply → ShownBlob → Type 0
TellsMetadata got shown = got.headers ≡ map header.Meta shown.metadata ++ header.Etag shown.etag ∷ header.LastModified shown.made ∷ []

-- the body has the element of the blob, which has the blob's metadata if the request asks for metadata
pub record WritesBlob (q : Page) (name : List ℕ) (shown : ShownBlob) (body : List ℕ) : Type 0 where
  pub before : List ℕ
  pub after : List ℕ
  pub there : body ≡ before ++ blob_text q.metadata name shown ++ after
