-- What lists show of blobs and of containers (Blob service REST reference, 2012-02-12, "List Blobs", "List Containers").
use Rattle.std.specs.Prelude.{ℕ, List, Option}
use Rattle.stamp_values.specs.declared.meta.Meta.{Meta}
use Rattle.stamp_types.specs.declared.committed.Committed.{Committed}
use Rattle.stamp_types.specs.declared.standing.Standing.{Standing}

-- an entry of a list: its text, and what is shown of the name. Nothing is shown of a group
abbrev pub Entry : Type 0 → Type 0
Entry X = List ℕ × Option X

-- what a list shows of a blob: ETag, moment of the last change, content type, metadata, and how many bytes its content has
pub record ShownBlob : Type 0 where
  pub etag : ℕ
  pub made : ℕ
  pub content_type : List ℕ
  pub metadata : List Meta
  pub len : ℕ

-- what a list shows of a committed part whose content has so many bytes
abbrev pub shown_committed : {C : Type 0} → Committed C → ℕ → ShownBlob
shown_committed c len = record { etag = c.etag; made = c.made; content_type = c.props.content_type; metadata = c.metadata; len = len }

-- what a list shows of a container: ETag, moment of the last change, and metadata
pub record ShownContainer : Type 0 where
  pub etag : ℕ
  pub made : ℕ
  pub metadata : List Meta

-- what a list shows of a container that exists
abbrev pub shown_standing : Standing → ShownContainer
shown_standing s = record { etag = s.etag; made = s.made; metadata = s.metadata }
