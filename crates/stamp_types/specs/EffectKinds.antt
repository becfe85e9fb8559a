-- What changes are about, and what an ETag says (Blob service REST reference, 2012-02-12, the pages of the operations that write;
-- RFC 9110, section 8.8).
use Rattle.std.specs.Prelude.{ℕ, ◌≤◌, ◌≢◌, List, All, Option, Some, None, IfSome, find}
use Rattle.std.specs.Option.{option_map}
use Rattle.std.specs.Prelude.{nat_eq}
use Rattle.std.specs.Cmp.Lexicographic.{pointwise}
use Rattle.stamp_values.specs.declared.block.Taken.{Taken}
use Rattle.stamp_types.specs.declared.piece.Piece.{Piece}
use Rattle.stamp_values.specs.declared.meta.Meta.{Meta}
use Rattle.stamp_types.specs.declared.props.Props.{Props}
use Rattle.stamp_types.specs.declared.standing.Standing.{Standing}
use Rattle.stamp_types.specs.declared.committed.Block.{Block}
use Rattle.stamp_types.specs.declared.committed.Committed.{Committed}
use Rattle.stamp_types.specs.declared.committed.UncommittedBlock.{UncommittedBlock}
use Rattle.stamp_types.specs.declared.act.Act.{Act}
use Rattle.stamp_types.specs.declared.act.Act.TheVariants as act
use Rattle.stamp_types.specs.World.{Blob, Part, blob_in, content_from}

-- the blob that the change is about, if the change is about a blob
abbrev pub blob_named : Act → Option (List ℕ)
blob_named (act.PutBlob a) = Some a.blob
blob_named (act.SetMetadata a) = Some a.blob
blob_named (act.DeleteBlob a) = Some a.blob
blob_named (act.PutBlock a) = Some a.blob
blob_named (act.PutBlockList a) = Some a.blob
blob_named (act.StoredBlob a) = Some a.blob
blob_named other = None

-- the moment of a change that gives its container an ETag
abbrev pub container_dated : Act → Option ℕ
container_dated (act.CreateContainer a) = Some a.moment
container_dated (act.SetContainerMetadata a) = Some a.moment
container_dated (act.SetAcl a) = Some a.moment
container_dated other = None

-- the moment of a change that gives its blob an ETag
abbrev pub blob_dated : Act → Option ℕ
blob_dated (act.PutBlob a) = Some a.moment
blob_dated (act.SetMetadata a) = Some a.moment
blob_dated (act.PutBlockList a) = Some a.moment
blob_dated other = None

-- what the ETag of a container says: the count and the moment of the change that gave it
abbrev pub container_stamp : Standing → ℕ × ℕ
container_stamp s = (s.etag, s.made)

-- what the ETag of a blob says: the count and the moment of the change that gave it
abbrev pub blob_stamp : {C : Type 0} → Committed C → ℕ × ℕ
blob_stamp c = (c.etag, c.made)

-- this count and this moment, if there is something that has them
abbrev pub stamp_if : {X : Type 0} → ℕ → ℕ → Option X → Option (ℕ × ℕ)
stamp_if n t o = option_map (λ x. (n, t)) o

-- the blocks of a blob, and the headers that are kept with it
abbrev pub blocks_and_props : {C : Type 0} → Committed C → List (Block C) × Props
blocks_and_props c = (c.blocks, c.props)

-- the headers that are kept with a blob, and its metadata
abbrev pub props_and_metadata : {C : Type 0} → Committed C → Props × List Meta
props_and_metadata c = (c.props, c.metadata)

-- no ETag of the container, or of a blob of the container, is over the number
pub record EtagsAtMost {C : Type 0} (n : ℕ) (p : Part C) : Type 0 where
  pub container : IfSome p.standing (λ s. s.etag ≤ n)
  pub blobs : (name : List ℕ) → IfSome (blob_in p name).committed (λ c. c.etag ≤ n)

-- the blob has a block for each entry, among the blocks that the entry says
abbrev pub AreThere : {C : Type 0} → Blob C → List Taken → Type 0
AreThere b entries = All (λ e. content_from e.from e.id b ≢ None) entries

-- the content of the first uncommitted block of an id in a list of them, read by f
abbrev pub listed_content : {C : Type 0} → (List Piece → C) → List ℕ → List UncommittedBlock → Option C
listed_content f id blocks = option_map (λ u. f u.content) (find (λ u. pointwise nat_eq id u.id) blocks)
