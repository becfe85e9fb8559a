-- What is said of each content in a container, and of each that an act brings (Blob service REST reference, 2012-02-12, the pages of
-- the operations that write).
use Rattle.std.specs.Prelude.{ℕ, List, All, IfSome, ⊤}
use Rattle.std.specs.FinMap as finite
use Rattle.stamp_values.specs.declared.key.Key.{Key}
use Rattle.stamp_types.specs.declared.piece.Piece.{Piece}
use Rattle.stamp_types.specs.declared.committed.Committed.{Committed}
use Rattle.stamp_types.specs.declared.act.Act.{Act}
use Rattle.stamp_types.specs.declared.act.Act.TheVariants as act
use Rattle.stamp_types.specs.World.{Blob, Part, World, blob_in, part_at}

-- P holds of the content of each block in a committed part
abbrev pub EachCommittedContent : {C : Type 0} → (C → Type 0) → Committed C → Type 0
EachCommittedContent P c = All (λ block. P block.content) c.blocks

-- P holds of each content of a blob: of the content of each committed block, and of the content of each uncommitted block
pub record EachBlobContent {C : Type 0} (P : C → Type 0) (b : Blob C) : Type 0 where
  pub committed : IfSome b.committed (EachCommittedContent P)
  pub uncommitted : (id : List ℕ) → IfSome (finite.get b.uncommitted id) P

-- P holds of each content in a container: of each content of each blob
abbrev pub EachContent : {C : Type 0} → (C → Type 0) → Part C → Type 0
EachContent P p = (name : List ℕ) → EachBlobContent P (blob_in p name)

-- P holds of each content in a world: of each content in each container
abbrev pub EachWorldContent : {C : Type 0} → (C → Type 0) → World C → Type 0
EachWorldContent P w = (key : Key) → EachContent P (part_at w key)

-- P holds of each content that an act brings: of what Put Blob and Put Block write, and of the content of each block in a stored blob's row
abbrev pub EachActContent : (List Piece → Type 0) → Act → Type 0
EachActContent P (act.PutBlob a) = P a.content
EachActContent P (act.PutBlock a) = P a.content
EachActContent P (act.StoredBlob a) = IfSome a.committed (EachCommittedContent P) × All (λ u. P u.content) a.uncommitted
EachActContent P other = ⊤
