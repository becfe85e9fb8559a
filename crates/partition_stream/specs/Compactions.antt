-- Content that is moved to other blocks, and rows that say its new places (SOSP 2011, section 5.3: checkpoints).
use Rattle.std.specs.Prelude.{◌≡◌, ⊤, ℕ, List, Option, Some, None, map}
use Rattle.std.specs.List.{AllZip}
use Rattle.extent_node.specs.Copies.{Block}
use Rattle.stamp_types.specs.Changes.{KeyedAct}
use Rattle.stamp_types.specs.Pieces.{piece_len}
use Rattle.stamp_types.specs.declared.act.Act.{Act}
use Rattle.stamp_types.specs.declared.act.Act.TheVariants as act
use Rattle.stamp_types.specs.declared.act.StoredBlob.{StoredBlob}
use Rattle.stamp_types.specs.declared.committed.Block as stored
use Rattle.stamp_types.specs.declared.committed.Committed.{Committed}
use Rattle.stamp_types.specs.declared.committed.UncommittedBlock.{UncommittedBlock}
use Rattle.stamp_types.specs.declared.piece.Piece.{Piece}
use Rattle.stamp_types.specs.declared.piece.Piece.TheVariants.{Bytes}
use Rattle.partition_stream.specs.Changes.{Recorded}
use Rattle.partition_stream.specs.Contents.{AreStored, bytes_at, content_at}
use Rattle.partition_stream.specs.Streams.{ThreeStreams}

-- the piece with its bytes
abbrev pub read_piece : List (List Block) → Piece → Piece
read_piece es p = Bytes (bytes_at es p)

-- the pieces have the lengths of those of the content, and are stored where the same bytes are read
pub record AreMoved (es : List (List Block)) (content : List Piece) (fs : List (List Block)) (ps : List Piece) : Type 0 where
  pub lengths : map piece_len ps ≡ map piece_len content
  pub stored : AreStored fs ps
  pub bytes : content_at fs ps ≡ content_at es content

-- the block has the same id, and its content is moved
pub record IsMovedBlock (es : List (List Block)) (b : stored.Block (List Piece)) (fs : List (List Block)) (c : stored.Block (List Piece)) : Type 0 where
  pub id : c.id ≡ b.id
  pub content : AreMoved es b.content fs c.content

-- each block has the same id, and its content is moved
abbrev pub AreMovedBlocks : List (List Block) → List (stored.Block (List Piece)) → List (List Block) → List (stored.Block (List Piece)) → Type 0
AreMovedBlocks es bs fs cs = AllZip (λ b c. IsMovedBlock es b fs c) bs cs

-- the committed part is the same, but its content is moved
pub record IsMovedCommitted (es : List (List Block)) (c : Committed (List Piece)) (fs : List (List Block)) (d : Committed (List Piece)) : Type 0 where
  pub etag : d.etag ≡ c.etag
  pub made : d.made ≡ c.made
  pub props : d.props ≡ c.props
  pub metadata : d.metadata ≡ c.metadata
  pub blocks : AreMovedBlocks es c.blocks fs d.blocks

-- the same, if there is a committed part; otherwise there is none
abbrev pub IsMovedPart : List (List Block) → Option (Committed (List Piece)) → List (List Block) → Option (Committed (List Piece)) → Type 0
IsMovedPart es None fs None = ⊤
IsMovedPart es None fs (Some d) = ⊥
IsMovedPart es (Some c) fs None = ⊥
IsMovedPart es (Some c) fs (Some d) = IsMovedCommitted es c fs d

-- the uncommitted block has the same id, and its content is moved
pub record IsMovedUncommitted (es : List (List Block)) (u : UncommittedBlock) (fs : List (List Block)) (v : UncommittedBlock) : Type 0 where
  pub id : v.id ≡ u.id
  pub content : AreMoved es u.content fs v.content

-- each uncommitted block has the same id, and its content is moved
abbrev pub AreMovedUncommitted : List (List Block) → List UncommittedBlock → List (List Block) → List UncommittedBlock → Type 0
AreMovedUncommitted es us fs vs = AllZip (λ u v. IsMovedUncommitted es u fs v) us vs

-- the row of a blob is the same, but its content is moved
pub record IsMovedRow (es : List (List Block)) (a : StoredBlob) (fs : List (List Block)) (b : StoredBlob) : Type 0 where
  pub blob : b.blob ≡ a.blob
  pub committed : IsMovedPart es a.committed fs b.committed
  pub uncommitted : AreMovedUncommitted es a.uncommitted fs b.uncommitted

-- the row of a blob is the same, but its content is moved; the row of a container has no content, and is the same; only rows are moved
abbrev pub IsMovedAct : List (List Block) → Act → List (List Block) → Act → Type 0
IsMovedAct es (act.StoredBlob a) fs (act.StoredBlob b) = IsMovedRow es a fs b
IsMovedAct es (act.ContainerRow a) fs (act.ContainerRow b) = b ≡ a
IsMovedAct es a fs b = ⊥

-- the row of the same container, with its content moved
pub record IsMovedChange (es : List (List Block)) (c : KeyedAct) (fs : List (List Block)) (d : KeyedAct) : Type 0 where
  pub key : d.key ≡ c.key
  pub act : IsMovedAct es c.act fs d.act

-- the record of the same row, with its content moved; a row has the epoch 0
pub record IsMovedRecord (es : List (List Block)) (c : Recorded) (fs : List (List Block)) (d : Recorded) : Type 0 where
  pub change : IsMovedChange es c.0 fs d.0
  pub epoch : d.1 ≡ 0

-- the records of the same rows in the same order, with their content moved
abbrev pub AreMovedRecords : List (List Block) → List Recorded → List (List Block) → List Recorded → Type 0
AreMovedRecords es cs fs ds = AllZip (λ c d. IsMovedRecord es c fs d) cs ds

-- extents of two or more blocks may have so many bytes
pub record HaveLimit (bytes : ℕ) (s : ThreeStreams) : Type 0 where
  pub log : s.log.limit ≡ bytes
  pub blobs : s.blobs.limit ≡ bytes
  pub rows : s.rows.limit ≡ bytes
