-- The row of a blob whose content is put again in the data that has it.
use Rattle.std.proofs.Common.{◌≡◌, ◌∙◌, ◌≤◌, ◌<◌, ◌+◌, ℕ, List, [], ◌∷◌, ◌++◌, Option, Some, None, IfSome, All, length, take, get_or, sym, subst, arith}
use Rattle.std.specs.List.{AllZip}
use Rattle.std.proofs.lemmas.List.Elements.{All-get_or, All-head, All-push, All-tail, All-weaker}
use Rattle.extent_node.specs.Copies.{Block}
use Rattle.stamp_types.specs.Contents.{EachActContent, EachCommittedContent}
use Rattle.stamp_types.specs.declared.act.Act.{Act}
use Rattle.stamp_types.specs.declared.act.Act.TheVariants as act
use Rattle.stamp_types.specs.declared.act.StoredBlob.{StoredBlob}
use Rattle.stamp_types.specs.declared.committed.Block as stored
use Rattle.stamp_types.specs.declared.committed.Committed.{Committed}
use Rattle.stamp_types.specs.declared.committed.UncommittedBlock.{UncommittedBlock}
use Rattle.stamp_types.specs.declared.piece.Piece.{Piece}
use Rattle.stamp_types.proofs.EachContents.{EachActContent-then}
use Rattle.stream_manager.specs.Places.{GoesOn, KeepsPlaces}
use Rattle.stream_manager.specs.Streams.{Streamed, laid}
use Rattle.stream_manager.proofs.ReadLemmas.{count_of_extents}
use Rattle.partition_stream.specs.Compactions.{AreMoved, AreMovedBlocks, AreMovedUncommitted, IsMovedBlock, IsMovedCommitted, IsMovedPart, IsMovedRow, IsMovedUncommitted}
use Rattle.partition_stream.specs.Contents.{AreStored, content_at}
use Rattle.partition_stream.specs.Sweeping.{AreFrom}
use Rattle.partition_stream.proofs.ContentLemmas.{content_reads, content_stays}
use Rattle.partition_stream.proofs.MoveLemmas.{blocks_more, uncommitted_more}
use Rattle.partition_stream.proofs.MovedRowLemmas.{part_stays}
use Rattle.partition_stream.proofs.SweepingLemmas.{later_from}

-- ---- the data from which content is moved

-- lists of which S holds at each place, if Q holds of each first element and R at each place
zip_given : {X Y : Type 0} (Q : X → Type 0) (R S : X → Y → Type 0) → ((x : X) (y : Y) → Q x → R x y → S x y) → (xs : List X) (ys : List Y) → All Q xs → AllZip R xs ys → AllZip S xs ys
zip_given Q R S then [] [] all h = tt
zip_given Q R S then [] (y ∷ ys) all h = absurd h
zip_given Q R S then (x ∷ xs) [] all h = absurd h
zip_given Q R S then (x ∷ xs) (y ∷ ys) all h = (then x y (All-head Q x xs all) h.0, zip_given Q R S then xs ys (All-tail Q x xs all) h.1)

-- content for which P holds reads the same in the data es and in the data fs
module _ (es fs gs : List (List Block)) (P : List Piece → Type 0) (same : (ps : List Piece) → P ps → content_at fs ps ≡ content_at es ps) where
  -- content that is moved from the one is moved from the other
  content_moved : (ps qs : List Piece) → P ps → AreMoved es ps gs qs → AreMoved fs ps gs qs
  content_moved ps qs own m = record { lengths = m.lengths; stored = m.stored; bytes = m.bytes ∙ sym (same ps own) }

  block_moved : (b c : stored.Block (List Piece)) → P b.content → IsMovedBlock es b gs c → IsMovedBlock fs b gs c
  block_moved b c own m = record { id = m.id; content = content_moved b.content c.content own m.content }

  uncommitted_moved : (u v : UncommittedBlock) → P u.content → IsMovedUncommitted es u gs v → IsMovedUncommitted fs u gs v
  uncommitted_moved u v own m = record { id = m.id; content = content_moved u.content v.content own m.content }

  all_moved : (us vs : List UncommittedBlock) → All (λ u. P u.content) us → AreMovedUncommitted es us gs vs → AreMovedUncommitted fs us gs vs
  all_moved us vs own m = zip_given (λ u. P u.content) (λ u v. IsMovedUncommitted es u gs v) (λ u v. IsMovedUncommitted fs u gs v) uncommitted_moved us vs own m

  committed_moved : (c d : Committed (List Piece)) → EachCommittedContent P c → IsMovedCommitted es c gs d → IsMovedCommitted fs c gs d
  committed_moved c d own m = record {
    etag = m.etag;
    made = m.made;
    props = m.props;
    metadata = m.metadata;
    blocks = zip_given (λ (b : stored.Block (List Piece)). P b.content) (λ b e. IsMovedBlock es b gs e) (λ b e. IsMovedBlock fs b gs e) block_moved c.blocks d.blocks own m.blocks;
  }

  part_moved : (o p : Option (Committed (List Piece))) → IfSome o (EachCommittedContent P) → IsMovedPart es o gs p → IsMovedPart fs o gs p
  part_moved None None own m = tt
  part_moved None (Some d) own m = absurd m
  part_moved (Some c) None own m = absurd m
  part_moved (Some c) (Some d) own m = committed_moved c d own m

  row_moved : (a b : StoredBlob) → EachActContent P (act.StoredBlob a) → IsMovedRow es a gs b → IsMovedRow fs a gs b
  row_moved a b own m = record {
    blob = m.blob;
    committed = part_moved a.committed b.committed own.0 m.committed;
    uncommitted = all_moved a.uncommitted b.uncommitted own.1 m.uncommitted;
  }

-- a row that was moved from older data is moved from the data of now, which have the older blocks too
pub moved_here : (es fs : List (List Block)) (a b : StoredBlob) → KeepsPlaces es fs → EachActContent (AreStored es) (act.StoredBlob a) → IsMovedRow es a fs b → IsMovedRow fs a fs b
moved_here es fs a b keeps own m = row_moved es fs fs (AreStored es) (content_reads es fs keeps) a b own m

-- ---- one content after the other

-- each content stays stored
pub all_stay : {X : Type 0} (content : X → List Piece) (es fs : List (List Block)) → KeepsPlaces es fs → (xs : List X) → All (λ x. AreStored es (content x)) xs → All (λ x. AreStored fs (content x)) xs
all_stay content es fs keeps xs own =
    All-weaker (λ x. AreStored es (content x)) (λ x. AreStored fs (content x)) (λ x. content_stays es fs keeps (content x)) xs own

-- what is moved first from the data es, and then from the data fs that go on from them
module _ (es fs gs : List (List Block)) (before : KeepsPlaces es fs) (now : KeepsPlaces fs gs) where
  back : (ps : List Piece) → AreStored es ps → content_at es ps ≡ content_at fs ps
  back ps own = sym (content_reads es fs before ps own)

  pub blocks_again : (bs cs all : List (stored.Block (List Piece))) (i : ℕ) (b c : stored.Block (List Piece)) → i < length bs → b ≡ get_or bs i b
      → All (λ (x : stored.Block (List Piece)). AreStored es x.content) bs → AreMovedBlocks es (take i bs) fs cs → IsMovedBlock fs b gs c → all ≡ cs ++ c ∷ []
      → AreMovedBlocks es (take (i + 1) bs) gs all
  blocks_again bs cs all i b c within is own old new more =
      let mine : AreStored es b.content = subst (λ (x : stored.Block (List Piece)). AreStored es x.content) (sym is) (All-get_or (λ (x : stored.Block (List Piece)). AreStored es x.content) bs i b within own) in
      blocks_more es fs gs now bs cs all i b c within is old (block_moved fs es gs (AreStored es) back b c mine new) more

  pub uncommitted_again : (us vs all : List UncommittedBlock) (i : ℕ) (u v : UncommittedBlock) → i < length us → u ≡ get_or us i u
      → All (λ (x : UncommittedBlock). AreStored es x.content) us → AreMovedUncommitted es (take i us) fs vs → IsMovedUncommitted fs u gs v → all ≡ vs ++ v ∷ []
      → AreMovedUncommitted es (take (i + 1) us) gs all
  uncommitted_again us vs all i u v within is own old new more =
      let mine : AreStored es u.content = subst (λ (x : UncommittedBlock). AreStored es x.content) (sym is) (All-get_or (λ (x : UncommittedBlock). AreStored es x.content) us i u within own) in
      uncommitted_more es fs gs now us vs all i u v within is old (uncommitted_moved fs es gs (AreStored es) back u v mine new) more

  -- a row whose committed part is moved first, and then its uncommitted blocks
  pub row_again : (a b : StoredBlob) → EachActContent (AreStored es) (act.StoredBlob a) → b.blob ≡ a.blob → IsMovedPart es a.committed fs b.committed
      → AreMovedUncommitted fs a.uncommitted gs b.uncommitted → IsMovedRow es a gs b
  row_again a b own blob committed uncommitted = record {
    blob = blob;
    committed = part_stays es fs gs now a.committed b.committed committed;
    uncommitted = all_moved fs es gs (AreStored es) back a.uncommitted b.uncommitted own.1 uncommitted;
  }

-- ---- content that is in an extent from a number on

-- as many extents are sealed at least
pub sealed_longer : (s t : Streamed) → GoesOn (laid s) (laid t) → length s.sealed ≤ length t.sealed
sealed_longer s t on =
    let a = count_of_extents s.sealed s.last in
    let b = count_of_extents t.sealed t.last in
    let l = on.1.sealed.longer in
    omega (arith, a, b, l)

-- one more content is in an extent from those on that were sealed before all of them
pub all_after : {X : Type 0} (content : X → List Piece) (s t : Streamed) (xs all : List X) (x : X) → GoesOn (laid s) (laid t) → All (λ y. AreFrom (length s.sealed) (content y)) xs
    → AreFrom (length t.sealed) (content x) → all ≡ xs ++ x ∷ [] → All (λ y. AreFrom (length s.sealed) (content y)) all
all_after content s t xs all x on old new more =
    subst (All (λ y. AreFrom (length s.sealed) (content y))) (sym more)
    (All-push (λ y. AreFrom (length s.sealed) (content y)) xs x old (later_from (length s.sealed) (length t.sealed) (content x) (sealed_longer s t on) new))

-- each content of an act that is in an extent from n on is in an extent from m on, if m is not more
pub act_from : (m n : ℕ) → m ≤ n → (a : Act) → EachActContent (AreFrom n) a → EachActContent (AreFrom m) a
act_from m n less a own = EachActContent-then (AreFrom n) (AreFrom m) (λ ps. later_from m n ps less) a own

-- a row whose committed part was put first, and then its uncommitted blocks
pub row_after : (s t : Streamed) (r : StoredBlob) → GoesOn (laid s) (laid t) → IfSome r.committed (EachCommittedContent (AreFrom (length s.sealed)))
    → All (λ (u : UncommittedBlock). AreFrom (length t.sealed) u.content) r.uncommitted → EachActContent (AreFrom (length s.sealed)) (act.StoredBlob r)
row_after s t r on committed uncommitted = (
  committed,
  All-weaker (λ (u : UncommittedBlock). AreFrom (length t.sealed) u.content) (λ u. AreFrom (length s.sealed) u.content)
      (λ u. later_from (length s.sealed) (length t.sealed) u.content (sealed_longer s t on)) r.uncommitted uncommitted,
)
