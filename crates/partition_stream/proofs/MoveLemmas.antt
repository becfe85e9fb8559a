-- Content that is read in the data and put again.
use Rattle.std.proofs.Common.{◌≡◌, ◌∙◌, ℕ, ◌+◌, ◌<◌, ◌≤◌, IsTrue, Result, Ok, Err, inl, inr, List, [], ◌∷◌, ◌++◌, length, map, take, get_or, ap, sym, refl, subst, unwrap_or, arith}
use Rattle.std.specs.List.{AllZip}
use Rattle.std.proofs.lemmas.List.{map_more}
use Rattle.std.proofs.lemmas.List.Concat.{flat_map-cons}
use Rattle.std.proofs.lemmas.List.Elements.{All-head, All-tail, all_zip_more}
use Rattle.extent_node.specs.Copies.{Block}
use Rattle.extent_node.specs.Faults.{Calls, Counts}
use Rattle.extent_seal.specs.Counting.{Grows, GrowsEach, all_faults}
use Rattle.stamp_types.specs.Pieces.{piece_len, piece_bytes, held, is_held, is_pieces}
use Rattle.stamp_types.specs.declared.committed.Block as stored
use Rattle.stamp_types.specs.declared.committed.UncommittedBlock.{UncommittedBlock}
use Rattle.stamp_types.specs.declared.piece.Piece.{Piece}
use Rattle.stamp_types.specs.declared.piece.Piece.TheVariants.{Bytes, At}
use Rattle.stream_manager.specs.Places.{KeepsPlaces}
use Rattle.partition_stream.specs.Compactions.{AreMoved, AreMovedBlocks, AreMovedUncommitted, IsMovedBlock, IsMovedUncommitted, read_piece}
use Rattle.partition_stream.specs.Contents.{ArePlaced, AreStored, IsStored, bytes_at, content_at}
use Rattle.partition_stream.specs.Counting.{FailsCompaction}
use Rattle.partition_stream.specs.declared.faults.CompactionFault.{CompactionFault}
use Rattle.partition_stream.specs.declared.faults.CompactionFault.TheVariants as fault
use Rattle.partition_stream.proofs.ContentLemmas.{content_reads, content_stays}
use Rattle.partition_stream.proofs.DataLemmas.{are_by_len}

-- ---- faults

each_twice : (a b c : Counts) → GrowsEach a b → GrowsEach b c → GrowsEach a c
each_twice a b c g f = (omega (arith, g, f), omega (arith, g, f), omega (arith, g, f))

pub grows_twice : (a b c : Calls) → Grows a b → Grows b c → Grows a c
grows_twice a b c g f = (each_twice a.puts b.puts c.puts g.0 f.0, each_twice a.asks b.asks c.asks g.1 f.1)

pub grows_none : (a : Calls) → Grows a a
grows_none a = ((omega arith, omega arith, omega arith), (omega arith, omega arith, omega arith))

-- the faults of a call, after those of the calls before it
pub fails_later : {T : Type 0} (r : Result T CompactionFault) (a b c : Calls) → Grows a b → FailsCompaction r b c → FailsCompaction r a c
fails_later (Ok moved) a b c g f = grows_twice a b c g f
fails_later (Err fault.Busy) a b c g (inl f) = inl (each_twice a.puts b.puts c.puts g.0 f.0, omega (arith, g, f), omega (arith, g, f), omega (arith, g, f))
fails_later (Err fault.Busy) a b c g (inr f) = inr (omega (arith, g, f), grows_twice a b c g f.1)
fails_later (Err fault.Unreachable) a b c g f = (grows_twice a b c g f.0, omega (arith, g, f.1))
fails_later (Err fault.NoMemory) a b c g f = grows_twice a b c g f

-- the faults of a call that failed, whatever it would have given
pub fails_as : (T U : Type 0) (e : CompactionFault) (old new : Calls) → FailsCompaction {T = T} (Err e) old new → FailsCompaction {T = U} (Err e) old new
fails_as T U fault.Busy old new f = f
fails_as T U fault.Unreachable old new f = f
fails_as T U fault.NoMemory old new f = f

-- ---- content that was read

-- a piece that is stored has as many bytes as it says
read_len : (es : List (List Block)) (p : Piece) → IsStored es p → piece_len (read_piece es p) ≡ piece_len p
read_len es (Bytes bs) is = absurd is
read_len es (At place n) is = ap (λ o. length (unwrap_or o [])) is.1.0 ∙ is.1.1

read_lens : (es : List (List Block)) (ps : List Piece) → AreStored es ps → map piece_len (map (read_piece es) ps) ≡ map piece_len ps
read_lens es [] are = refl
read_lens es (p ∷ ps) are = λ i. read_len es p (All-head (IsStored es) p ps are) i ∷ read_lens es ps (All-tail (IsStored es) p ps are) i

read_bytes : (es : List (List Block)) (ps : List Piece) → held (map (read_piece es) ps) ≡ content_at es ps
read_bytes es [] = refl
read_bytes es (p ∷ ps) =
    flat_map-cons piece_bytes (read_piece es p) (map (read_piece es) ps) ∙ ap (λ l. bytes_at es p ++ l) (read_bytes es ps) ∙ sym (flat_map-cons (bytes_at es) p ps)

-- one more piece is read
pub read_more : (es : List (List Block)) (ps : List Piece) (i : ℕ) (p q : Piece) (done all : List Piece) → i < length ps → p ≡ get_or ps i p → done ≡ map (read_piece es) (take i ps)
    → q ≡ read_piece es p → all ≡ done ++ q ∷ [] → all ≡ map (read_piece es) (take (i + 1) ps)
read_more es ps i p q done all within is before now more =
    more
    ∙ ap (λ x. done ++ x ∷ []) now
    ∙ ap (λ l. l ++ read_piece es p ∷ []) before
    ∙ ap (λ x. map (read_piece es) (take i ps) ++ read_piece es x ∷ []) is
    ∙ sym (map_more (read_piece es) ps i p within)

-- what was read holds its bytes
pub read_held : (es : List (List Block)) (ps : List Piece) → IsTrue (is_held (map (read_piece es) ps))
read_held es [] = refl
read_held es (p ∷ ps) = read_held es ps

-- pieces that are stored are pieces once they are read
pub read_are_pieces : (es : List (List Block)) (ps qs : List Piece) → AreStored es ps → qs ≡ map (read_piece es) ps → IsTrue (is_pieces ps) → IsTrue (is_pieces qs)
read_are_pieces es ps qs are read is = are_by_len qs ps (ap (map piece_len) read ∙ read_lens es ps are) is

-- what was read in the old data and put into the new data is moved
pub moved_content : (es fs : List (List Block)) (content read ps : List Piece) → AreStored es content → read ≡ map (read_piece es) content → ArePlaced fs read ps → AreMoved es content fs ps
moved_content es fs content read ps are same placed = record {
  lengths = placed.lengths ∙ ap (map piece_len) same ∙ read_lens es content are;
  stored = placed.stored;
  bytes = placed.bytes ∙ ap held same ∙ read_bytes es content;
}

pub held_read : (es : List (List Block)) (content read : List Piece) → read ≡ map (read_piece es) content → IsTrue (is_held read)
held_read es content read same = subst (λ ps. IsTrue (is_held ps)) (sym same) (read_held es content)

-- ---- what is moved stays moved

pub moved_stays : (es fs gs : List (List Block)) → KeepsPlaces fs gs → (ps qs : List Piece) → AreMoved es ps fs qs → AreMoved es ps gs qs
moved_stays es fs gs keeps ps qs m = record {
  lengths = m.lengths;
  stored = content_stays fs gs keeps qs m.stored;
  bytes = content_reads fs gs keeps qs m.stored ∙ m.bytes;
}

-- what follows at each place follows for the lists
pub zip_then : {X Y : Type 0} (R S : X → Y → Type 0) → ((x : X) (y : Y) → R x y → S x y) → (xs : List X) (ys : List Y) → AllZip R xs ys → AllZip S xs ys
zip_then R S then [] [] h = tt
zip_then R S then [] (y ∷ ys) h = absurd h
zip_then R S then (x ∷ xs) [] h = absurd h
zip_then R S then (x ∷ xs) (y ∷ ys) h = (then x y h.0, zip_then R S then xs ys h.1)

module _ (es fs gs : List (List Block)) (keeps : KeepsPlaces fs gs) where
  pub block_stays : (b c : stored.Block (List Piece)) → IsMovedBlock es b fs c → IsMovedBlock es b gs c
  block_stays b c m = record { id = m.id; content = moved_stays es fs gs keeps b.content c.content m.content }

  pub blocks_stay : (bs cs : List (stored.Block (List Piece))) → AreMovedBlocks es bs fs cs → AreMovedBlocks es bs gs cs
  blocks_stay bs cs m = zip_then (λ b c. IsMovedBlock es b fs c) (λ b c. IsMovedBlock es b gs c) block_stays bs cs m

  pub uncommitted_stays : (u v : UncommittedBlock) → IsMovedUncommitted es u fs v → IsMovedUncommitted es u gs v
  uncommitted_stays u v m = record { id = m.id; content = moved_stays es fs gs keeps u.content v.content m.content }

  pub uncommitted_stay : (us vs : List UncommittedBlock) → AreMovedUncommitted es us fs vs → AreMovedUncommitted es us gs vs
  uncommitted_stay us vs m = zip_then (λ u v. IsMovedUncommitted es u fs v) (λ u v. IsMovedUncommitted es u gs v) uncommitted_stays us vs m

  -- one more block is moved
  pub blocks_more : (bs cs all : List (stored.Block (List Piece))) (i : ℕ) (b c : stored.Block (List Piece)) → i < length bs → b ≡ get_or bs i b
      → AreMovedBlocks es (take i bs) fs cs → IsMovedBlock es b gs c → all ≡ cs ++ c ∷ [] → AreMovedBlocks es (take (i + 1) bs) gs all
  blocks_more bs cs all i b c within is old new more =
      subst (AreMovedBlocks es (take (i + 1) bs) gs) (sym more) (all_zip_more (λ x y. IsMovedBlock es x gs y) bs cs i b c within is (blocks_stay (take i bs) cs old) new)

  -- one more uncommitted block is moved
  pub uncommitted_more : (us vs all : List UncommittedBlock) (i : ℕ) (u v : UncommittedBlock) → i < length us → u ≡ get_or us i u
      → AreMovedUncommitted es (take i us) fs vs → IsMovedUncommitted es u gs v → all ≡ vs ++ v ∷ [] → AreMovedUncommitted es (take (i + 1) us) gs all
  uncommitted_more us vs all i u v within is old new more =
      subst (AreMovedUncommitted es (take (i + 1) us) gs) (sym more) (all_zip_more (λ x y. IsMovedUncommitted es x gs y) us vs i u v within is (uncommitted_stay (take i us) vs old) new)
