-- Rows whose content is moved: they stay moved, and they are as good as the rows that were moved.
use Rattle.std.proofs.Common.{◌≡◌, ◌∙◌, ◌&&◌, ◌||◌, ◌==◌, ℕ, suc, ◌+◌, Bool, IsTrue, Option, Some, None, IfSome, List, [], ◌∷◌, All, is_none, is_some, length, map, nat_le, nat_lt, ap, sym, refl}
use Rattle.std.specs.Prelude.{sum_by}
use Rattle.std.specs.List.{AllZip, list_all}
use Rattle.std.specs.Ordering.{is_lt, nat_cmp}
use Rattle.std.specs.Cmp.Lexicographic.{slice_cmp}
use Rattle.std.proofs.lemmas.List.{length-map}
use Rattle.std.proofs.lemmas.List.Elements.{All-nil, All-cons}
use Rattle.std.proofs.lemmas.List.Sums.{sum_by-cons}
use Rattle.extent_node.specs.Copies.{Block}
use Rattle.stamp_values.specs.Limits.{blob_limit, entries_limit, uncommitted_limit}
use Rattle.stamp_values.specs.Names.{is_account, is_blob, is_container}
use Rattle.stamp_values.specs.declared.key.Key.{Key}
use Rattle.stamp_types.specs.Changes.{are_blocks, are_uncommitted, blocks_len, has_ids_of_one_length, has_rising_ids, is_block, is_change, is_committed, is_id_before_next, is_in_one_piece, is_stored_blob}
use Rattle.stamp_types.specs.Contents.{EachActContent, EachCommittedContent}
use Rattle.stamp_types.specs.Pieces.{piece_len, pieces_len}
use Rattle.stamp_types.specs.declared.act.Act.{Act}
use Rattle.stamp_types.specs.declared.act.Act.TheVariants as act
use Rattle.stamp_types.specs.declared.act.StoredBlob.{StoredBlob}
use Rattle.stamp_types.specs.declared.committed.Block as stored
use Rattle.stamp_types.specs.declared.committed.Committed.{Committed}
use Rattle.stamp_types.specs.declared.committed.UncommittedBlock.{UncommittedBlock}
use Rattle.stamp_types.specs.declared.piece.Piece.{Piece}
use Rattle.stream_manager.specs.Places.{KeepsPlaces}
use Rattle.partition_stream.specs.Compactions.{AreMovedBlocks, AreMovedUncommitted, IsMovedAct, IsMovedBlock, IsMovedCommitted, IsMovedPart, IsMovedRow, IsMovedUncommitted}
use Rattle.partition_stream.specs.Contents.{AreStored}
use Rattle.partition_stream.proofs.MoveLemmas.{blocks_stay}

-- ---- lists of which R holds at each place

module _ {X Y : Type 0} (R : X → Y → Type 0) where
  zip_length : (xs : List X) (ys : List Y) → AllZip R xs ys → length ys ≡ length xs
  zip_length [] [] h = refl
  zip_length [] (y ∷ ys) h = absurd h
  zip_length (x ∷ xs) [] h = absurd h
  zip_length (x ∷ xs) (y ∷ ys) h = ap suc (zip_length xs ys h.1)

  -- tests that agree at each place
  zip_tests : (s : X → Bool) (t : Y → Bool) → ((x : X) (y : Y) → R x y → t y ≡ s x) → (xs : List X) (ys : List Y) → AllZip R xs ys → list_all t ys ≡ list_all s xs
  zip_tests s t agree [] [] h = refl
  zip_tests s t agree [] (y ∷ ys) h = absurd h
  zip_tests s t agree (x ∷ xs) [] h = absurd h
  zip_tests s t agree (x ∷ xs) (y ∷ ys) h = λ i. agree x y h.0 i && zip_tests s t agree xs ys h.1 i

  -- numbers that agree at each place
  zip_sums : (f : X → ℕ) (g : Y → ℕ) → ((x : X) (y : Y) → R x y → g y ≡ f x) → (xs : List X) (ys : List Y) → AllZip R xs ys → sum_by g ys ≡ sum_by f xs
  zip_sums f g agree [] [] h = refl
  zip_sums f g agree [] (y ∷ ys) h = absurd h
  zip_sums f g agree (x ∷ xs) [] h = absurd h
  zip_sums f g agree (x ∷ xs) (y ∷ ys) h = sum_by-cons g y ys ∙ (λ i. agree x y h.0 i + zip_sums f g agree xs ys h.1 i) ∙ sym (sum_by-cons f x xs)

  -- values that agree at each place
  pub zip_map : {Z : Type 0} (f : X → Z) (g : Y → Z) → ((x : X) (y : Y) → R x y → g y ≡ f x) → (xs : List X) (ys : List Y) → AllZip R xs ys → map g ys ≡ map f xs
  zip_map f g agree [] [] h = refl
  zip_map f g agree [] (y ∷ ys) h = absurd h
  zip_map f g agree (x ∷ xs) [] h = absurd h
  zip_map f g agree (x ∷ xs) (y ∷ ys) h = λ i. agree x y h.0 i ∷ zip_map f g agree xs ys h.1 i

  -- what follows of each second element
  zip_all : (Q : Y → Type 0) → ((x : X) (y : Y) → R x y → Q y) → (xs : List X) (ys : List Y) → AllZip R xs ys → All Q ys
  zip_all Q then [] [] h = All-nil Q
  zip_all Q then [] (y ∷ ys) h = absurd h
  zip_all Q then (x ∷ xs) [] h = absurd h
  zip_all Q then (x ∷ xs) (y ∷ ys) h = All-cons Q y ys (then x y h.0) (zip_all Q then xs ys h.1)

-- ---- rows that stay moved

module _ (es fs gs : List (List Block)) (keeps : KeepsPlaces fs gs) where
  committed_stays : (c d : Committed (List Piece)) → IsMovedCommitted es c fs d → IsMovedCommitted es c gs d
  committed_stays c d m = record { etag = m.etag; made = m.made; props = m.props; metadata = m.metadata; blocks = blocks_stay es fs gs keeps c.blocks d.blocks m.blocks }

  pub part_stays : (o p : Option (Committed (List Piece))) → IsMovedPart es o fs p → IsMovedPart es o gs p
  part_stays None None m = tt
  part_stays None (Some d) m = absurd m
  part_stays (Some c) None m = absurd m
  part_stays (Some c) (Some d) m = committed_stays c d m

-- ---- rows that are as good

same_count : (ps qs : List Piece) → map piece_len qs ≡ map piece_len ps → length qs ≡ length ps
same_count ps qs same = sym (length-map qs piece_len) ∙ ap length same ∙ length-map ps piece_len

sum_of : (ps : List Piece) → pieces_len ps ≡ sum_by (λ n. n) (map piece_len ps)
sum_of [] = refl
sum_of (p ∷ ps) = sum_by-cons piece_len p ps ∙ ap (λ n. piece_len p + n) (sum_of ps) ∙ sym (sum_by-cons (λ n. n) (piece_len p) (map piece_len ps))

same_len : (ps qs : List Piece) → map piece_len qs ≡ map piece_len ps → pieces_len qs ≡ pieces_len ps
same_len ps qs same = sum_of qs ∙ ap (sum_by (λ n. n)) same ∙ sym (sum_of ps)

module _ (es fs : List (List Block)) where
  abbrev MovedBlock : stored.Block (List Piece) → stored.Block (List Piece) → Type 0
  MovedBlock b c = IsMovedBlock es b fs c

  abbrev MovedUncommitted : UncommittedBlock → UncommittedBlock → Type 0
  MovedUncommitted u v = IsMovedUncommitted es u fs v

  blocks_same : (bs cs : List (stored.Block (List Piece))) → AreMovedBlocks es bs fs cs → are_blocks cs ≡ are_blocks bs
  blocks_same bs cs m =
      let many = zip_length MovedBlock bs cs m in
      let each = zip_tests MovedBlock is_block is_block (λ b c is. λ i. is_none (is.id i) || nat_le (same_count b.content c.content is.content.lengths i) 1) bs cs m in
      let ids = zip_tests MovedBlock (λ b. is_some b.id) (λ c. is_some c.id) (λ b c is. ap (λ o. is_some o) is.id) bs cs m in
      let bytes = zip_sums MovedBlock (λ b. pieces_len b.content) (λ c. pieces_len c.content) (λ b c is. same_len b.content c.content is.content.lengths) bs cs m in
      λ i. nat_le (many i) entries_limit && each i && (many i == 1 || ids i) && nat_le (bytes i) blob_limit

  committed_same : (o p : Option (Committed (List Piece))) → IsMovedPart es o fs p → is_committed p ≡ is_committed o
  committed_same None None m = refl
  committed_same None (Some d) m = absurd m
  committed_same (Some c) None m = absurd m
  committed_same (Some c) (Some d) m = blocks_same c.blocks d.blocks m.blocks

  some_same : (o p : Option (Committed (List Piece))) → IsMovedPart es o fs p → is_some p ≡ is_some o
  some_same None None m = refl
  some_same None (Some d) m = absurd m
  some_same (Some c) None m = absurd m
  some_same (Some c) (Some d) m = refl

  next_same : (u v : UncommittedBlock) (us vs : List UncommittedBlock) → MovedUncommitted u v → AreMovedUncommitted es us fs vs → is_id_before_next v vs ≡ is_id_before_next u us
  next_same u v [] [] is m = refl
  next_same u v [] (y ∷ vs) is m = absurd m
  next_same u v (x ∷ us) [] is m = absurd m
  next_same u v (x ∷ us) (y ∷ vs) is m = λ i. is_lt (slice_cmp nat_cmp (is.id i) (m.0.id i))

  rising_same : (us vs : List UncommittedBlock) → AreMovedUncommitted es us fs vs → has_rising_ids vs ≡ has_rising_ids us
  rising_same [] [] m = refl
  rising_same [] (v ∷ vs) m = absurd m
  rising_same (u ∷ us) [] m = absurd m
  rising_same (u ∷ us) (v ∷ vs) m = λ i. next_same u v us vs m.0 m.1 i && rising_same us vs m.1 i

  one_length_same : (us vs : List UncommittedBlock) → AreMovedUncommitted es us fs vs → has_ids_of_one_length vs ≡ has_ids_of_one_length us
  one_length_same [] [] m = refl
  one_length_same [] (v ∷ vs) m = absurd m
  one_length_same (u ∷ us) [] m = absurd m
  one_length_same (u ∷ us) (v ∷ vs) m =
      zip_tests MovedUncommitted (λ w. length w.id == length u.id) (λ w. length w.id == length v.id) (λ x y is. λ i. length (is.id i) == length (m.0.id i)) us vs m.1

  uncommitted_same : (us vs : List UncommittedBlock) → AreMovedUncommitted es us fs vs → are_uncommitted vs ≡ are_uncommitted us
  uncommitted_same us vs m =
      let many = zip_length MovedUncommitted us vs m in
      let each = zip_tests MovedUncommitted (λ u. is_in_one_piece u.content) (λ v. is_in_one_piece v.content) (λ u v is. ap (λ n. nat_le n 1) (same_count u.content v.content is.content.lengths)) us vs m in
      λ i. nat_le (many i) uncommitted_limit && each i && rising_same us vs m i && one_length_same us vs m i

  row_same : (a b : StoredBlob) → IsMovedRow es a fs b → is_stored_blob b ≡ is_stored_blob a
  row_same a b m =
      λ i. is_blob (m.blob i) && (some_same a.committed b.committed m.committed i || nat_lt 0 (zip_length MovedUncommitted a.uncommitted b.uncommitted m.uncommitted i))
      && committed_same a.committed b.committed m.committed i && uncommitted_same a.uncommitted b.uncommitted m.uncommitted i

  -- the row of a good change makes a good change once it is moved
  pub moved_good : (key : Key) (a b : StoredBlob) → IsTrue (is_change (record { key = key; act = act.StoredBlob a })) → IsMovedRow es a fs b
      → IsTrue (is_change (record { key = key; act = act.StoredBlob b }))
  moved_good key a b good m = ap (λ t. is_account key.account && is_container key.container && t) (row_same a b m) ∙ good

  -- each content of a row that is moved is stored in the new data
  committed_stored : (o p : Option (Committed (List Piece))) → IsMovedPart es o fs p → IfSome p (EachCommittedContent (AreStored fs))
  committed_stored None None m = tt
  committed_stored None (Some d) m = absurd m
  committed_stored (Some c) None m = absurd m
  committed_stored (Some c) (Some d) m = zip_all MovedBlock (λ e. AreStored fs e.content) (λ b e is. is.content.stored) c.blocks d.blocks m.blocks

  pub act_stored : (a b : Act) → IsMovedAct es a fs b → EachActContent (AreStored fs) b
  act_stored (act.StoredBlob a) (act.StoredBlob b) m =
      (committed_stored a.committed b.committed m.committed, zip_all MovedUncommitted (λ v. AreStored fs v.content) (λ u v is. is.content.stored) a.uncommitted b.uncommitted m.uncommitted)
  act_stored (act.ContainerRow a) (act.ContainerRow b) m = tt
  act_stored a b m = absurd m
