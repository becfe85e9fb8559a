-- The row of a checkpoint that a blob gives: it is a good row, and it makes the blob again.
use Rattle.std.proofs.Common.{◌≡◌, ◌≤◌, ℕ, suc, Bool, true, false, ◌&&◌, ◌||◌, ◌==◌, T, List, [], ◌∷◌, Option, Some, None, length, map, refl, sym, ap, subst, ◌∙◌, eqb-true, nat_le, nat_lt}
use Rattle.std.specs.Prelude.{is_some}
use Rattle.std.specs.Option.{option_map}
use Rattle.std.specs.List.{list_all}
use Rattle.std.specs.Ordering.{is_lt}
use Rattle.std.specs.declared.cmp.Ordering.{Ordering}
use Rattle.std.specs.declared.cmp.Ordering.TheVariants.{Less, Equal, Greater}
use Rattle.std.specs.FinMap.{FinMap, entries, entries-from_sorted, entries_sorted, from_entries, from_sorted, get-entries, get-from_entries, get-from_sorted, is_sorted, same_map}
use Rattle.std.specs.FinMap.Entries.{below_all}
use Rattle.std.proofs.lemmas.Bool.{and_parts, le-leb}
use Rattle.stamp_values.specs.Order.{name_cmp, names_exact, names_total}
use Rattle.stamp_types.specs.declared.piece.Piece.{Piece}
use Rattle.stamp_values.specs.Names.{is_blob}
use Rattle.stamp_types.specs.declared.act.Act.TheVariants as act
use Rattle.stamp_types.specs.declared.act.StoredBlob.{StoredBlob}
use Rattle.stamp_types.specs.declared.committed.UncommittedBlock.{UncommittedBlock}
use Rattle.stamp_types.specs.declared.committed.Block.{Block}
use Rattle.stamp_types.specs.declared.committed.Committed.{Committed}
use Rattle.stamp_types.specs.Changes.{are_uncommitted, has_ids_of_one_length, has_rising_ids, is_committed, is_id_before_next, is_in_one_piece, is_stored_blob}
use Rattle.stamp_types.specs.World.{Blob, Part, block_value, blobs_after, committed_value, same_pieces, uncommitted_entry, with_blob}
use Rattle.block_blobs.specs.StoredRows.{blob_of_row, is_left, listed_block, listed_blocks, row_of}
use Rattle.block_blobs.proofs.EntryLemmas.{Keeps}

both : (a b : Bool) → a ≡ true → b ≡ true → (a && b) ≡ true
both true b p q = q
both false b p q = cc

parts : (a b : Bool) → T (a && b) → T a × T b
parts true b h = (tt, h)
parts false b h = absurd h

holds : (a : Bool) → T a → a ≡ true
holds true h = refl
holds false h = absurd h

-- ---- the row makes the blob again

listed_again : (es : List (List ℕ × List Piece)) → map (uncommitted_entry same_pieces) (map listed_block es) ≡ es
listed_again [] = refl
listed_again (e ∷ es) = ap (λ (es : List (List ℕ × List Piece)). e ∷ es) (listed_again es)

from_entries-entries : (m : FinMap name_cmp (List Piece)) → from_entries {R = name_cmp} (entries m) ≡ m
from_entries-entries m = same_map names_total names_exact _ _ (λ q. get-from_entries names_total (entries m) q ∙ sym (get-entries m q))

-- blocks that were listed are the same blocks again
pub stored_again : (m : FinMap name_cmp (List Piece)) → from_entries {R = name_cmp} (map (uncommitted_entry same_pieces) (listed_blocks m)) ≡ m
stored_again m = ap (λ (es : List (List ℕ × List Piece)). from_entries {R = name_cmp} es) (listed_again (entries m)) ∙ from_entries-entries m

-- ---- the row is a good row

pub length-listed : (es : List (List ℕ × List Piece)) → length (map listed_block es) ≡ length es
length-listed [] = refl
length-listed (e ∷ es) = ap (λ n. suc n) (length-listed es)

in_one_piece-listed : (es : List (List ℕ × List Piece)) → list_all (λ u. is_in_one_piece u.content) (map listed_block es) ≡ list_all (λ (e : List ℕ × List Piece). is_in_one_piece e.1) es
in_one_piece-listed [] = refl
in_one_piece-listed (e ∷ es) = ap (λ b. is_in_one_piece e.1 && b) (in_one_piece-listed es)

before_next : (e : List ℕ × List Piece) (es : List (List ℕ × List Piece)) → T (below_all name_cmp e.0 es) → is_id_before_next (listed_block e) (map listed_block es) ≡ true
before_next e [] up = refl
before_next e (f ∷ fs) up = holds (is_lt (name_cmp e.0 f.0)) (parts (is_lt (name_cmp e.0 f.0)) (below_all name_cmp e.0 fs) up).0

-- ids in the order of a map rise
rising : (es : List (List ℕ × List Piece)) → T (is_sorted name_cmp es) → has_rising_ids (map listed_block es) ≡ true
rising [] up = refl
rising (e ∷ es) up =
    let rise = parts (below_all name_cmp e.0 es) (is_sorted name_cmp es) up in
    both (is_id_before_next (listed_block e) (map listed_block es)) (has_rising_ids (map listed_block es)) (before_next e es rise.0) (rising es rise.1)

lengths-listed : (n : ℕ) (es : List (List ℕ × List Piece)) → list_all (λ u. length u.id == n) (map listed_block es) ≡ list_all (λ (e : List ℕ × List Piece). length e.0 == n) es
lengths-listed n [] = refl
lengths-listed n (e ∷ es) = ap (λ b. (length e.0 == n) && b) (lengths-listed n es)

-- ids of n bytes have one length
one_length-listed : (n : ℕ) (es : List (List ℕ × List Piece)) → list_all (λ e. length e.0 == n) es ≡ true → has_ids_of_one_length (map listed_block es) ≡ true
one_length-listed n [] all = refl
one_length-listed n (e ∷ es) all =
    let own = and_parts (length e.0 == n) (list_all (λ e. length e.0 == n) es) all in
    lengths-listed (length e.0) es ∙ subst (λ k. list_all (λ (e : List ℕ × List Piece). length e.0 == k) es ≡ true) (sym (eqb-true (length e.0) n own.0)) own.1

-- what a blob keeps makes the blocks of its row good
pub good_blocks : (n : ℕ) (m : FinMap name_cmp (List Piece)) → Keeps n m → are_uncommitted (listed_blocks m) ≡ true
good_blocks n m keeps =
    let us = listed_blocks m in
    let few : nat_le (length us) 50000 ≡ true = le-leb (length us) 50000 (subst (λ k. k ≤ 50000) (sym (length-listed (entries m))) keeps.0) in
    let whole = both (nat_le (length us) 50000) (list_all (λ u. is_in_one_piece u.content) us) few (in_one_piece-listed (entries m) ∙ keeps.1) in
    let ordered = both (nat_le (length us) 50000 && list_all (λ u. is_in_one_piece u.content) us) (has_rising_ids us) whole (rising (entries m) (entries_sorted m)) in
    both (nat_le (length us) 50000 && list_all (λ u. is_in_one_piece u.content) us && has_rising_ids us) (has_ids_of_one_length us) ordered (one_length-listed n (entries m) keeps.2)

listed_left : (n : ℕ) (es : List (List ℕ × List Piece)) → nat_lt n (length es) ≡ nat_lt n (length (map listed_block es))
listed_left n es = ap (nat_lt n) (sym (length-listed es))

-- the row of a blob of which something is left is good, if its name is good
pub good_row : (name : List ℕ) (b : Blob (List Piece)) → is_blob name ≡ true → is_left b ≡ true → is_committed b.committed ≡ true → are_uncommitted (listed_blocks b.uncommitted) ≡ true
    → is_stored_blob (row_of name b) ≡ true
good_row name b named left committed listed =
    let r = row_of name b in
    let some : (is_some b.committed || nat_lt 0 (length r.uncommitted)) ≡ true = ap (λ t. is_some b.committed || t) (sym (listed_left 0 (entries b.uncommitted))) ∙ left in
    both (is_blob name && (is_some b.committed || nat_lt 0 (length r.uncommitted)) && is_committed b.committed) (are_uncommitted r.uncommitted)
    (both (is_blob name && (is_some b.committed || nat_lt 0 (length r.uncommitted))) (is_committed b.committed)
    (both (is_blob name) (is_some b.committed || nat_lt 0 (length r.uncommitted)) named some) committed) listed

same_blocks : (bs : List (Block (List Piece))) → map (block_value same_pieces) bs ≡ bs
same_blocks [] = refl
same_blocks (b ∷ bs) = ap (λ (r : List (Block (List Piece))). b ∷ r) (same_blocks bs)

same_committed : (o : Option (Committed (List Piece))) → option_map (committed_value same_pieces) o ≡ o
same_committed None = refl
same_committed (Some c) = ap (λ (bs : List (Block (List Piece))). Some (record { etag = c.etag; made = c.made; props = c.props; metadata = c.metadata; blocks = bs })) (same_blocks c.blocks)

-- the blob of its own row
pub blob_again : (name : List ℕ) (b : Blob (List Piece)) → blob_of_row (row_of name b) ≡ b
blob_again name b = ap (λ (m : FinMap name_cmp (List Piece)). record { committed = b.committed; uncommitted = m }) (stored_again b.uncommitted)

-- the blobs of a container after the row of a blob
pub container_again : (n : ℕ) (name : List ℕ) (b : Blob (List Piece)) (p : Part (List Piece)) → blobs_after same_pieces n (act.StoredBlob (row_of name b)) p ≡ with_blob p name b
container_again n name b p =
    ap (λ (o : Option (Committed (List Piece))). with_blob p name (record { committed = o; uncommitted = from_entries (map (uncommitted_entry same_pieces) (listed_blocks b.uncommitted)) })) (same_committed b.committed)
    ∙ ap (λ (c : Blob (List Piece)). with_blob p name c) (blob_again name b)

-- ---- a good row is the row of its blob

both_hold : (a b : Bool) → T a → T b → T (a && b)
both_hold true b p q = q
both_hold false b p q = p

less : (r : Ordering) → is_lt r ≡ true → r ≡ Less
less Less h = refl
less Equal h = cc
less Greater h = cc

before_later : (u v : UncommittedBlock) (us : List UncommittedBlock) → is_lt (name_cmp u.id v.id) ≡ true → is_id_before_next v us ≡ true → is_id_before_next u us ≡ true
before_later u v [] first next = refl
before_later u v (w ∷ us) first next = ap is_lt (names_total.trans u.id v.id w.id (less (name_cmp u.id v.id) first) (less (name_cmp v.id w.id) next))

-- if the ids rise, each id comes before all later ids
before_all : (u : UncommittedBlock) (us : List UncommittedBlock) → is_id_before_next u us ≡ true → has_rising_ids us ≡ true → T (below_all name_cmp u.id (map (uncommitted_entry same_pieces) us))
before_all u [] first up = tt
before_all u (v ∷ us) first up =
    let rise = and_parts (is_id_before_next v us) (has_rising_ids us) up in
    both_hold (is_lt (name_cmp u.id v.id)) (below_all name_cmp u.id (map (uncommitted_entry same_pieces) us)) (subst T (sym first) tt)
    (before_all u us (before_later u v us first rise.0) rise.1)

sorted_again : (us : List UncommittedBlock) → has_rising_ids us ≡ true → T (is_sorted name_cmp (map (uncommitted_entry same_pieces) us))
sorted_again [] up = tt
sorted_again (u ∷ us) up =
    let rise = and_parts (is_id_before_next u us) (has_rising_ids us) up in
    both_hold (below_all name_cmp u.id (map (uncommitted_entry same_pieces) us)) (is_sorted name_cmp (map (uncommitted_entry same_pieces) us))
    (before_all u us rise.0 rise.1) (sorted_again us rise.1)

blocks_again : (us : List UncommittedBlock) → map listed_block (map (uncommitted_entry same_pieces) us) ≡ us
blocks_again [] = refl
blocks_again (u ∷ us) = ap (λ (us : List UncommittedBlock). u ∷ us) (blocks_again us)

-- blocks whose ids rise are listed as they were
listed_as_stored : (us : List UncommittedBlock) → has_rising_ids us ≡ true → listed_blocks (from_entries {R = name_cmp} (map (uncommitted_entry same_pieces) us)) ≡ us
listed_as_stored us up =
    let es = map (uncommitted_entry same_pieces) us in
    let rise = sorted_again us up in
    let same : from_sorted {R = name_cmp} es ≡ from_entries {R = name_cmp} es =
    same_map names_total names_exact _ _ (λ q. get-from_sorted name_cmp es q rise ∙ sym (get-from_entries names_total es q)) in
    ap listed_blocks (sym same) ∙ ap (λ (es : List (List ℕ × List Piece)). map listed_block es) (entries-from_sorted name_cmp es rise) ∙ blocks_again us

-- a good row is the row of the blob that it says
pub row_again : (r : StoredBlob) → is_stored_blob r ≡ true → row_of r.blob (blob_of_row r) ≡ r
row_again r good =
    let us = r.uncommitted in
    let blocks = (and_parts (is_blob r.blob && (is_some r.committed || nat_lt 0 (length us)) && is_committed r.committed) (are_uncommitted us) good).1 in
    let limits = and_parts (nat_le (length us) 50000 && list_all (λ u. is_in_one_piece u.content) us && has_rising_ids us) (has_ids_of_one_length us) blocks in
    let listed = and_parts (nat_le (length us) 50000 && list_all (λ u. is_in_one_piece u.content) us) (has_rising_ids us) limits.0 in
    ap (λ (us : List UncommittedBlock). record { blob = r.blob; committed = r.committed; uncommitted = us }) (listed_as_stored us listed.1)
