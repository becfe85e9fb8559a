-- Uncommitted blocks that a row of a checkpoint lists: what holds once all of them are put.
use Rattle.std.proofs.Common.{◌≡◌, ℕ, ◌+◌, ◌<◌, ◌≤◌, ◌&&◌, ◌==◌, Bool, true, false, cond, List, [], ◌∷◌, ◌++◌, map, length, refl, sym, ap, ◌∙◌, subst, arith, eq-eqb, leb-true, nat_le}
use Rattle.std.specs.Prelude.{is_some}
use Rattle.std.specs.List.{list_all}
use Rattle.std.specs.FinMap as finite
use Rattle.std.specs.FinMap.{FinMap, entries, entries-insert, from_entries, get, insert, len-insert, len-entries}
use Rattle.std.proofs.lemmas.Bool.{and_parts}
use Rattle.stamp_values.specs.Order.{name_cmp, names_total}
use Rattle.stamp_types.specs.declared.committed.UncommittedBlock.{UncommittedBlock}
use Rattle.stamp_types.specs.declared.piece.Piece.{Piece}
use Rattle.stamp_types.specs.Changes.{are_uncommitted, has_ids_of_one_length, has_rising_ids, is_in_one_piece}
use Rattle.stamp_types.specs.World.{same_pieces, uncommitted_entry}
use Rattle.block_blobs.specs.UncommittedBlocks.{are_in_one_piece, block_count, have_ids_of_length}
use Rattle.block_blobs.proofs.EntryLemmas.{Keeps, all_keys-put, all_values-put, no_entries}

-- the blocks of a list by their ids
abbrev stored_blocks : List UncommittedBlock → FinMap name_cmp (List Piece)
stored_blocks us = from_entries (map (uncommitted_entry same_pieces) us)

-- the map with the blocks of a list put into it, from the last block to the first
abbrev pub stored_with : List UncommittedBlock → FinMap name_cmp (List Piece) → FinMap name_cmp (List Piece)
stored_with [] m = m
stored_with (u ∷ us) m = insert (stored_with us m) u.id u.content

pub stored_with-empty : (us : List UncommittedBlock) → stored_with us finite.empty ≡ stored_blocks us
stored_with-empty [] = refl
stored_with-empty (u ∷ us) = ap (λ (m : FinMap name_cmp (List Piece)). insert m u.id u.content) (stored_with-empty us)

stored_with-last : (us : List UncommittedBlock) (u : UncommittedBlock) (m : FinMap name_cmp (List Piece)) → stored_with (us ++ u ∷ []) m ≡ stored_with us (insert m u.id u.content)
stored_with-last [] u m = refl
stored_with-last (v ∷ us) u m = ap (λ (m : FinMap name_cmp (List Piece)). insert m v.id v.content) (stored_with-last us u m)

-- the last block is put, and the others are left
pub stored_more : (all m n : FinMap name_cmp (List Piece)) (left us : List UncommittedBlock) (u : UncommittedBlock) (id : List ℕ)
    → left ≡ us ++ u ∷ [] → id ≡ u.id → n ≡ insert m id u.content → stored_with left m ≡ all → stored_with us n ≡ all
stored_more all m n left us u id last own put held =
    ap (stored_with us) (put ∙ ap (λ id. insert m id u.content) own) ∙ sym (stored_with-last us u m) ∙ ap (λ us. stored_with us m) (sym last) ∙ held

-- no block is left
pub stored_done : (all m : FinMap name_cmp (List Piece)) (left : List UncommittedBlock) → length left ≡ 0 → stored_with left m ≡ all → m ≡ all
stored_done all m [] none held = held
stored_done all m (u ∷ us) none held = absurd (omega arith)

-- if the ids have one length, all ids are as long as the first id
pub each_as_long_as_first : (u : UncommittedBlock) (us : List UncommittedBlock) → has_ids_of_one_length (u ∷ us) ≡ true → list_all (λ v. length v.id == length u.id) (u ∷ us) ≡ true
each_as_long_as_first u us same = ap (λ b. b && list_all (λ v. length v.id == length u.id) us) (eq-eqb (length u.id) (length u.id) refl) ∙ same

one_more : (b : Bool) (n k : ℕ) → n < k → cond b n (n + 1) ≤ k
one_more true n k within = omega arith
one_more false n k within = omega arith

-- there are at most as many blocks as are listed
block_count-stored : (us : List UncommittedBlock) → block_count (stored_blocks us) ≤ length us
block_count-stored [] = omega (arith, ap length no_entries)
block_count-stored (u ∷ us) =
    let m = stored_blocks us in
    let count : block_count (insert m u.id u.content) ≡ cond (is_some (get m u.id)) (block_count m) (block_count m + 1) =
    sym (len-entries (insert m u.id u.content)) ∙ len-insert names_total m u.id u.content ∙ ap (λ n. cond (is_some (get m u.id)) n (n + 1)) (len-entries m) in
    rw count (one_more (is_some (get m u.id)) (block_count m) (length (u ∷ us)) (omega (arith, block_count-stored us)))

are_in_one_piece-stored : (us : List UncommittedBlock) → list_all (λ u. is_in_one_piece u.content) us ≡ true → are_in_one_piece (stored_blocks us) ≡ true
are_in_one_piece-stored [] all = ap (list_all (λ (e : List ℕ × List Piece). is_in_one_piece e.1)) no_entries
are_in_one_piece-stored (u ∷ us) all =
    let parts = and_parts (is_in_one_piece u.content) (list_all (λ u. is_in_one_piece u.content) us) all in
    ap (list_all (λ (e : List ℕ × List Piece). is_in_one_piece e.1)) (entries-insert names_total (stored_blocks us) u.id u.content)
    ∙ all_values-put name_cmp u.id u.content is_in_one_piece (entries (stored_blocks us)) parts.0 (are_in_one_piece-stored us parts.1)

have_ids_of_length-stored : (n : ℕ) (us : List UncommittedBlock) → list_all (λ u. length u.id == n) us ≡ true → have_ids_of_length n (stored_blocks us) ≡ true
have_ids_of_length-stored n [] all = ap (list_all (λ (e : List ℕ × List Piece). length e.0 == n)) no_entries
have_ids_of_length-stored n (u ∷ us) all =
    let parts = and_parts (length u.id == n) (list_all (λ u. length u.id == n) us) all in
    ap (list_all (λ (e : List ℕ × List Piece). length e.0 == n)) (entries-insert names_total (stored_blocks us) u.id u.content)
    ∙ all_keys-put name_cmp u.id u.content (λ id. length id == n) (entries (stored_blocks us)) parts.0 (have_ids_of_length-stored n us parts.1)

-- the ids of good blocks have one length
pub one_length : (us : List UncommittedBlock) → are_uncommitted us ≡ true → has_ids_of_one_length us ≡ true
one_length us good = (and_parts (nat_le (length us) 50000 && list_all (λ u. is_in_one_piece u.content) us && has_rising_ids us) (has_ids_of_one_length us) good).1

-- good blocks of a row of a checkpoint, by their ids
pub keeps_stored : (us : List UncommittedBlock) (m : FinMap name_cmp (List Piece)) (n : ℕ) → m ≡ stored_blocks us → are_uncommitted us ≡ true
    → list_all (λ u. length u.id == n) us ≡ true → Keeps n m
keeps_stored us m n is good long =
    let limits = and_parts (nat_le (length us) 50000 && list_all (λ u. is_in_one_piece u.content) us && has_rising_ids us) (has_ids_of_one_length us) good in
    let listed = and_parts (nat_le (length us) 50000 && list_all (λ u. is_in_one_piece u.content) us) (has_rising_ids us) limits.0 in
    let parts = and_parts (nat_le (length us) 50000) (list_all (λ u. is_in_one_piece u.content) us) listed.0 in
    let keeps : Keeps n (stored_blocks us) =
    (omega (arith, leb-true (length us) 50000 parts.0, block_count-stored us), are_in_one_piece-stored us parts.1, have_ids_of_length-stored n us long) in
    subst (Keeps n) (sym is) keeps
