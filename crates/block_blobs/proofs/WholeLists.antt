-- Lists that want all uncommitted blocks in the order of their ids: what is found for them, what they take, and their faults.
use Rattle.std.proofs.Common.{◌≡◌, ◌≤◌, ◌<◌, ℕ, ◌+◌, ◌++◌, Bool, true, false, ◌&&◌, List, [], ◌∷◌, length, map, Option, Some, None, refl, sym, ap, ◌∙◌, arith, cond, nat_lt, le-ltb}
use Rattle.std.specs.Prelude.{bytes_eq, find, is_none, is_some}
use Rattle.std.specs.Option.{option_and_then, option_map, option_to_list}
use Rattle.std.specs.List.{AllByRecursion}
use Rattle.std.specs.FinMap.{entries, get}
use Rattle.std.specs.Cmp.Lexicographic.{same_text}
use Rattle.std.proofs.lemmas.Bool.{and_parts, lt-ltb}
use Rattle.std.proofs.lemmas.List.{length-map, nil_from_length}
use Rattle.std.proofs.Math.ListN.{replicate}
use Rattle.std.proofs.lemmas.List.Sums.{sum_by-cons}
use Rattle.std.proofs.lemmas.Iterator.Adapters.{position_from-zero}
use Rattle.stamp_values.specs.declared.block.Lookup.{Lookup}
use Rattle.stamp_values.specs.declared.block.Lookup.TheVariants as lookup
use Rattle.stamp_values.specs.declared.block.BlockSource.TheVariants as source
use Rattle.stamp_values.specs.declared.block.Taken.{Taken}
use Rattle.stamp_values.specs.declared.block.Wanted.{Wanted}
use Rattle.stamp_types.specs.declared.piece.Piece.{Piece}
use Rattle.stamp_types.specs.Pieces.{pieces_len}
use Rattle.stamp_types.specs.declared.committed.Block.{Block}
use Rattle.stamp_types.specs.Changes.{blocks_len}
use Rattle.stamp_types.specs.World.{Blob, block_of, content_from, taken_blocks, whole_block}
use Rattle.block_blobs.specs.NextBlocks.{AreBlocks}
use Rattle.block_blobs.specs.BlockLists.{all_entries, block_of_entry, entries_len, first_missing, found_blocks, found_content, found_entries, found_sources, is_uncommitted_first, list_fault, listed_len, source_of, sources_of, taken_from, uncommitted_taken, want_each, wanted_fault, wants_all, wants_id}
use Rattle.block_blobs.specs.FoundBlocks.{AreBlocksOf, all_uncommitted, these_blocks}
use Rattle.block_blobs.specs.ResolvedLists.{found_for, resolved}
use Rattle.block_blobs.specs.declared.block_fault.BlockFault.TheVariants as fault
use Rattle.block_blobs.specs.declared.resolved.Resolved.{Resolved}
use Rattle.block_blobs.proofs.UnnamedBlocks.{found_len, found_unnamed}
use Rattle.block_blobs.proofs.ListLemmas.{no_place}
use Rattle.block_blobs.proofs.NextLemmas.{entries_are_blocks}

-- ---- whether a list wants all uncommitted blocks

module _ {C : Type 0} (all : Bool) (ws : List Wanted) (es : List (List ℕ × C)) (decides : want_each ws es ≡ all) where
  module _ (w : Wanted) (rest : List Wanted) (first : ws ≡ w ∷ rest) where
    module _ (e : List ℕ × C) (later : List (List ℕ × C)) (next : es ≡ e ∷ later) where
      at_next : (wants_id w e.0 && want_each rest later) ≡ all
      at_next = (λ i. want_each (sym first i) (sym next i)) ∙ decides

      -- the next wanted block is the next block, so the blocks after it decide
      pub same_next : wants_id w e.0 ≡ true → want_each rest later ≡ all
      same_next same = ap (λ t. t && want_each rest later) (sym same) ∙ at_next

      -- the next wanted block is not the next block
      pub other_next : wants_id w e.0 ≡ false → false ≡ all
      other_next other = ap (λ t. t && want_each rest later) (sym other) ∙ at_next

    -- no block is left for a wanted block
    pub no_block_left : es ≡ [] → false ≡ all
    no_block_left none = (λ i. want_each (sym first i) (sym none i)) ∙ decides

  -- no wanted block is left: there must be no block left
  pub none_left : length ws < 1 → es ≡ [] → true ≡ all
  none_left end none = (λ i. want_each (sym (nil_from_length ws (omega (arith, end))) i) (sym none i)) ∙ decides

  pub block_left : (e : List ℕ × C) (later : List (List ℕ × C)) → length ws < 1 → es ≡ e ∷ later → false ≡ all
  block_left e later end next = (λ i. want_each (sym (nil_from_length ws (omega (arith, end))) i) (sym next i)) ∙ decides

module _ {C : Type 0} (b : Blob C) (ws : List Wanted) where
  -- an empty list does not want all blocks
  pub nothing_wanted : length ws ≡ 0 → false ≡ wants_all b ws
  nothing_wanted none = sym (ap (wants_all b) (nil_from_length ws none))

  -- a list of at least one wanted block wants all blocks if each wanted block is the block at its place
  pub some_wanted : 0 < length ws → want_each ws (entries b.uncommitted) ≡ wants_all b ws
  some_wanted some = by_first ws some
    where
      by_first : (ws : List Wanted) → 0 < length ws → want_each ws (entries b.uncommitted) ≡ wants_all b ws
      by_first [] some = absurd (omega (arith, some))
      by_first (w ∷ ws) some = refl

-- the bytes of the next block and of the blocks after it
pub len_more : (e : List ℕ × List Piece) (es later : List (List ℕ × List Piece)) → es ≡ e ∷ later → entries_len es ≡ pieces_len e.1 + entries_len later
len_more e es later next = ap entries_len next ∙ sum_by-cons (λ (e : List ℕ × List Piece). pieces_len e.1) e later

-- no blocks have no bytes
pub len_none : (es : List (List ℕ × List Piece)) → es ≡ [] → entries_len es ≡ 0
len_none es none = ap entries_len none

-- ---- what is found for such a list

module _ {C : Type 0} (b : Blob C) where
  found_first : (l : Lookup) (id : List ℕ) (content : C) → is_uncommitted_first l ≡ true → get b.uncommitted id ≡ Some content
      → find (λ s. is_some (content_from s id b)) (sources_of l) ≡ Some source.Uncommitted
  found_first lookup.Latest id content first has = ap (λ (o : Option C). cond (is_some o) (Some source.Uncommitted) (find (λ s. is_some (content_from s id b)) (source.Committed ∷ []))) has
  found_first lookup.Uncommitted id content first has = ap (λ (o : Option C). cond (is_some o) (Some source.Uncommitted) None) has
  found_first lookup.Committed id content first has = cc

  module _ (w : Wanted) (e : List ℕ × C) (same : wants_id w e.0 ≡ true) (has : get b.uncommitted e.0 ≡ Some e.1) where
    own_id : w.id ≡ e.0
    own_id = same_text w.id e.0 (sym (and_parts (is_uncommitted_first w.lookup) (bytes_eq w.id e.0) same).1)

    own_content : get b.uncommitted w.id ≡ Some e.1
    own_content = ap (get b.uncommitted) own_id ∙ has

    own_source : source_of b w ≡ Some source.Uncommitted
    own_source = found_first w.lookup w.id e.1 (and_parts (is_uncommitted_first w.lookup) (bytes_eq w.id e.0) same).0 own_content

    own_found : found_content b w ≡ Some e.1
    own_found = ap (λ o. option_and_then (λ s. content_from s w.id b) o) own_source ∙ own_content

    own_entry : option_map (taken_from w) (source_of b w) ≡ Some (uncommitted_taken e)
    own_entry = ap (option_map (taken_from w)) own_source ∙ (λ i. Some (record { id = own_id i; from = source.Uncommitted }))

  -- what is found for wanted blocks that are these uncommitted blocks
  record AreFound (ws : List Wanted) (es : List (List ℕ × C)) : Type 0 where
    entries_are : found_entries b ws ≡ map uncommitted_taken es
    sources_are : found_sources b ws ≡ replicate (length ws) source.Uncommitted
    blocks_are : found_blocks b ws ≡ map (λ e. whole_block e.1) es
    none_missing : AllByRecursion (λ w. is_none (source_of b w) ≡ false) ws
    count : length ws ≡ length es

  are_found : (ws : List Wanted) (es : List (List ℕ × C)) → AreBlocks b.uncommitted es → want_each ws es ≡ true → AreFound ws es
  are_found [] [] are all = record { entries_are = refl; sources_are = refl; blocks_are = refl; none_missing = tt; count = refl }
  are_found [] (e ∷ es) are all = cc
  are_found (w ∷ ws) [] are all = cc
  are_found (w ∷ ws) (e ∷ es) are all =
      let parts = and_parts (wants_id w e.0) (want_each ws es) all in
      let rest = are_found ws es are.1 parts.1 in
      record {
        entries_are = λ i. option_to_list (own_entry w e parts.0 are.0 i) ++ rest.entries_are i;
        sources_are = λ i. option_to_list (own_source w e parts.0 are.0 i) ++ rest.sources_are i;
        blocks_are = λ i. option_to_list (option_map whole_block (own_found w e parts.0 are.0 i)) ++ rest.blocks_are i;
        none_missing = (ap is_none (own_source w e parts.0 are.0), rest.none_missing);
        count = omega (arith, rest.count);
      }

  all_wanted : (ws : List Wanted) → wants_all b ws ≡ true → want_each ws (entries b.uncommitted) ≡ true
  all_wanted [] all = cc
  all_wanted (w ∷ ws) all = all

  -- what is found for a list that wants all uncommitted blocks
  all_found : (ws : List Wanted) → wants_all b ws ≡ true → AreFound ws (entries b.uncommitted)
  all_found ws all = are_found ws (entries b.uncommitted) (entries_are_blocks b.uncommitted) (all_wanted ws all)

  -- no block of such a list is missing
  first_missing-all : (ws : List Wanted) → wants_all b ws ≡ true → first_missing b ws ≡ None
  first_missing-all ws all =
      position_from-zero (λ w. is_none (source_of b w)) ws ∙ no_place (λ w. is_none (source_of b w)) 0 ws (all_found ws all).none_missing

  -- ---- what such a list takes

  taken_named : (es : List (List ℕ × C)) → AreBlocks b.uncommitted es → taken_blocks b (map uncommitted_taken es) ≡ map block_of_entry es
  taken_named [] are = refl
  taken_named (e ∷ es) are = λ i. option_to_list (option_map (block_of e.0) (are.0 i)) ++ taken_named es are.1 i

  -- the entries of all uncommitted blocks take each of them, with its id
  pub taken_blocks-all_entries : taken_blocks b (all_entries b) ≡ map block_of_entry (entries b.uncommitted)
  taken_blocks-all_entries = taken_named (entries b.uncommitted) (entries_are_blocks b.uncommitted)

-- blocks without their ids have as many bytes
unnamed_entries_len : (es : List (List ℕ × List Piece)) → blocks_len (map (λ e. whole_block e.1) es) ≡ entries_len es
unnamed_entries_len [] = refl
unnamed_entries_len (e ∷ es) =
    sum_by-cons (λ (block : Block (List Piece)). pieces_len block.content) (whole_block e.1) (map (λ e. whole_block e.1) es)
    ∙ ap (λ n. pieces_len e.1 + n) (unnamed_entries_len es)
    ∙ sym (sum_by-cons (λ (e : List ℕ × List Piece). pieces_len e.1) e es)

module _ (b : Blob (List Piece)) (ws : List Wanted) (all : wants_all b ws ≡ true) where
  -- such a list has as many bytes as all uncommitted blocks
  found_len-all : blocks_len (found_blocks b ws) ≡ entries_len (entries b.uncommitted)
  found_len-all = ap blocks_len (all_found b ws all).blocks_are ∙ unnamed_entries_len (entries b.uncommitted)

  listed_len-all : listed_len b (found_entries b ws) ≡ entries_len (entries b.uncommitted)
  listed_len-all = sym (found_len b ws) ∙ found_len-all

  few_entries : length (entries b.uncommitted) ≤ 50000 → nat_lt 50000 (length ws) ≡ false
  few_entries few = le-ltb 50000 (length ws) (omega (arith, (all_found b ws all).count, few))

  module _ (few : length (entries b.uncommitted) ≤ 50000) where
    -- only the bytes of such a list can be too many
    fault_by_len : wanted_fault b ws ≡ cond (nat_lt 268435456 (entries_len (entries b.uncommitted))) (Some fault.TooLarge) None
    fault_by_len =
        (λ i. list_fault (first_missing-all b ws all i) (length ws) (listed_len-all i))
        ∙ ap (λ t. cond t (Some fault.TooMany) (cond (nat_lt 268435456 (entries_len (entries b.uncommitted))) (Some fault.TooLarge) None)) (few_entries few)

    -- such a list has no fault, if its blocks are within the limit
    pub all_fits : entries_len (entries b.uncommitted) ≤ 268435456 → wanted_fault b ws ≡ None
    all_fits short = fault_by_len ∙ ap (λ t. cond t (Some fault.TooLarge) None) (le-ltb 268435456 (entries_len (entries b.uncommitted)) short)

    -- such a list is too large, if its blocks are not within the limit
    pub all_too_large : 268435456 < entries_len (entries b.uncommitted) → wanted_fault b ws ≡ Some fault.TooLarge
    all_too_large large = fault_by_len ∙ ap (λ t. cond t (Some fault.TooLarge) None) (lt-ltb 268435456 (entries_len (entries b.uncommitted)) large)

  -- all uncommitted blocks are what is found for such a list
  pub all_are_found : (r : Resolved) (len : ℕ) → r.sources ≡ replicate (length ws) source.Uncommitted → r.blocks ≡ all_uncommitted (length ws) len
      → len ≡ entries_len (entries b.uncommitted) → r ≡ resolved b ws
  all_are_found r len sources blocks is =
      let size : len ≡ blocks_len (found_blocks b ws) = is ∙ sym found_len-all in
      λ i. record {
        sources = (sources ∙ sym (all_found b ws all).sources_are) i;
        blocks = (blocks ∙ ap (all_uncommitted (length ws)) size ∙ sym (ap (λ t. cond t (all_uncommitted (length ws) (blocks_len (found_blocks b ws))) (these_blocks (found_blocks b ws))) all)) i;
      }

module _ (b : Blob (List Piece)) (ws : List Wanted) where
  -- the blocks are what is found for a list that does not want all uncommitted blocks
  pub each_are_found : wants_all b ws ≡ false → these_blocks (found_blocks b ws) ≡ found_for b ws
  each_are_found other = sym (ap (λ t. cond t (all_uncommitted (length ws) (blocks_len (found_blocks b ws))) (these_blocks (found_blocks b ws))) other)

  found_of : (all : Bool) → wants_all b ws ≡ all → AreBlocksOf b (found_entries b ws) (cond all (all_uncommitted (length ws) (blocks_len (found_blocks b ws))) (these_blocks (found_blocks b ws)))
  found_of true all =
      let found = all_found b ws all in
      ((found.entries_are, omega (arith, ap (λ (ts : List Taken). length ts) found.entries_are, length-map (entries b.uncommitted) uncommitted_taken, found.count)), found_len b ws)
  found_of false all = (found_unnamed b ws, found_len b ws)

  -- what is found for wanted blocks are the blocks of the entries that are found
  pub found_are_blocks : AreBlocksOf b (found_entries b ws) (found_for b ws)
  found_are_blocks = found_of (wants_all b ws) refl
