-- Block lists: the blocks that they take, and lists whose blocks are all found.
use Rattle.std.proofs.Common.{◌≡◌, ℕ, zero, suc, ◌+◌, ◌≤◌, ◌<◌, Bool, true, false, cond, ◌&&◌, ◌||◌, List, [], ◌∷◌, ◌++◌, length, Option, Some, None, IfSome, All, refl, sym, ap, subst, ◌∙◌, arith, le-leb}
use Rattle.std.specs.Prelude.{find, flat_map, ◌==◌, is_none, is_some, nat_le, nat_eq, slice_index_or, slice_set, unwrap_or}
use Rattle.std.specs.Option.{option_map, option_and_then, option_to_list}
use Rattle.std.specs.List.{list_all, position_from, AllByRecursion}
use Rattle.std.specs.Cmp.Lexicographic.{pointwise}
use Rattle.std.specs.FinMap as finite
use Rattle.std.specs.Ordering.{eq_by_cmp}
use Rattle.std.proofs.lemmas.Bool.{and_parts}
use Rattle.std.proofs.lemmas.List.Folds.{list_all-append}
use Rattle.std.proofs.lemmas.List.{length-append}
use Rattle.std.proofs.lemmas.Iterator.Adapters.{position_from-zero}
use Rattle.std.proofs.lemmas.List.Elements.{All-head, All-tail}
use Rattle.stamp_values.specs.Order.{name_cmp}
use Rattle.stamp_values.specs.declared.block.BlockSource.{BlockSource}
use Rattle.stamp_values.specs.declared.block.BlockSource.TheVariants as source
use Rattle.stamp_values.specs.declared.block.Taken.{Taken}
use Rattle.stamp_values.specs.declared.block.Wanted.{Wanted}
use Rattle.stamp_types.specs.declared.committed.Block.{Block}
use Rattle.stamp_types.specs.declared.committed.Committed.{Committed}
use Rattle.stamp_types.specs.declared.piece.Piece.{Piece}
use Rattle.stamp_types.specs.Changes.{are_blocks, blocks_len, has_ids_or_one, is_block, is_committed, is_in_one_piece}
use Rattle.stamp_types.specs.World.{Blob, block_of, committed_content, content_from, has_block_id, taken_blocks, whole_block}
use Rattle.block_blobs.specs.BlockLists.{EachInOnePiece, entries_from, first_absent, first_missing, found_entries, found_sources, list_fault, named_at, named_blocks, source_of, sources_of, taken_fault, taken_from, unnamed_blocks, wanted_fault}
use Rattle.block_blobs.specs.UncommittedBlocks.{are_in_one_piece}

both : (a b : Bool) → a ≡ true → b ≡ true → (a && b) ≡ true
both true b p q = q
both false b p q = p

-- ---- content in one piece

found_passes : {X : Type 0} (p : X → Bool) (q : List ℕ) (es : List (List ℕ × X)) → list_all (λ e. p e.1) es ≡ true → IfSome (finite.find name_cmp q es) (λ v. p v ≡ true)
found_passes p q [] all = tt
found_passes p q (e ∷ es) all =
    let parts = and_parts (p e.1) (list_all (λ e. p e.1) es) all in
    elim (eq_by_cmp name_cmp q e.0) as (λ t. IfSome (cond t (Some e.1) (finite.find name_cmp q es)) (λ v. p v ≡ true)) [
      | true ↦ parts.0
      | false ↦ found_passes p q es parts.1
    ]

-- a block of an id is in one piece, if it is a block
piece_of_id : (o : Option (List ℕ)) (q : List ℕ) (content : List Piece) → unwrap_or (option_map (λ other. pointwise nat_eq q other) o) false ≡ true
    → (is_none o || is_in_one_piece content) ≡ true → is_in_one_piece content ≡ true
piece_of_id None q content has is = cc
piece_of_id (Some id) q content has is = is

found_in_blocks : (q : List ℕ) (bs : List (Block (List Piece))) → list_all is_block bs ≡ true
    → IfSome (option_map (λ block. block.content) (find (has_block_id q) bs)) (λ content. is_in_one_piece content ≡ true)
found_in_blocks q [] all = tt
found_in_blocks q (b ∷ bs) all =
    let parts = and_parts (is_block b) (list_all is_block bs) all in
    elim (has_block_id q b) as (λ t. has_block_id q b ≡ t → IfSome (option_map (λ block. block.content) (cond t (Some b) (find (has_block_id q) bs))) (λ content. is_in_one_piece content ≡ true)) [
      | true ↦ λ has. piece_of_id b.id q b.content has parts.0
      | false ↦ λ has. found_in_blocks q bs parts.1
    ] refl

-- each of the blocks of a blob is a block
each_block : (bs : List (Block (List Piece))) → are_blocks bs ≡ true → list_all is_block bs ≡ true
each_block bs are =
    let short = and_parts (nat_le (length bs) 50000 && list_all is_block bs && has_ids_or_one bs) (nat_le (blocks_len bs) 268435456) are in
    let ids = and_parts (nat_le (length bs) 50000 && list_all is_block bs) (has_ids_or_one bs) short.0 in
    (and_parts (nat_le (length bs) 50000) (list_all is_block bs) ids.0).1

found_committed : (o : Option (Committed (List Piece))) (q : List ℕ) → is_committed o ≡ true → IfSome (option_and_then (committed_content q) o) (λ content. is_in_one_piece content ≡ true)
found_committed None q are = tt
found_committed (Some c) q are = found_in_blocks q c.blocks (each_block c.blocks are)

-- each block that a list may take is in one piece, if the blob keeps its limits
pub each_in_one_piece : (b : Blob (List Piece)) → is_committed b.committed ≡ true → are_in_one_piece b.uncommitted ≡ true → EachInOnePiece b
each_in_one_piece b committed uncommitted source.Uncommitted id =
    subst (λ o. IfSome o (λ content. is_in_one_piece content ≡ true)) (sym (finite.get-entries b.uncommitted id)) (found_passes is_in_one_piece id (finite.entries b.uncommitted) uncommitted)
each_in_one_piece b committed uncommitted source.Committed id = found_committed b.committed id committed

-- ---- the entries of a list

-- no sources give no entries
pub no_sources : (ws : List Wanted) (ss : List BlockSource) → length ss < 1 → entries_from ws ss ≡ []
unfolding entries_from
no_sources [] ss none = refl
no_sources (w ∷ ws) [] none = refl
no_sources (w ∷ ws) (s ∷ ss) none = absurd (omega (arith, none))

-- ---- the blocks that a list takes

one_more_at_most : (n m k : ℕ) → n ≤ 1 → m ≤ k → n + m ≤ suc k
one_more_at_most n m k one rest = omega arith

module _ (b : Blob (List Piece)) where
  at_most_one : {X : Type 0} (o : Option X) → length (option_to_list o) ≤ 1
  at_most_one None = omega arith
  at_most_one (Some x) = omega arith

  length-taken_blocks-le : (ts : List Taken) → length (taken_blocks b ts) ≤ length ts
  length-taken_blocks-le [] = omega arith
  length-taken_blocks-le (t ∷ ts) =
      let o = option_map (block_of t.id) (content_from t.from t.id b) in
      rw (length-append (option_to_list o) (taken_blocks b ts)) (one_more_at_most (length (option_to_list o)) (length (taken_blocks b ts)) (length ts) (at_most_one o) (length-taken_blocks-le ts))

  taken_is_block : (id : List ℕ) (o : Option (List Piece)) → IfSome o (λ content. is_in_one_piece content ≡ true)
      → (list_all is_block (option_to_list (option_map (block_of id) o)) ≡ true) × (list_all (λ b. is_some b.id) (option_to_list (option_map (block_of id) o)) ≡ true)
  taken_is_block id None piece = (refl, refl)
  taken_is_block id (Some content) piece = (both (is_in_one_piece content) true piece refl, refl)

  are_each_block : EachInOnePiece b → (ts : List Taken) → (list_all is_block (taken_blocks b ts) ≡ true) × (list_all (λ b. is_some b.id) (taken_blocks b ts) ≡ true)
  are_each_block pieces [] = (refl, refl)
  are_each_block pieces (t ∷ ts) =
      let head = option_to_list (option_map (block_of t.id) (content_from t.from t.id b)) in
      let one = taken_is_block t.id (content_from t.from t.id b) (pieces t.from t.id) in
      let rest = are_each_block pieces ts in (
        list_all-append is_block head (taken_blocks b ts) ∙ both (list_all is_block head) (list_all is_block (taken_blocks b ts)) one.0 rest.0,
        list_all-append (λ b. is_some b.id) head (taken_blocks b ts) ∙ both (list_all (λ b. is_some b.id) head) (list_all (λ b. is_some b.id) (taken_blocks b ts)) one.1 rest.1,
      )

  or_right : (x y : Bool) → y ≡ true → (x || y) ≡ true
  or_right true y h = refl
  or_right false y h = h

  -- the blocks that a list takes are blocks of a blob, if the list and the blocks are within their limits
  pub are_blocks_taken : EachInOnePiece b → (ts : List Taken) → length ts ≤ 50000 → blocks_len (taken_blocks b ts) ≤ 268435456 → are_blocks (taken_blocks b ts) ≡ true
  are_blocks_taken pieces ts few short =
      let bs = taken_blocks b ts in
      let each = are_each_block pieces ts in
      let count : nat_le (length bs) 50000 ≡ true = le-leb (length bs) 50000 (omega (arith, length-taken_blocks-le ts)) in
      both (nat_le (length bs) 50000 && list_all is_block bs && has_ids_or_one bs) (nat_le (blocks_len bs) 268435456)
      (both (nat_le (length bs) 50000 && list_all is_block bs) (has_ids_or_one bs)
      (both (nat_le (length bs) 50000) (list_all is_block bs) count each.0)
      (or_right (length bs == 1) (list_all (λ b. is_some b.id) bs) each.1))
      (le-leb (blocks_len bs) 268435456 short)

-- ---- lists whose blocks are all found

none_other : {X : Type 0} (t : Bool) (x : X) (o : Option X) → cond t (Some x) o ≡ None → (t ≡ false) × (o ≡ None)
none_other true x o h = cc
none_other false x o h = (refl, h)

all_fail : {X : Type 0} (p : X → Bool) (i : ℕ) (xs : List X) → position_from p i xs ≡ None → AllByRecursion (λ x. p x ≡ false) xs
all_fail p i [] none = tt
all_fail p i (x ∷ xs) none =
    let parts = none_other (p x) i (position_from p (i + 1) xs) none in
    (parts.0, all_fail p (i + 1) xs parts.1)

pub no_place : {X : Type 0} (p : X → Bool) (i : ℕ) (xs : List X) → AllByRecursion (λ x. p x ≡ false) xs → position_from p i xs ≡ None
no_place p i [] all = refl
no_place p i (x ∷ xs) all = ap (λ t. cond t (Some i) (position_from p (i + 1) xs)) all.0 ∙ no_place p (i + 1) xs all.1

-- an option that is not absent has one element
one_of : {X : Type 0} (o : Option X) → is_none o ≡ false → length (option_to_list o) ≡ 1
one_of None some = cc
one_of (Some x) some = refl

still_some : {X Y : Type 0} (f : X → Y) (o : Option X) → is_none o ≡ false → is_none (option_map f o) ≡ false
still_some f None some = cc
still_some f (Some x) some = refl

-- a list of lists of one element each has as many elements as lists
length-flat_map_ones : {X Y : Type 0} (f : X → Option Y) (xs : List X) → AllByRecursion (λ x. is_none (f x) ≡ false) xs → length (flat_map (λ x. option_to_list (f x)) xs) ≡ length xs
length-flat_map_ones f [] all = refl
length-flat_map_ones f (x ∷ xs) all =
    let one = one_of (f x) all.0 in
    let rest = length-flat_map_ones f xs all.1 in
    length-append (option_to_list (f x)) (flat_map (λ x. option_to_list (f x)) xs) ∙ omega (arith, one, rest)

weaker : {X : Type 0} (P Q : X → Type 0) → ((x : X) → P x → Q x) → (xs : List X) → AllByRecursion P xs → AllByRecursion Q xs
weaker P Q f [] all = tt
weaker P Q f (x ∷ xs) all = (f x all.0, weaker P Q f xs all.1)

module _ {C : Type 0} (b : Blob C) where
  each_there : (ts : List Taken) → first_absent b ts ≡ None → AllByRecursion (λ t. is_none (content_from t.from t.id b) ≡ false) ts
  each_there ts none = all_fail (λ t. is_none (content_from t.from t.id b)) 0 ts (sym (position_from-zero (λ t. is_none (content_from t.from t.id b)) ts) ∙ none)

  -- if no block of a list is absent, the list takes as many blocks as it has entries
  pub length-taken_blocks : (ts : List Taken) → first_absent b ts ≡ None → length (taken_blocks b ts) ≡ length ts
  length-taken_blocks ts none =
      length-flat_map_ones (λ t. option_map (block_of t.id) (content_from t.from t.id b)) ts
      (weaker (λ t. is_none (content_from t.from t.id b) ≡ false) (λ t. is_none (option_map (block_of t.id) (content_from t.from t.id b)) ≡ false)
      (λ t. still_some (block_of t.id) (content_from t.from t.id b)) ts (each_there ts none))

  each_found : (ws : List Wanted) → first_missing b ws ≡ None → AllByRecursion (λ w. is_none (source_of b w) ≡ false) ws
  each_found ws none = all_fail (λ w. is_none (source_of b w)) 0 ws (sym (position_from-zero (λ w. is_none (source_of b w)) ws) ∙ none)

  -- if no wanted block is missing, as many entries are found as blocks are wanted
  pub length-found_entries : (ws : List Wanted) → first_missing b ws ≡ None → length (found_entries b ws) ≡ length ws
  length-found_entries ws none =
      length-flat_map_ones (λ w. option_map (taken_from w) (source_of b w)) ws
      (weaker (λ w. is_none (source_of b w) ≡ false) (λ w. is_none (option_map (taken_from w) (source_of b w)) ≡ false)
      (λ w. still_some (taken_from w) (source_of b w)) ws (each_found ws none))

  entries_from-found : (ws : List Wanted) → AllByRecursion (λ w. is_none (source_of b w) ≡ false) ws → entries_from ws (found_sources b ws) ≡ found_entries b ws
  unfolding entries_from
  entries_from-found [] found = refl
  entries_from-found (w ∷ ws) found =
      elim (source_of b w) as (λ o. is_none o ≡ false → entries_from (w ∷ ws) (option_to_list o ++ found_sources b ws) ≡ option_to_list (option_map (taken_from w) o) ++ found_entries b ws) [
        | None ↦ λ some. cc
        | Some s ↦ λ some. ap (λ (entries : List Taken). taken_from w s ∷ entries) (entries_from-found ws found.1)
      ] found.0

  -- if no wanted block is missing, the sources that are found give the entries that are found
  pub entries_from_found : (ws : List Wanted) → first_missing b ws ≡ None → entries_from ws (found_sources b ws) ≡ found_entries b ws
  entries_from_found ws none = entries_from-found ws (each_found ws none)

  -- what is found first passes the test
  find_passes : (test : BlockSource → Bool) (ss : List BlockSource) → IfSome (find test ss) (λ s. test s ≡ true)
  find_passes test [] = tt
  find_passes test (s ∷ ss) =
      elim (test s) as (λ t. test s ≡ t → IfSome (cond t (Some s) (find test ss)) (λ s. test s ≡ true)) [
        | true ↦ λ is. is
        | false ↦ λ is. find_passes test ss
      ] refl

  not_none : {X : Type 0} (o : Option X) → is_some o ≡ true → is_none o ≡ false
  not_none None some = cc
  not_none (Some x) some = refl

  entry_is_there : (w : Wanted) (o : Option BlockSource) → IfSome o (λ s. is_some (content_from s w.id b) ≡ true)
      → AllByRecursion (λ t. is_none (content_from t.from t.id b) ≡ false) (option_to_list (option_map (taken_from w) o))
  entry_is_there w None some = tt
  entry_is_there w (Some s) some = (not_none (content_from s w.id b) some, tt)

  joined : {X : Type 0} (P : X → Type 0) (xs ys : List X) → AllByRecursion P xs → AllByRecursion P ys → AllByRecursion P (xs ++ ys)
  joined P [] ys front back = back
  joined P (x ∷ xs) ys front back = (front.0, joined P xs ys front.1 back)

  found_are_there : (ws : List Wanted) → AllByRecursion (λ t. is_none (content_from t.from t.id b) ≡ false) (found_entries b ws)
  found_are_there [] = tt
  found_are_there (w ∷ ws) =
      joined (λ t. is_none (content_from t.from t.id b) ≡ false) (option_to_list (option_map (taken_from w) (source_of b w))) (found_entries b ws)
      (entry_is_there w (source_of b w) (find_passes (λ s. is_some (content_from s w.id b)) (sources_of w.lookup))) (found_are_there ws)

  -- of the entries that are found, no block is absent
  pub first_absent-found_entries : (ws : List Wanted) → first_absent b (found_entries b ws) ≡ None
  first_absent-found_entries ws =
      position_from-zero (λ t. is_none (content_from t.from t.id b)) (found_entries b ws)
      ∙ no_place (λ t. is_none (content_from t.from t.id b)) 0 (found_entries b ws) (found_are_there ws)

  -- a blob that has the same content for each entry gives the same blocks
  pub taken_blocks-alike : (d : Blob C) (ts : List Taken) → All (λ t. content_from t.from t.id b ≡ content_from t.from t.id d) ts → taken_blocks b ts ≡ taken_blocks d ts
  taken_blocks-alike d [] alike = refl
  taken_blocks-alike d (t ∷ ts) alike =
      let P : Taken → Type 0 = λ t. content_from t.from t.id b ≡ content_from t.from t.id d in
      let head = All-head P t ts alike in
      let rest = taken_blocks-alike d ts (All-tail P t ts alike) in
      λ i. option_to_list (option_map (block_of t.id) (head i)) ++ rest i

-- ---- lists without a fault

-- if a list has no fault, none of its blocks is missing
pub nothing_missing : (o : Option ℕ) (n len : ℕ) → list_fault o n len ≡ None → o ≡ None
nothing_missing None n len fits = refl
nothing_missing (Some i) n len fits = cc

module _ (b : Blob (List Piece)) where
  -- if a list of wanted blocks has no fault, the list of the entries that are found has no fault
  pub taken_fault-found_entries : (ws : List Wanted) → wanted_fault b ws ≡ None → taken_fault b (found_entries b ws) ≡ None
  taken_fault-found_entries ws fits =
      let len = blocks_len (taken_blocks b (found_entries b ws)) in
      let all : first_missing b ws ≡ None = nothing_missing (first_missing b ws) (length ws) len fits in
      let there : first_absent b (found_entries b ws) ≡ None = first_absent-found_entries b ws in
      let same : list_fault (first_absent b (found_entries b ws)) (length (found_entries b ws)) len ≡ list_fault (first_missing b ws) (length ws) len =
      (λ i. list_fault ((there ∙ sym all) i) (length-found_entries b ws all i) len) in
      same ∙ fits

-- ---- ids that move into blocks

module _ {C : Type 0} where
  -- a block that is written at a place, with an id and the content that it had
  pub set_named : (bs : List (Block C)) (i : ℕ) (id : List ℕ) (block : Block C) → block ≡ slice_index_or bs i block → slice_set bs i (block_of id block.content) ≡ named_at i id bs
  unfolding named_at
  set_named [] i id block is = refl
  set_named (b ∷ bs) zero id block is = ap (λ (b : Block C). block_of id b.content ∷ bs) is
  set_named (b ∷ bs) (suc i) id block is = ap (λ bs. b ∷ bs) (set_named bs i id block is)

  -- if a list has no block at a place, nothing gets an id
  pub named_at_none : (bs : List (Block C)) (i : ℕ) (id : List ℕ) → length bs ≤ i → named_at i id bs ≡ bs
  unfolding named_at
  named_at_none [] i id out = refl
  named_at_none (b ∷ bs) zero id out = absurd (omega arith)
  named_at_none (b ∷ bs) (suc i) id out = ap (λ bs. b ∷ bs) (named_at_none bs i id (omega arith))

  -- the last entry gives its id to the block at its place, and the other entries are left
  pub named_last : (us : List Taken) (u : Taken) (bs : List (Block C)) → named_blocks (us ++ u ∷ []) bs ≡ named_blocks us (named_at (length us) u.id bs)
  unfolding named_at named_blocks
  named_last [] u [] = refl
  named_last [] u (b ∷ bs) = refl
  named_last (v ∷ us) u [] = refl
  named_last (v ∷ us) u (b ∷ bs) = ap (λ bs. block_of v.id b.content ∷ bs) (named_last us u bs)

  -- the last entry has given its id, and the other entries are left
  pub named_more : (all bs cs : List (Block C)) (left us : List Taken) (u : Taken) (i : ℕ) (id : List ℕ)
      → left ≡ us ++ u ∷ [] → id ≡ u.id → i ≡ length us → cs ≡ named_at i id bs → named_blocks left bs ≡ all → named_blocks us cs ≡ all
  named_more all bs cs left us u i id last own place put held =
      ap (named_blocks us) (put ∙ (λ j. named_at (place j) (own j) bs)) ∙ sym (named_last us u bs) ∙ ap (λ us. named_blocks us bs) (sym last) ∙ held

  -- no entry is left
  pub named_done : (all bs : List (Block C)) (left : List Taken) → length left ≡ 0 → named_blocks left bs ≡ all → bs ≡ all
  unfolding named_blocks
  named_done all bs [] none held = held
  named_done all bs (u ∷ us) none held = absurd (omega arith)

  named_found : (b : Blob C) (t : Taken) (ts : List Taken) (o : Option C) → is_none o ≡ false → named_blocks ts (unnamed_blocks b ts) ≡ taken_blocks b ts
      → named_blocks (t ∷ ts) (option_to_list (option_map whole_block o) ++ unnamed_blocks b ts) ≡ option_to_list (option_map (block_of t.id) o) ++ taken_blocks b ts
  unfolding named_blocks
  named_found b t ts None some rest = cc
  named_found b t ts (Some content) some rest = ap (λ bs. block_of t.id content ∷ bs) rest

  named_each : (b : Blob C) (ts : List Taken) → AllByRecursion (λ t. is_none (content_from t.from t.id b) ≡ false) ts → named_blocks ts (unnamed_blocks b ts) ≡ taken_blocks b ts
  unfolding named_blocks
  named_each b [] all = refl
  named_each b (t ∷ ts) all = named_found b t ts (content_from t.from t.id b) all.0 (named_each b ts all.1)

  -- if no block of a list is absent, its blocks with its ids are the blocks that it takes
  pub named_unnamed : (b : Blob C) (ts : List Taken) → first_absent b ts ≡ None → named_blocks ts (unnamed_blocks b ts) ≡ taken_blocks b ts
  named_unnamed b ts none = named_each b ts (each_there b ts none)
