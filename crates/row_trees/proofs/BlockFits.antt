-- Blobs whose content is read by a function: where blocks are found, and the faults of blocks and of lists.
use Rattle.std.proofs.Common.{◌≡◌, ℕ, ◌+◌, Bool, true, false, ◌&&◌, ◌||◌, T, List, [], ◌∷◌, ◌++◌, length, map, nat_lt, Option, Some, None, Result, IfOk, refl, sym, ap, ◌∙◌, subst}
use Rattle.std.proofs.lemmas.Bool.{and_parts}
use Rattle.std.proofs.lemmas.List.{length-map}
use Rattle.std.proofs.lemmas.List.Sums.{sum_by-cons}
use Rattle.std.specs.Prelude.{Ok, Err, is_none, is_some, nat_le, not, if◌then◌else◌, find, position, sum_by, ◌==◌}
use Rattle.std.specs.List.{flat_map, list_any}
use Rattle.std.specs.Option.{option_map, option_to_list}
use Rattle.std.specs.Ordering.{is_lt}
use Rattle.std.specs.FinMap.{FinMap, entries, entries-from_sorted, entries_sorted, from_sorted, get, get-from_entries, get-from_sorted, is_sorted, same_map}
use Rattle.std.specs.FinMap.Entries.{below_all}
use Rattle.std.specs.declared.alloc.AllocError.{AllocError}
use Rattle.stamp_values.specs.Maps.{entry_value, map_values}
use Rattle.stamp_values.specs.Names.{is_blob}
use Rattle.stamp_values.specs.Order.{name_cmp, names_exact, names_total}
use Rattle.stamp_values.specs.declared.block.BlockSource.{BlockSource}
use Rattle.stamp_values.specs.declared.block.Taken.{Taken}
use Rattle.stamp_values.specs.declared.block.Wanted.{Wanted}
use Rattle.stamp_values.proofs.MapsLemmas.{get-map_values}
use Rattle.stamp_types.specs.declared.act.Act.{Act}
use Rattle.stamp_types.specs.declared.act.Act.TheVariants as act
use Rattle.stamp_types.specs.declared.act.PutBlock.{PutBlock}
use Rattle.stamp_types.specs.declared.act.PutBlockList.{PutBlockList}
use Rattle.stamp_types.specs.declared.committed.Block.{Block}
use Rattle.stamp_types.specs.declared.piece.Piece.{Piece}
use Rattle.stamp_types.specs.Changes.{blocks_len, is_act, is_in_one_piece}
use Rattle.stamp_types.specs.Pieces.{pieces_len}
use Rattle.stamp_types.specs.World.{Blob, Part, blob_in, blob_value, block_of, block_value, content_from, part_value, taken_blocks}
use Rattle.stamp_types.proofs.WorldLemmas.{blob_in-part_value, taken_blocks-blob_value}
use Rattle.block_blobs.specs.BlockLists.{first_missing, found_entries, list_fault, listed_len, source_of, sources_of, taken_fault, taken_from, wanted_fault}
use Rattle.block_blobs.specs.FoundBlocks.{AreBlocksOf}
use Rattle.block_blobs.specs.UncommittedBlocks.{block_count, block_fault, has_other_length, is_one_too_many}
use Rattle.block_blobs.specs.declared.block_fault.BlockFault.{BlockFault}
use Rattle.block_blobs.specs.declared.block_fault.BlockFault.TheVariants as fault
use Rattle.block_blobs.specs.declared.found_blocks.FoundBlocks.{FoundBlocks}
use Rattle.row_trees.specs.Fits.{fits, fits_blob}
use Rattle.row_trees.specs.FoundParts.{has_uncommitted}
use Rattle.row_trees.specs.ListedBlocks.{AreFoundFor, entries_fault, listed_size}
use Rattle.row_trees.specs.Fits.{count_limit}

-- ---- the entries of a map whose values are read by a function

module _ {C D : Type 0} (f : C → D) where
  below_all-read : (k : List ℕ) (es : List (List ℕ × C)) → below_all name_cmp k (map (entry_value f) es) ≡ below_all name_cmp k es
  below_all-read k [] = refl
  below_all-read k (e ∷ es) = ap (λ b. is_lt (name_cmp k e.0) && b) (below_all-read k es)

  is_sorted-read : (es : List (List ℕ × C)) → is_sorted name_cmp (map (entry_value f) es) ≡ is_sorted name_cmp es
  is_sorted-read [] = refl
  is_sorted-read (e ∷ es) = λ i. below_all-read e.0 es i && is_sorted-read es i

  -- the entries are those of the map, each with its value read
  pub entries-map_values : (m : FinMap name_cmp C) → entries (map_values f m) ≡ map (entry_value f) (entries m)
  entries-map_values m =
      let es = map (entry_value f) (entries m) in
      let rise : T (is_sorted name_cmp es) = subst T (sym (is_sorted-read (entries m))) (entries_sorted m) in
      let listed : from_sorted {R = name_cmp} es ≡ map_values f m =
      same_map names_total names_exact _ _ (λ q. get-from_sorted name_cmp es q rise ∙ sym (get-from_entries names_total es q)) in
      ap entries (sym listed) ∙ entries-from_sorted name_cmp es rise

  any_key : (test : List ℕ → Bool) (es : List (List ℕ × C)) → list_any (λ e. test e.0) (map (entry_value f) es) ≡ list_any (λ e. test e.0) es
  any_key test [] = refl
  any_key test (e ∷ es) = ap (λ b. test e.0 || b) (any_key test es)

  is_none-read : (o : Option C) → is_none (option_map f o) ≡ is_none o
  is_none-read None = refl
  is_none-read (Some x) = refl

  -- what is said of uncommitted blocks depends on no content
  pub block_count-map_values : (m : FinMap name_cmp C) → block_count (map_values f m) ≡ block_count m
  block_count-map_values m = ap (λ (es : List (List ℕ × D)). length es) (entries-map_values m) ∙ length-map (entries m) (entry_value f)

  pub has_other_length-map_values : (id : List ℕ) (m : FinMap name_cmp C) → has_other_length id (map_values f m) ≡ has_other_length id m
  has_other_length-map_values id m =
      ap (list_any (λ (e : List ℕ × D). not (length e.0 == length id))) (entries-map_values m) ∙ any_key (λ k. not (length k == length id)) (entries m)

  pub is_one_too_many-map_values : (id : List ℕ) (m : FinMap name_cmp C) → is_one_too_many id (map_values f m) ≡ is_one_too_many id m
  is_one_too_many-map_values id m =
      let absent : is_none (get (map_values f m) id) ≡ is_none (get m id) = ap is_none (get-map_values names_total f m id) ∙ is_none-read (get m id) in
      λ i. absent i && nat_le 50000 (block_count-map_values m i)

  pub block_fault-map_values : (id : List ℕ) (m : FinMap name_cmp C) → block_fault id (map_values f m) ≡ block_fault id m
  block_fault-map_values id m =
      λ i. if has_other_length-map_values id m i then Some fault.Length else (if is_one_too_many-map_values id m i then Some fault.TooMany else None)

-- ---- where blocks are found

-- no block was taken
abbrev is_nothing : {X : Type 0} → List X → Bool
is_nothing [] = true
is_nothing (x ∷ xs) = false

is_nothing-map : {X Y : Type 0} (f : X → Y) (xs : List X) → is_nothing (map f xs) ≡ is_nothing xs
is_nothing-map f [] = refl
is_nothing-map f (x ∷ xs) = refl

takes_nothing : {C : Type 0} (id : List ℕ) (o : Option C) → is_none o ≡ is_nothing (option_to_list (option_map (block_of id) o) ++ [])
takes_nothing id None = refl
takes_nothing id (Some x) = refl

is_some-not_none : {C : Type 0} (o : Option C) → is_some o ≡ not (is_none o)
is_some-not_none None = refl
is_some-not_none (Some x) = refl

module _ {C D : Type 0} (f : C → D) (b : Blob C) where
  -- a block is absent among read content if it is absent
  is_absent-blob_value : (t : Taken) → is_none (content_from t.from t.id (blob_value f b)) ≡ is_none (content_from t.from t.id b)
  is_absent-blob_value t =
      takes_nothing t.id (content_from t.from t.id (blob_value f b))
      ∙ ap is_nothing (taken_blocks-blob_value f b (t ∷ []))
      ∙ is_nothing-map (block_value f) (taken_blocks b (t ∷ []))
      ∙ sym (takes_nothing t.id (content_from t.from t.id b))

  -- a block is found among read content if it is found
  is_found-blob_value : (s : BlockSource) (id : List ℕ) → is_some (content_from s id (blob_value f b)) ≡ is_some (content_from s id b)
  is_found-blob_value s id =
      is_some-not_none (content_from s id (blob_value f b))
      ∙ ap not (is_absent-blob_value (record { id = id; from = s }))
      ∙ sym (is_some-not_none (content_from s id b))

  pub source_of-blob_value : (w : Wanted) → source_of (blob_value f b) w ≡ source_of b w
  source_of-blob_value w = λ i. find (λ s. is_found-blob_value s w.id i) (sources_of w.lookup)

  pub first_missing-blob_value : (ws : List Wanted) → first_missing (blob_value f b) ws ≡ first_missing b ws
  first_missing-blob_value ws = λ i. position (λ w. is_none (source_of-blob_value w i)) ws

  pub found_entries-blob_value : (ws : List Wanted) → found_entries (blob_value f b) ws ≡ found_entries b ws
  found_entries-blob_value ws = λ i. flat_map (λ w. option_to_list (option_map (taken_from w) (source_of-blob_value w i))) ws

  pub has_uncommitted_read : has_uncommitted (blob_value f b) ≡ has_uncommitted b
  has_uncommitted_read = ap (nat_lt 0) (block_count-map_values f b.uncommitted)

-- ---- the faults of lists

size-read : (bs : List (Block (List Piece))) → sum_by (λ (block : Block ℕ). block.content) (map (block_value pieces_len) bs) ≡ blocks_len bs
size-read [] = refl
size-read (b ∷ bs) =
    sum_by-cons (λ (block : Block ℕ). block.content) (block_value pieces_len b) (map (block_value pieces_len) bs)
    ∙ ap (λ n. pieces_len b.content + n) (size-read bs)
    ∙ sym (sum_by-cons (λ (block : Block (List Piece)). pieces_len block.content) b bs)

module _ (b : Blob (List Piece)) where
  -- the sizes of the blocks that entries take make the length that these blocks have together
  pub listed_size-blob_value : (ts : List Taken) → listed_size (blob_value pieces_len b) ts ≡ listed_len b ts
  listed_size-blob_value ts = ap (sum_by (λ (block : Block ℕ). block.content)) (taken_blocks-blob_value pieces_len b ts) ∙ size-read (taken_blocks b ts)

  -- the fault of a list over the sizes of blocks is its fault over their pieces
  pub entries_fault-blob_value : (ts : List Taken) → entries_fault (blob_value pieces_len b) ts ≡ taken_fault b ts
  entries_fault-blob_value ts = λ i. list_fault (position (λ t. is_absent-blob_value pieces_len b t i) ts) (length ts) (listed_size-blob_value ts i)

  -- the fault of a list of wanted blocks over the sizes of blocks is its fault over their pieces
  pub wanted_fault-blob_value : (ws : List Wanted)
      → list_fault (first_missing (blob_value pieces_len b) ws) (length ws) (listed_size (blob_value pieces_len b) (found_entries (blob_value pieces_len b) ws)) ≡ wanted_fault b ws
  wanted_fault-blob_value ws =
      let size : listed_size (blob_value pieces_len b) (found_entries (blob_value pieces_len b) ws) ≡ listed_len b (found_entries b ws) =
      ap (listed_size (blob_value pieces_len b)) (found_entries-blob_value pieces_len b ws) ∙ listed_size-blob_value (found_entries b ws) in
      λ i. list_fault (first_missing-blob_value pieces_len b ws i) (length ws) (size i)

-- ---- changes that fit

-- the fault of a block over the sizes in a container is its fault over the pieces
pub block_fault_sizes : (p : Part (List Piece)) (name id : List ℕ) → block_fault id (blob_in (part_value pieces_len p) name).uncommitted ≡ block_fault id (blob_in p name).uncommitted
block_fault_sizes p name id =
    ap (λ (b : Blob ℕ). block_fault id b.uncommitted) (blob_in-part_value pieces_len p name) ∙ block_fault-map_values pieces_len id (blob_in p name).uncommitted

-- the fault of a list over the sizes in a container is its fault over the pieces
pub entries_fault_sizes : (p : Part (List Piece)) (name : List ℕ) (ts : List Taken) → entries_fault (blob_in (part_value pieces_len p) name) ts ≡ taken_fault (blob_in p name) ts
entries_fault_sizes p name ts =
    ap (λ (b : Blob ℕ). entries_fault b ts) (blob_in-part_value pieces_len p name) ∙ entries_fault-blob_value (blob_in p name) ts

-- whether a list fits the pieces of its blob is whether the change fits the sizes in the container
pub answer_of_list : (p : Part (List Piece)) (a : Act) (list : PutBlockList) (answer : Result Bool AllocError) → a ≡ act.PutBlockList list
    → IfOk answer (λ fits. fits ≡ is_none (taken_fault (blob_in p list.blob) list.entries)) → IfOk answer (λ fits. fits ≡ fits_blob (part_value pieces_len p) a)
answer_of_list p a list answer is given =
    let same : fits_blob (part_value pieces_len p) a ≡ is_none (taken_fault (blob_in p list.blob) list.entries) =
    ap (fits_blob (part_value pieces_len p)) is ∙ ap is_none (entries_fault_sizes p list.blob list.entries) in
    subst (λ b. IfOk answer (λ fits. fits ≡ b)) (sym same) given

no_fault : (o : Option BlockFault) → is_none o ≡ true → o ≡ None
no_fault None h = refl
no_fault (Some f) h = cc

-- a Put Block that fits has no fault
pub fits_block : (p : Part (List Piece)) (a : PutBlock) → fits (part_value pieces_len p) (act.PutBlock a) ≡ true → block_fault a.id (blob_in p a.blob).uncommitted ≡ None
fits_block p a h =
    let z = part_value pieces_len p in
    let own : fits_blob z (act.PutBlock a) ≡ true = (and_parts ((is_some z.standing || false) && nat_lt z.count count_limit) (fits_blob z (act.PutBlock a)) h).1 in
    sym (block_fault_sizes p a.blob a.id) ∙ no_fault _ own

-- a Put Block List that fits has no fault
pub fits_list : (p : Part (List Piece)) (a : PutBlockList) → fits (part_value pieces_len p) (act.PutBlockList a) ≡ true → taken_fault (blob_in p a.blob) a.entries ≡ None
fits_list p a h =
    let z = part_value pieces_len p in
    let own : fits_blob z (act.PutBlockList a) ≡ true = (and_parts ((is_some z.standing || false) && nat_lt z.count count_limit) (fits_blob z (act.PutBlockList a)) h).1 in
    sym (entries_fault_sizes p a.blob a.entries) ∙ no_fault _ own

module _ (p : Part (List Piece)) (a : Act) (l : PutBlockList) (b : Blob (List Piece)) (ts : List Taken) (is : act.PutBlockList l ≡ a) (blob : b ≡ blob_in p l.blob) (same : ts ≡ l.entries) where
  -- the list of a change that fits has no fault
  pub list_of_change : fits (part_value pieces_len p) a ≡ true → taken_fault b ts ≡ None
  list_of_change h = (λ i. taken_fault (blob i) (same i)) ∙ fits_list p l (subst (λ a. fits (part_value pieces_len p) a ≡ true) (sym is) h)

  -- the blocks that were found for the entries of the list were found for the change
  pub found_for_list : (made : Result FoundBlocks AllocError) → IfOk made (λ f. AreBlocksOf b ts f) → IfOk made (λ f. AreFoundFor p a f)
  found_for_list (Ok f) found = subst (λ a. AreFoundFor p a f) is (subst (λ (s : Blob (List Piece) × List Taken). AreBlocksOf s.0 s.1 f) (λ i. (blob i, same i)) found)
  found_for_list (Err fault) found = tt

-- the block of a good Put Block is in one piece
pub block_piece : (a : PutBlock) → is_act (act.PutBlock a) ≡ true → is_in_one_piece a.content ≡ true
block_piece a good = (and_parts (is_blob a.blob) (is_in_one_piece a.content) good).1
