-- What holds of a container if the object does not refuse a request.
use Rattle.std.proofs.Common.{◌≡◌, ◌<◌, ℕ, zero, suc, drop, Bool, true, false, cond, not, ◌&&◌, ◌||◌, List, [], ◌∷◌, Option, Some, None, nat_le, arith, refl, sym, ap, ◌∙◌, subst, length, nat_lt}
use Rattle.std.proofs.lemmas.Bool.{and_parts}
use Rattle.std.specs.Prelude.{IsSome, is_none, is_some, find}
use Rattle.std.specs.List.{list_all}
use Rattle.std.specs.Option.{option_map, option_map_or}
use Rattle.stamp_values.specs.Limits.{blob_limit, entries_limit}
use Rattle.stamp_values.specs.Operations.{writes}
use Rattle.stamp_values.specs.declared.op.Op.TheVariants as op
use Rattle.stamp_types.specs.declared.piece.Piece.{Piece}
use Rattle.stamp_types.specs.Pieces.{pieces_len}
use Rattle.stamp_types.specs.Requests.{Asked}
use Rattle.stamp_types.specs.World.{Blob, Part, committed_value, part_value}
use Rattle.block_blobs.specs.BlockLists.{first_absent, first_missing, found_entries, list_fault, wanted_fault}
use Rattle.block_blobs.specs.UncommittedBlocks.{block_fault, has_other_length, is_one_too_many}
use Rattle.block_blobs.specs.declared.block_fault.BlockFault.TheVariants as fault
use Rattle.block_blobs.proofs.ListLemmas.{first_absent-found_entries, length-found_entries}
use Rattle.row_trees.specs.ListedBlocks.{entries_fault, listed_size}
use Rattle.range_rows.specs.NamedBlobs.{target_blob}
use Rattle.row_trees.specs.Fits.{count_limit}
use Rattle.range_rows.specs.ObjectRules.{needs_container, needs_blob, named_blob, cause_holds, causes, object_refusal, wanted_size}
use Rattle.range_rows.specs.ObjectRules.Cause.{ContainerIsAbsent, BlobIsAbsent, BlockIsMissing, ListIsTooLong, IdHasOtherLength, BlocksAreFull, ListIsTooLarge, CountIsFull}
use Rattle.range_rows.specs.Readings.{wanted_blocks}
use Rattle.range_rows.proofs.AnswerLemmas.{named_blob-part_value}
use Rattle.row_trees.proofs.BlockFits.{wanted_fault-blob_value}
use Rattle.range_rows.proofs.BlockLemmas.{committed-target_blob, target_blob-part_value}

-- if no element is found, no element passes the test
pub none_passes : {X : Type 0} (test : X → Bool) (xs : List X) → find test xs ≡ None → list_all (λ x. not (test x)) xs ≡ true
none_passes test [] h = refl
none_passes test (x ∷ xs) h =
    elim (test x) as (λ b. cond b (Some x) (find test xs) ≡ None → (not b && list_all (λ x. not (test x)) xs) ≡ true) [
      | true ↦ λ h. cc
      | false ↦ λ h. none_passes test xs h
    ] h

-- if all elements pass the test, so do the elements after the first n elements
rest_passes : {X : Type 0} (test : X → Bool) (n : ℕ) (xs : List X) → list_all test xs ≡ true → list_all test (drop n xs) ≡ true
rest_passes test zero xs all = all
rest_passes test (suc n) [] all = refl
rest_passes test (suc n) (x ∷ xs) all = rest_passes test n xs (and_parts (test x) (list_all test xs) all).1

pub none_mapped : {X Y : Type 0} (f : X → Y) (o : Option X) → option_map f o ≡ None → o ≡ None
none_mapped f None h = refl
none_mapped f (Some x) h = cc

there : {X : Type 0} (o : Option X) → not (is_none o) ≡ true → IsSome o
there None h = h
there (Some x) h = refl

absent_there : {X : Type 0} (o : Option X) → IsSome o → o ≡ None → ⊥
absent_there None some is = cc
absent_there (Some x) some is = cc

neither : (a b : Bool) → not (a || b) ≡ true → not a ≡ true
neither true b h = h
neither false b h = refl

nothing_there : {X : Type 0} (o : Option X) → not (is_some o) ≡ true → o ≡ None
nothing_there None h = refl
nothing_there (Some x) h = cc

-- of two causes neither holds, so no fault exists
neither_fault : {X : Type 0} (first second : Bool) (x y : X) → not first ≡ true → not second ≡ true → cond first (Some x) (cond second (Some y) None) ≡ None
neither_fault true second x y no_first no_second = cc
neither_fault false true x y no_first no_second = cc
neither_fault false false x y no_first no_second = refl

below_limit : (n : ℕ) → not (nat_le count_limit n) ≡ true → n < count_limit
below_limit n h = grind arith

module _ (p : Part ℕ) (q : Asked) (free : object_refusal p q ≡ None) where
  none_holds : list_all (λ c. not (cause_holds p q c)) causes ≡ true
  none_holds = none_passes (cause_holds p q) causes (none_mapped _ (find (cause_holds p q) causes) free)

  no_absence : not (cause_holds p q ContainerIsAbsent) ≡ true
  no_absence = (and_parts _ _ none_holds).0

  -- no cause holds after the first n causes
  after : (n : ℕ) → list_all (λ c. not (cause_holds p q c)) (drop n causes) ≡ true
  after n = rest_passes (λ c. not (cause_holds p q c)) n causes none_holds

  blob_is_there : not (cause_holds p q BlobIsAbsent) ≡ true
  blob_is_there = (and_parts (not (cause_holds p q BlobIsAbsent)) (list_all (λ c. not (cause_holds p q c)) (drop 3 causes)) (after 2)).0

  count_is_not_full : not (cause_holds p q CountIsFull) ≡ true
  count_is_not_full = (and_parts (not (cause_holds p q CountIsFull)) (list_all (λ c. not (cause_holds p q c)) (drop 17 causes)) (after 16)).0

  -- the container of an allowed request exists, if the operation needs it
  pub needed_container : needs_container q.ask.op ≡ true → IsSome p.standing
  needed_container needs = there p.standing (subst (λ b. not (b && is_none p.standing) ≡ true) needs no_absence)

  -- the container of an allowed request takes one more change, if the operation writes
  pub room_for_write : writes q.ask.op ≡ true → p.count < count_limit
  room_for_write writing =
      let below : not (nat_le count_limit p.count) ≡ true = subst (λ b. not (b && nat_le count_limit p.count) ≡ true) writing count_is_not_full in
      below_limit p.count below

  -- readers see the blob of an allowed request, if the operation needs it
  pub needed_blob : needs_blob q.ask.op ≡ true → IsSome (named_blob p q.ask)
  needed_blob needs = there (named_blob p q.ask) (subst (λ b. not (b && is_none (named_blob p q.ask)) ≡ true) needs (neither _ _ blob_is_there))

  -- readers see the blob of an allowed Get Blob
  pub read_there : q.ask.op ≡ op.GetBlob → IsSome (named_blob p q.ask)
  read_there get = needed_blob (ap needs_blob get)

  -- ---- blocks

  abbrev wanting : Blob ℕ
  wanting = target_blob p q.ask

  no_other_length : not (cause_holds p q IdHasOtherLength) ≡ true
  no_other_length = (and_parts (not (cause_holds p q IdHasOtherLength)) (list_all (λ c. not (cause_holds p q c)) (drop 13 causes)) (after 12)).0

  not_full : not (cause_holds p q BlocksAreFull) ≡ true
  not_full = (and_parts (not (cause_holds p q BlocksAreFull)) (list_all (λ c. not (cause_holds p q c)) (drop 14 causes)) (after 13)).0

  none_missing : not (cause_holds p q BlockIsMissing) ≡ true
  none_missing = (and_parts (not (cause_holds p q BlockIsMissing)) (list_all (λ c. not (cause_holds p q c)) (drop 11 causes)) (after 10)).0

  not_long : not (cause_holds p q ListIsTooLong) ≡ true
  not_long = (and_parts (not (cause_holds p q ListIsTooLong)) (list_all (λ c. not (cause_holds p q c)) (drop 12 causes)) (after 11)).0

  not_large : not (cause_holds p q ListIsTooLarge) ≡ true
  not_large = (and_parts (not (cause_holds p q ListIsTooLarge)) (list_all (λ c. not (cause_holds p q c)) (drop 15 causes)) (after 14)).0

  -- the blob of an allowed Put Block takes the block
  pub put_block_fits : (id : List ℕ) → q.ask.args.block ≡ Some id → block_fault id (target_blob p q.ask).uncommitted ≡ None
  put_block_fits id puts =
      neither_fault (has_other_length id wanting.uncommitted) (is_one_too_many id wanting.uncommitted) fault.Length fault.TooMany
      (subst (λ (o : Option (List ℕ)). not (option_map_or (λ id. has_other_length id wanting.uncommitted) o false) ≡ true) puts no_other_length)
      (subst (λ (o : Option (List ℕ)). not (option_map_or (λ id. is_one_too_many id wanting.uncommitted) o false) ≡ true) puts not_full)

  -- the blob of an allowed Put Block List has each block that is wanted
  pub no_block_is_missing : first_missing (target_blob p q.ask) (wanted_blocks q) ≡ None
  no_block_is_missing = nothing_there (first_missing wanting (wanted_blocks q)) none_missing

  -- the list of wanted blocks has no fault
  pub wanted_list_fits : list_fault (first_missing (target_blob p q.ask) (wanted_blocks q)) (length (wanted_blocks q)) (wanted_size p q) ≡ None
  wanted_list_fits =
      ap (λ missing. list_fault missing (length (wanted_blocks q)) (wanted_size p q)) no_block_is_missing
      ∙ neither_fault (nat_lt entries_limit (length (wanted_blocks q))) (nat_lt blob_limit (wanted_size p q)) fault.TooMany fault.TooLarge not_long not_large

  -- the list of the entries that are found has no fault
  pub entries_have_no_fault : entries_fault (target_blob p q.ask) (found_entries (target_blob p q.ask) (wanted_blocks q)) ≡ None
  entries_have_no_fault =
      let there : first_absent wanting (found_entries wanting (wanted_blocks q)) ≡ first_missing wanting (wanted_blocks q) =
      first_absent-found_entries wanting (wanted_blocks q) ∙ sym no_block_is_missing in
      let count = length-found_entries wanting (wanted_blocks q) no_block_is_missing in
      (λ i. list_fault (there i) (count i) (wanted_size p q)) ∙ wanted_list_fits

-- the list of an allowed request has no fault over the pieces of its blob
pub allowed_list : (p : Part (List Piece)) (q : Asked) → object_refusal (part_value pieces_len p) q ≡ None → wanted_fault (target_blob p q.ask) (wanted_blocks q) ≡ None
allowed_list p q free =
    let ws = wanted_blocks q in
    sym (wanted_fault-blob_value (target_blob p q.ask) ws)
    ∙ ap (λ (b : Blob ℕ). list_fault (first_missing b ws) (length ws) (listed_size b (found_entries b ws))) (sym (target_blob-part_value pieces_len p q.ask))
    ∙ wanted_list_fits (part_value pieces_len p) q free

-- the container of an allowed request exists, if the operation needs it
pub allowed_container : (p : Part (List Piece)) (q : Asked) → needs_container q.ask.op ≡ true → object_refusal (part_value pieces_len p) q ≡ None → p.standing ≡ None → ⊥
allowed_container p q needs free absent = absent_there p.standing (needed_container (part_value pieces_len p) q free needs) absent

-- the blob of an allowed request exists, if the operation needs it
pub allowed_blob : (p : Part (List Piece)) (q : Asked) → needs_blob q.ask.op ≡ true → object_refusal (part_value pieces_len p) q ≡ None → (target_blob p q.ask).committed ≡ None → ⊥
allowed_blob p q needs free none =
    let read : IsSome (named_blob (part_value pieces_len p) q.ask) = needed_blob (part_value pieces_len p) q free needs in
    absent_there (named_blob (part_value pieces_len p) q.ask) read (named_blob-part_value pieces_len p q.ask ∙ ap (option_map (committed_value pieces_len)) (sym (committed-target_blob p q.ask) ∙ none))
