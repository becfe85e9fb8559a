-- The first cause that exists, found group by group.
use Rattle.std.proofs.Common.{◌≡◌, ℕ, Bool, true, false, cond, List, [], ◌∷◌, ◌++◌, length, nat_lt, Option, Some, None, refl, sym, ap, ◌∙◌}
use Rattle.std.specs.Prelude.{IsSome, Result, Ok, Err, find, is_some}
use Rattle.std.specs.Option.{option_and_then, option_map, option_map_or}
use Rattle.stamp_values.specs.Limits.{blob_limit, entries_limit}
use Rattle.stamp_values.specs.declared.block.Wanted.{Wanted}
use Rattle.stamp_values.specs.declared.op.Op.{Op}
use Rattle.stamp_values.specs.declared.op.Op.TheVariants as op
use Rattle.stamp_values.specs.declared.policy.Policy.{Policy}
use Rattle.stamp_types.specs.declared.piece.Piece.{Piece}
use Rattle.stamp_types.specs.declared.refusal.Refusal.{Refusal}
use Rattle.stamp_types.specs.Pieces.{pieces_len}
use Rattle.stamp_types.specs.Requests.{Asked, IsRequest}
use Rattle.stamp_types.specs.World.{Blob, Part, blob_value}
use Rattle.body_forms.specs.PolicyValues.{policies_reading}
use Rattle.body_forms.specs.declared.body_fault.BodyFault.{BodyFault}
use Rattle.block_blobs.specs.BlockLists.{first_missing, found_entries, list_fault, wanted_fault}
use Rattle.block_blobs.specs.UncommittedBlocks.{block_fault, has_other_length, is_one_too_many}
use Rattle.block_blobs.specs.declared.block_fault.BlockFault.TheVariants as fault
use Rattle.block_blobs.specs.declared.resolved.Resolved.{Resolved}
use Rattle.range_rows.specs.CauseGroups.{name_causes, condition_causes, body_causes, early_causes, block_causes, last_causes, group_refusal, id_refusal, list_refusal}
use Rattle.row_trees.specs.ListedBlocks.{listed_size}
use Rattle.range_rows.specs.JudgedBlocks.{blocks_by, nothing_resolved}
use Rattle.range_rows.specs.NamedBlobs.{target_blob}
use Rattle.range_rows.specs.ObjectRules.{Cause, cause_holds, cause_refusal, object_refusal}
use Rattle.range_rows.specs.ObjectRules.Cause.{BlockIsMissing, ListIsTooLong, IdHasOtherLength, BlocksAreFull, ListIsTooLarge}
use Rattle.range_rows.specs.Readings.{listed_in, reading_by, reading_from, reading_of, wanted_blocks}
use Rattle.range_rows.specs.declared.block_rules.Blocks.{Blocks}
use Rattle.range_rows.specs.declared.block_rules.Blocks.TheVariants as blocks
use Rattle.range_rows.specs.declared.reading.Reading.{Reading}
use Rattle.range_rows.specs.declared.reading.Reading.TheVariants as reading
use Rattle.range_rows.proofs.Unrefused.{none_mapped}
use Rattle.row_trees.proofs.BlockFits.{block_fault-map_values, wanted_fault-blob_value}

-- ---- groups that follow each other

-- no element of the first list passes, so the first that passes is in the second list
passed_by : {X : Type 0} (test : X → Bool) (xs ys : List X) → find test xs ≡ None → find test (xs ++ ys) ≡ find test ys
passed_by test [] ys h = refl
passed_by test (x ∷ xs) ys h =
    elim (test x) as (λ b. cond b (Some x) (find test xs) ≡ None → cond b (Some x) (find test (xs ++ ys)) ≡ find test ys) [
      | true ↦ λ h. cc
      | false ↦ λ h. passed_by test xs ys h
    ] h

-- the first element of the first list that passes is the first element of both lists that passes
stopped_by : {X Y : Type 0} (f : X → Y) (test : X → Bool) (y : Y) (xs ys : List X) → option_map f (find test xs) ≡ Some y → option_map f (find test (xs ++ ys)) ≡ Some y
stopped_by f test y [] ys h = cc
stopped_by f test y (x ∷ xs) ys h =
    elim (test x) as (λ b. option_map f (cond b (Some x) (find test xs)) ≡ Some y → option_map f (cond b (Some x) (find test (xs ++ ys))) ≡ Some y) [
      | true ↦ λ h. h
      | false ↦ λ h. stopped_by f test y xs ys h
    ] h

module _ (p : Part ℕ) (q : Asked) where
  -- the refusal by a list of causes, of which the first group refuses nothing
  next_group : (xs ys : List Cause) → group_refusal xs p q ≡ None → group_refusal (xs ++ ys) p q ≡ group_refusal ys p q
  unfolding group_refusal
  next_group xs ys h = ap (option_map cause_refusal) (passed_by (cause_holds p q) xs ys (none_mapped cause_refusal (find (cause_holds p q) xs) h))

  first_group : (r : Refusal) (xs ys : List Cause) → group_refusal xs p q ≡ Some r → group_refusal (xs ++ ys) p q ≡ Some r
  unfolding group_refusal
  first_group r xs ys h = stopped_by cause_refusal (cause_holds p q) r xs ys h

  -- a request is refused early by the first group that refuses it

  pub early_by_names : (r : Refusal) → group_refusal name_causes p q ≡ Some r → Some r ≡ group_refusal early_causes p q
  early_by_names r h = sym (first_group r name_causes (condition_causes ++ body_causes) h)

  module _ (names : group_refusal name_causes p q ≡ None) where
    past_names : group_refusal early_causes p q ≡ group_refusal (condition_causes ++ body_causes) p q
    past_names = next_group name_causes (condition_causes ++ body_causes) names

    pub early_by_conditions : (r : Refusal) → group_refusal condition_causes p q ≡ Some r → Some r ≡ group_refusal early_causes p q
    early_by_conditions r h = sym (past_names ∙ first_group r condition_causes body_causes h)

    pub early_by_body : group_refusal condition_causes p q ≡ None → group_refusal body_causes p q ≡ group_refusal early_causes p q
    early_by_body h = sym (past_names ∙ next_group condition_causes body_causes h)

  all_groups : group_refusal (early_causes ++ block_causes ++ last_causes) p q ≡ object_refusal p q
  unfolding group_refusal
  all_groups = refl

  -- the object refuses a request by the first group that refuses it

  pub refused_early : (r : Refusal) → group_refusal early_causes p q ≡ Some r → object_refusal p q ≡ Some r
  refused_early r h = sym all_groups ∙ first_group r early_causes (block_causes ++ last_causes) h

  module _ (early : group_refusal early_causes p q ≡ None) where
    past_early : object_refusal p q ≡ group_refusal (block_causes ++ last_causes) p q
    past_early = sym all_groups ∙ next_group early_causes (block_causes ++ last_causes) early

    pub refused_by_blocks : (r : Refusal) → group_refusal block_causes p q ≡ Some r → object_refusal p q ≡ Some r
    refused_by_blocks r h = past_early ∙ first_group r block_causes last_causes h

    pub refused_by_last : group_refusal block_causes p q ≡ None → object_refusal p q ≡ group_refusal last_causes p q
    refused_by_last h = past_early ∙ next_group block_causes last_causes h

-- ---- the group of blocks

abbrev refusal_told : Blocks → Option Refusal
refusal_told (blocks.Refused r) = Some r
refusal_told (blocks.Found found) = None

abbrev found_told : Blocks → Resolved
found_told (blocks.Refused r) = nothing_resolved
found_told (blocks.Found found) = found

-- the refusal because of blocks, from the blob, the blocks that are wanted and the id of a block
abbrev block_group : Blob ℕ → List Wanted → Option (List ℕ) → Option Refusal
block_group b ws block =
    option_map cause_refusal
    (cond (is_some (first_missing b ws)) (Some BlockIsMissing)
    (cond (nat_lt entries_limit (length ws)) (Some ListIsTooLong)
    (cond (option_map_or (λ id. has_other_length id b.uncommitted) block false) (Some IdHasOtherLength)
    (cond (option_map_or (λ id. is_one_too_many id b.uncommitted) block false) (Some BlocksAreFull)
    (cond (nat_lt blob_limit (listed_size b (found_entries b ws))) (Some ListIsTooLarge) None)))))

is_block_group : (p : Part ℕ) (q : Asked) → block_group (target_blob p q.ask) (wanted_blocks q) q.ask.args.block ≡ group_refusal block_causes p q
unfolding group_refusal
is_block_group p q = refl

by_sizes : (long large : Bool) → list_refusal (cond long (Some fault.TooMany) (cond large (Some fault.TooLarge) None))
    ≡ option_map cause_refusal (cond long (Some ListIsTooLong) (cond large (Some ListIsTooLarge) None))
by_sizes true large = refl
by_sizes false true = refl
by_sizes false false = refl

by_list : (missing : Option ℕ) (count size : ℕ)
    → list_refusal (list_fault missing count size) ≡ option_map cause_refusal
    (cond (is_some missing) (Some BlockIsMissing) (cond (nat_lt entries_limit count) (Some ListIsTooLong) (cond (nat_lt blob_limit size) (Some ListIsTooLarge) None)))
by_list (Some i) count size = refl
by_list None count size = by_sizes (nat_lt entries_limit count) (nat_lt blob_limit size)

by_faults : (other full : Bool) → id_refusal (cond other (Some fault.Length) (cond full (Some fault.TooMany) None))
    ≡ option_map cause_refusal (cond other (Some IdHasOtherLength) (cond full (Some BlocksAreFull) None))
by_faults true full = refl
by_faults false true = refl
by_faults false false = refl

by_id : (b : Blob ℕ) (block : Option (List ℕ)) → id_refusal (option_and_then (λ id. block_fault id b.uncommitted) block) ≡ block_group b [] block
by_id b None = refl
by_id b (Some id) = by_faults (has_other_length id b.uncommitted) (is_one_too_many id b.uncommitted)

-- blocks that were judged as refused are refused by this
pub refusal_of_blocks : (g : Option Refusal) (found : Resolved) (r : Refusal) → blocks.Refused r ≡ blocks_by g found → g ≡ Some r
refusal_of_blocks (Some other) found r h = ap (λ b. refusal_told b) (sym h)
refusal_of_blocks None found r h = cc

-- blocks that were found are not refused, and this was found
pub found_of_blocks : (g : Option Refusal) (resolved found : Resolved) → blocks.Found found ≡ blocks_by g resolved → (g ≡ None) × (found ≡ resolved)
found_of_blocks None resolved found h = (refl, ap (λ b. found_told b) h)
found_of_blocks (Some r) resolved found h = cc

-- ---- what a reading says of its request

-- policies are not a block list
not_a_list : (said : Result (List Policy) BodyFault) (ws : List Wanted) → reading.BlockList ws ≡ reading_from reading.Policies said → ⊥
not_a_list (Ok policies) ws h = cc
not_a_list (Err fault) ws h = cc

-- only a Put Block List wants blocks
list_of_op : (o : Op) (body : List ℕ) (ws : List Wanted) → reading.BlockList ws ≡ reading_by o body → o ≡ op.PutBlockList
unfolding reading_by
list_of_op op.PutBlockList body ws h = refl
list_of_op op.SetAcl body ws h = absurd (not_a_list (policies_reading body) ws h)
list_of_op other body ws h = cc

pub is_put_block_list : (q : Asked) (ws : List Wanted) → reading.BlockList ws ≡ reading_of q → q.ask.op ≡ op.PutBlockList
is_put_block_list q ws h = list_of_op q.ask.op q.body ws h

-- a reading that is not a block list wants no blocks
pub lists_nothing : (r : Reading) → ((ws : List Wanted) → r ≡ reading.BlockList ws → ⊥) → listed_in r ≡ []
lists_nothing (reading.BlockList ws) other = absurd (other ws refl)
lists_nothing other not = refl

absent_if_not : {X : Type 0} (o : Option X) → (IsSome o → ⊥) → o ≡ None
absent_if_not None h = refl
absent_if_not (Some x) h = absurd (h refl)

-- a request that wants blocks puts no block
no_block_id : (q : Asked) (ws : List Wanted) → IsRequest q → reading.BlockList ws ≡ reading_of q → q.ask.args.block ≡ None
no_block_id q ws valid is =
    absent_if_not q.ask.args.block (λ some. let put = valid.ask.own.block.0 some in let list = is_put_block_list q ws is in cc)

module _ (b : Blob (List Piece)) (q : Asked) (p : Part ℕ) (found : blob_value pieces_len b ≡ target_blob p q.ask) where
  -- the refusal because of blocks, if the request wants blocks
  pub refused_by_list : (ws : List Wanted) → IsRequest q → reading.BlockList ws ≡ reading_of q → list_refusal (wanted_fault b ws) ≡ group_refusal block_causes p q
  refused_by_list ws valid is =
      let sizes = blob_value pieces_len b in
      ap list_refusal (sym (wanted_fault-blob_value b ws))
      ∙ by_list (first_missing sizes ws) (length ws) (listed_size sizes (found_entries sizes ws))
      ∙ (λ i. block_group (found i) (listed_in (is i)) (sym (no_block_id q ws valid is) i))
      ∙ is_block_group p q

  -- the refusal because of blocks, if the request wants no blocks
  pub refused_by_id : (r : Reading) → r ≡ reading_of q → listed_in r ≡ []
      → id_refusal (option_and_then (λ id. block_fault id b.uncommitted) q.ask.args.block) ≡ group_refusal block_causes p q
  refused_by_id r is none =
      let sizes = blob_value pieces_len b in
      (λ i. id_refusal (option_and_then (λ id. sym (block_fault-map_values pieces_len id b.uncommitted) i) q.ask.args.block))
      ∙ by_id sizes q.ask.args.block
      ∙ (λ i. block_group (found i) ((sym none ∙ ap listed_in is) i) q.ask.args.block)
      ∙ is_block_group p q
