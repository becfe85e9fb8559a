-- The change that an allowed request makes fits.
use Rattle.std.proofs.Common.{◌≡◌, ℕ, Bool, true, false, ◌||◌, ◌&&◌, List, Option, Some, None, nat_lt, length, unwrap_or, refl, sym, ap, ◌∙◌, subst}
use Rattle.std.proofs.lemmas.Bool.{and_from, lt-ltb}
use Rattle.std.specs.Prelude.{IfSome, IfOk, IsTrue, Result, Ok, Err, is_none, is_some}
use Rattle.std.specs.Option.{option_map, option_and_then}
use Rattle.std.specs.declared.alloc.AllocError.{AllocError}
use Rattle.stamp_values.specs.Operations.{writes}
use Rattle.stamp_values.specs.declared.key.Key.{Key}
use Rattle.stamp_values.specs.declared.op.Op.{Op}
use Rattle.stamp_values.specs.declared.op.Op.TheVariants as op
use Rattle.stamp_types.specs.declared.act.Act.{Act}
use Rattle.stamp_types.specs.declared.act.Act.TheVariants as act
use Rattle.stamp_types.specs.declared.args.Kept.{Kept}
use Rattle.stamp_types.specs.Changes.{KeyedAct}
use Rattle.stamp_types.specs.Requests.{Asked}
use Rattle.stamp_types.specs.World.{Blob, Part, blob_in, no_blob}
use Rattle.row_trees.specs.Fits.{fits}
use Rattle.row_trees.specs.Fits.{count_limit}
use Rattle.range_rows.specs.ObjectRules.{needs_container, object_refusal}
use Rattle.row_trees.specs.ListedBlocks.{entries_fault, listed_size}
use Rattle.range_rows.specs.NamedBlobs.{target_blob}
use Rattle.range_rows.specs.Readings.{wanted_blocks}
use Rattle.range_rows.specs.RequestChanges.{put_blob, put_block, put_block_list, set_metadata, delete_blob, act_by, change_of}
use Rattle.block_blobs.specs.BlockLists.{first_missing, found_entries, list_fault}
use Rattle.block_blobs.specs.UncommittedBlocks.{block_fault}
use Rattle.block_blobs.proofs.ListLemmas.{first_absent-found_entries, length-found_entries}
use Rattle.range_rows.proofs.Unrefused.{needed_container, put_block_fits, room_for_write, wanted_list_fits}
use Rattle.range_rows.proofs.PutParts.{all_found}

or_true : (b : Bool) → (b || true) ≡ true
or_true true = refl
or_true false = refl

module _ (p : Part ℕ) (q : Asked) (t : ℕ) (free : object_refusal p q ≡ None) where
  abbrev keyed : Option Act → Option KeyedAct
  keyed o = option_map (λ a. record { key = q.ask.key; act = a }) o

  -- the act fits, if there is an act
  abbrev AllFit : Option Act → Type 0
  AllFit o = IfSome (keyed o) (λ c. IsTrue (fits p c.act))

  -- the container exists if the operation needs it, it takes one more change, and the change fits its blob
  fits_if_there : (new blob : Bool) → writes q.ask.op ≡ true → (is_some p.standing || new) ≡ true → blob ≡ true
      → ((is_some p.standing || new) && nat_lt p.count count_limit && blob) ≡ true
  fits_if_there new blob writing exists fitting =
      and_from ((is_some p.standing || new) && nat_lt p.count count_limit) blob
      (and_from (is_some p.standing || new) (nat_lt p.count count_limit) exists (lt-ltb p.count count_limit (room_for_write p q free writing)))
      fitting

  fits_in_existing : (blob : Bool) → writes q.ask.op ≡ true → needs_container q.ask.op ≡ true → blob ≡ true
      → ((is_some p.standing || false) && nat_lt p.count count_limit && blob) ≡ true
  fits_in_existing blob writing needs = fits_if_there false blob writing (ap (λ b. b || false) (needed_container p q free needs))

  fits_put : q.ask.op ≡ op.PutBlob → (blob : Option (List ℕ)) (kept : Option Kept)
      → AllFit (option_and_then (λ name. option_map (λ kept. act.PutBlob (put_blob q t name kept)) kept) blob)
  fits_put is None kept = tt
  fits_put is (Some name) None = tt
  fits_put is (Some name) (Some kept) = fits_in_existing true (ap writes is) (ap needs_container is) refl

  fits_named : (make : List ℕ → Act) → ((name : List ℕ) → fits p (make name) ≡ true) → (blob : Option (List ℕ)) → AllFit (option_map make blob)
  fits_named make each None = tt
  fits_named make each (Some name) = each name

  blob_of_name : (name : List ℕ) → q.ask.blob ≡ Some name → target_blob p q.ask ≡ blob_in p name
  blob_of_name name named = ap (λ (o : Option (List ℕ)). unwrap_or (option_map (blob_in p) o) no_blob) named

  block_fits : (name id : List ℕ) → q.ask.blob ≡ Some name → q.ask.args.block ≡ Some id → block_fault id (blob_in p name).uncommitted ≡ None
  block_fits name id named given = ap (λ (b : Blob ℕ). block_fault id b.uncommitted) (sym (blob_of_name name named)) ∙ put_block_fits p q free id given

  fits_put_block : q.ask.op ≡ op.PutBlock → (blob id : Option (List ℕ)) → q.ask.blob ≡ blob → q.ask.args.block ≡ id
      → AllFit (option_and_then (λ name. option_map (λ id. act.PutBlock (put_block q name id)) id) blob)
  fits_put_block is None id named given = tt
  fits_put_block is (Some name) None named given = tt
  fits_put_block is (Some name) (Some id) named given =
      fits_in_existing (is_none (block_fault id (blob_in p name).uncommitted)) (ap writes is) (ap needs_container is)
      (ap is_none (block_fits name id named given))

  -- the list of the entries that are found has no fault, since the list of the wanted blocks has none
  entries_fit : (name : List ℕ) → q.ask.blob ≡ Some name → entries_fault (blob_in p name) (found_entries (blob_in p name) (wanted_blocks q)) ≡ None
  entries_fit name named =
      let ws = wanted_blocks q in
      let b = blob_in p name in
      let size = listed_size b (found_entries b ws) in
      let wanted : list_fault (first_missing b ws) (length ws) size ≡ None =
      ap (λ (b : Blob ℕ). list_fault (first_missing b ws) (length ws) (listed_size b (found_entries b ws))) (sym (blob_of_name name named)) ∙ wanted_list_fits p q free in
      let all : first_missing b ws ≡ None = all_found (first_missing b ws) (length ws) size wanted in
      (λ i. list_fault ((first_absent-found_entries b ws ∙ sym all) i) (length-found_entries b ws all i) size) ∙ wanted

  fits_list : q.ask.op ≡ op.PutBlockList → (blob : Option (List ℕ)) (kept : Option Kept) → q.ask.blob ≡ blob
      → AllFit (option_and_then (λ name. option_map (λ kept. act.PutBlockList (put_block_list (blob_in p name) q t name kept)) kept) blob)
  fits_list is None kept named = tt
  fits_list is (Some name) None named = tt
  fits_list is (Some name) (Some kept) named =
      fits_in_existing (is_none (entries_fault (blob_in p name) (found_entries (blob_in p name) (wanted_blocks q)))) (ap writes is) (ap needs_container is)
      (ap is_none (entries_fit name named))

  fits_by : (o : Op) → q.ask.op ≡ o → AllFit (act_by o p q t)
  fits_by op.CreateContainer is = fits_if_there true true (ap writes is) (or_true (is_some p.standing)) refl
  fits_by op.SetContainerMetadata is = fits_in_existing true (ap writes is) (ap needs_container is) refl
  fits_by op.SetAcl is = fits_in_existing true (ap writes is) (ap needs_container is) refl
  fits_by op.DeleteContainer is = fits_in_existing true (ap writes is) (ap needs_container is) refl
  fits_by op.PutBlob is = fits_put is q.ask.blob q.ask.args.kept
  fits_by op.SetMetadata is =
      fits_named (λ name. act.SetMetadata (set_metadata q t name)) (λ name. fits_in_existing true (ap writes is) (ap needs_container is) refl) q.ask.blob
  fits_by op.DeleteBlob is = fits_named (λ name. act.DeleteBlob (delete_blob name)) (λ name. fits_in_existing true (ap writes is) (ap needs_container is) refl) q.ask.blob
  fits_by op.PutBlock is = fits_put_block is q.ask.blob q.ask.args.block refl refl
  fits_by op.PutBlockList is = fits_list is q.ask.blob q.ask.args.kept refl
  fits_by other is = tt

  -- the change of a request that no rule of the object refuses fits
  pub change_of-fits : IfSome (change_of p q t) (λ c. IsTrue (fits p c.act))
  change_of-fits = fits_by q.ask.op refl

key_of_change : (k : Key) (o : Option Act) (c : KeyedAct) → option_map (λ a. record { key = k; act = a }) o ≡ Some c → k ≡ c.key
key_of_change k None c h = cc
key_of_change k (Some a) c h = ap (λ (o : Option KeyedAct). (unwrap_or o c).key) h

-- the change of a request that no rule of the object refuses is under the key of the request, and fits its container
pub change_fits : (p : Part ℕ) (q : Asked) (t : ℕ) (c : KeyedAct) → object_refusal p q ≡ None → change_of p q t ≡ Some c
    → (c.key ≡ q.ask.key) × IsTrue (fits p c.act)
change_fits p q t c free change =
    (sym (key_of_change q.ask.key (act_by q.ask.op p q t) c change), subst (λ (o : Option KeyedAct). IfSome o (λ c. IsTrue (fits p c.act))) change (change_of-fits p q t free))

-- the same if the change was made, or else memory ran out
pub made_change_fits : (p : Part ℕ) (q : Asked) (t : ℕ) (made : Result KeyedAct AllocError)
    → object_refusal p q ≡ None → IfOk made (λ c. change_of p q t ≡ Some c) → IfOk made (λ c. (c.key ≡ q.ask.key) × IsTrue (fits p c.act))
made_change_fits p q t (Ok c) free change = change_fits p q t c free change
made_change_fits p q t (Err fault) free change = tt
