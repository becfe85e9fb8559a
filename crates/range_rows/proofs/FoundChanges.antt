-- The blocks that were found for a request are those that its change commits.
use Rattle.std.proofs.Common.{◌≡◌, ℕ, List, Option, Some, None, unwrap_or, refl, sym, ap, ◌∙◌, subst}
use Rattle.std.specs.Prelude.{IfSome, IfOk, Result, Ok, Err}
use Rattle.std.specs.declared.alloc.AllocError.{AllocError}
use Rattle.std.specs.Option.{option_map, option_and_then}
use Rattle.stamp_values.specs.declared.block.Taken.{Taken}
use Rattle.stamp_values.specs.declared.op.Op.{Op}
use Rattle.stamp_values.specs.declared.op.Op.TheVariants as op
use Rattle.stamp_types.specs.declared.act.Act.{Act}
use Rattle.stamp_types.specs.declared.act.Act.TheVariants as act
use Rattle.stamp_types.specs.declared.args.Kept.{Kept}
use Rattle.stamp_types.specs.declared.piece.Piece.{Piece}
use Rattle.stamp_types.specs.Changes.{KeyedAct}
use Rattle.stamp_types.specs.Pieces.{pieces_len}
use Rattle.stamp_types.specs.Requests.{Asked}
use Rattle.stamp_types.specs.World.{Blob, Part, blob_in, no_blob}
use Rattle.block_blobs.specs.BlockLists.{found_entries}
use Rattle.block_blobs.specs.FoundBlocks.{AreBlocksOf}
use Rattle.block_blobs.specs.ResolvedLists.{found_for}
use Rattle.block_blobs.specs.declared.resolved.Resolved.{Resolved}
use Rattle.block_blobs.proofs.WholeLists.{found_are_blocks}
use Rattle.row_trees.specs.FoundParts.{sizes_found}
use Rattle.row_trees.specs.ListedBlocks.{AreFoundFor}
use Rattle.row_trees.proofs.BlockFits.{found_entries-blob_value}
use Rattle.range_rows.specs.Judgements.{blocks_found}
use Rattle.range_rows.specs.NamedBlobs.{target_blob}
use Rattle.range_rows.specs.Readings.{wanted_blocks}
use Rattle.range_rows.specs.RequestChanges.{act_by, change_of, delete_blob, put_blob, put_block, put_block_list, set_metadata}
use Rattle.range_rows.proofs.BlockLemmas.{sizes_of_blob}

module _ (p : Part (List Piece)) (q : Asked) (t : ℕ) where
  abbrev FoundForAct : Option Act → Type 0
  FoundForAct o = IfSome o (λ a. AreFoundFor p a (blocks_found p q).blocks)

  -- the blocks that were found are those of the entries, in the blob of this name
  found_in_blob : (name : List ℕ) → q.ask.blob ≡ Some name
      → AreBlocksOf (blob_in p name) (found_entries (blob_in (sizes_found p) name) (wanted_blocks q)) (found_for (target_blob p q.ask) (wanted_blocks q))
  found_in_blob name named =
      let ws = wanted_blocks q in
      let blob : target_blob p q.ask ≡ blob_in p name = ap (λ (o : Option (List ℕ)). unwrap_or (option_map (blob_in p) o) no_blob) named in
      let entries : found_entries (target_blob p q.ask) ws ≡ found_entries (blob_in (sizes_found p) name) ws =
      ap (λ (b : Blob (List Piece)). found_entries b ws) blob
      ∙ sym (found_entries-blob_value pieces_len (blob_in p name) ws)
      ∙ ap (λ (b : Blob ℕ). found_entries b ws) (sym (sizes_of_blob p name)) in
      subst (λ (s : Blob (List Piece) × List Taken). AreBlocksOf s.0 s.1 (found_for (target_blob p q.ask) ws)) (λ i. (blob i, entries i)) (found_are_blocks (target_blob p q.ask) ws)

  found_for_list : (blob : Option (List ℕ)) (kept : Option Kept) → q.ask.blob ≡ blob
      → FoundForAct (option_and_then (λ name. option_map (λ kept. act.PutBlockList (put_block_list (blob_in (sizes_found p) name) q t name kept)) kept) blob)
  found_for_list None kept named = tt
  found_for_list (Some name) None named = tt
  found_for_list (Some name) (Some kept) named = found_in_blob name named

  found_by : (o : Op) → FoundForAct (act_by o (sizes_found p) q t)
  found_by op.CreateContainer = tt
  found_by op.SetContainerMetadata = tt
  found_by op.SetAcl = tt
  found_by op.DeleteContainer = tt
  found_by op.SetMetadata = by_name q.ask.blob
    where
      by_name : (blob : Option (List ℕ)) → FoundForAct (option_map (λ name. act.SetMetadata (set_metadata q t name)) blob)
      by_name None = tt
      by_name (Some name) = tt
  found_by op.DeleteBlob = by_name q.ask.blob
    where
      by_name : (blob : Option (List ℕ)) → FoundForAct (option_map (λ name. act.DeleteBlob (delete_blob name)) blob)
      by_name None = tt
      by_name (Some name) = tt
  found_by op.PutBlob = by_parts q.ask.blob q.ask.args.kept
    where
      by_parts : (blob : Option (List ℕ)) (kept : Option Kept) → FoundForAct (option_and_then (λ name. option_map (λ kept. act.PutBlob (put_blob q t name kept)) kept) blob)
      by_parts None kept = tt
      by_parts (Some name) None = tt
      by_parts (Some name) (Some kept) = tt
  found_by op.PutBlock = by_parts q.ask.blob q.ask.args.block
    where
      by_parts : (blob : Option (List ℕ)) (id : Option (List ℕ)) → FoundForAct (option_and_then (λ name. option_map (λ id. act.PutBlock (put_block q name id)) id) blob)
      by_parts None id = tt
      by_parts (Some name) None = tt
      by_parts (Some name) (Some id) = tt
  found_by op.PutBlockList = found_for_list q.ask.blob q.ask.args.kept refl
  found_by other = tt

  abbrev on_key : Act → KeyedAct
  on_key a = record { key = q.ask.key; act = a }

  keyed : (a : Option Act) (c : KeyedAct) → FoundForAct a → option_map on_key a ≡ Some c
      → (c.key ≡ q.ask.key) × AreFoundFor p c.act (blocks_found p q).blocks
  keyed None c found e = cc
  keyed (Some a) c found e =
      let same : on_key a ≡ c = ap (λ (o : Option KeyedAct). unwrap_or o c) e in
      (sym (ap (λ (c : KeyedAct). c.key) same), subst (λ (c : KeyedAct). AreFoundFor p c.act (blocks_found p q).blocks) same found)

  -- the blocks that were found for a request were found for its change, which is under the key of the request
  pub found_for_change : (c : KeyedAct) → change_of (sizes_found p) q t ≡ Some c → (c.key ≡ q.ask.key) × AreFoundFor p c.act (blocks_found p q).blocks
  found_for_change c change = keyed (act_by q.ask.op (sizes_found p) q t) c (found_by q.ask.op) change

  -- the same if the change was made, or else memory ran out
  pub made_change_found : (found : Resolved) (made : Result KeyedAct AllocError) → found ≡ blocks_found p q → IfOk made (λ c. change_of (sizes_found p) q t ≡ Some c)
      → IfOk made (λ c. AreFoundFor p c.act found.blocks)
  made_change_found found (Ok c) is change = subst (λ (r : Resolved). AreFoundFor p c.act r.blocks) (sym is) (found_for_change c change).1
  made_change_found found (Err fault) is change = tt
