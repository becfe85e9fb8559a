-- What Put Block and Put Block List do to the blobs of a container, by the row of their blob.
use Rattle.std.proofs.Common.{◌≡◌, ℕ, List, Option, Some, None, unwrap_or, sym, ap, subst, ◌∙◌}
use Rattle.std.specs.FinMap.{get, insert}
use Rattle.stamp_values.specs.Order.{names_exact, names_total}
use Rattle.stamp_values.specs.declared.block.Taken.{Taken}
use Rattle.stamp_values.proofs.TreeMaps.{insert_same}
use Rattle.stamp_types.specs.declared.act.Act.TheVariants as act
use Rattle.stamp_types.specs.declared.act.PutBlock.{PutBlock}
use Rattle.stamp_types.specs.declared.act.PutBlockList.{PutBlockList}
use Rattle.stamp_types.specs.declared.piece.Piece.{Piece}
use Rattle.stamp_types.specs.World.{Blob, Part, blob_in, blobs_after, no_blob, same_pieces, with_blob}
use Rattle.block_blobs.specs.BlobChanges.{blob_of_list, blob_with_block}
use Rattle.block_blobs.specs.BlockLists.{taken_fault}
use Rattle.block_blobs.specs.FoundBlocks.{AreBlocksOf}
use Rattle.block_blobs.specs.declared.found_blocks.FoundBlocks.{FoundBlocks}

module _ (p : Part (List Piece)) (name : List ℕ) where
  -- the blob of a name that has a row
  pub blob_of_row : (b : Blob (List Piece)) → get p.blobs name ≡ Some b → blob_in p name ≡ b
  blob_of_row b has = ap (λ (o : Option (Blob (List Piece))). unwrap_or o no_blob) has

  -- the blob of a name that has no row
  pub blob_without_row : get p.blobs name ≡ None → blob_in p name ≡ no_blob
  blob_without_row none = ap (λ (o : Option (Blob (List Piece))). unwrap_or o no_blob) none

  -- a row that stays as it was leaves the blobs as they were
  pub same_row : (b : Blob (List Piece)) → get p.blobs name ≡ Some b → insert p.blobs name b ≡ p.blobs
  same_row b has = insert_same names_total names_exact p.blobs name b has

  -- a list that fits a blob without a row fits a blob that never was
  pub list_fits_no_blob : (ts : List Taken) → get p.blobs name ≡ None → taken_fault (blob_in p name) ts ≡ None → taken_fault (no_blob {C = List Piece}) ts ≡ None
  list_fits_no_blob ts none fits = ap (λ b. taken_fault b ts) (sym (blob_without_row none)) ∙ fits

  -- blocks that were found in the blob of a name were found in the blob of its row
  pub found_in_row : (b : Blob (List Piece)) (f : FoundBlocks) (ts : List Taken) → get p.blobs name ≡ Some b → AreBlocksOf (blob_in p name) ts f → AreBlocksOf b ts f
  found_in_row b f ts has found = subst (λ b. AreBlocksOf b ts f) (blob_of_row b has) found

  -- blocks that were found in a blob without a row were found in a blob that never was
  pub found_in_no_blob : (f : FoundBlocks) (ts : List Taken) → get p.blobs name ≡ None → AreBlocksOf (blob_in p name) ts f → AreBlocksOf no_blob ts f
  found_in_no_blob f ts none found = subst (λ b. AreBlocksOf b ts f) (blob_without_row none) found

module _ (n : ℕ) (a : PutBlock) (p : Part (List Piece)) where
  -- a Put Block on a name that has a row changes this row's blob
  pub block_on_row : (b : Blob (List Piece)) → get p.blobs a.blob ≡ Some b
      → blobs_after same_pieces n (act.PutBlock a) p ≡ with_blob p a.blob (blob_with_block a.id a.content b)
  block_on_row b has = ap (λ (b : Blob (List Piece)). with_blob p a.blob (blob_with_block a.id a.content b)) (blob_of_row p a.blob b has)

  -- a Put Block on a name that has no row makes a blob of this block alone
  pub block_without_row : get p.blobs a.blob ≡ None
      → blobs_after same_pieces n (act.PutBlock a) p ≡ with_blob p a.blob (blob_with_block a.id a.content no_blob)
  block_without_row none = ap (λ (b : Blob (List Piece)). with_blob p a.blob (blob_with_block a.id a.content b)) (blob_without_row p a.blob none)

module _ (n : ℕ) (a : PutBlockList) (p : Part (List Piece)) where
  -- a Put Block List on a name that has a row changes this row's blob
  pub list_on_row : (b : Blob (List Piece)) → get p.blobs a.blob ≡ Some b
      → blobs_after same_pieces n (act.PutBlockList a) p ≡ with_blob p a.blob (blob_of_list n a b)
  list_on_row b has = ap (λ (b : Blob (List Piece)). with_blob p a.blob (blob_of_list n a b)) (blob_of_row p a.blob b has)

  -- a Put Block List on a name that has no row makes a blob
  pub list_without_row : get p.blobs a.blob ≡ None
      → blobs_after same_pieces n (act.PutBlockList a) p ≡ with_blob p a.blob (blob_of_list n a no_blob)
  list_without_row none = ap (λ (b : Blob (List Piece)). with_blob p a.blob (blob_of_list n a b)) (blob_without_row p a.blob none)
