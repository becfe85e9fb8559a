-- What a change does to the blobs of a container, as what it does to its blob.
use Rattle.std.proofs.Common.{◌≡◌, ℕ, List, Option, Some, None, unwrap_or, refl, sym, ap, ◌∙◌}
use Rattle.std.specs.Option.{option_map}
use Rattle.std.specs.FinMap.{get}
use Rattle.stamp_values.specs.Order.{names_exact, names_total}
use Rattle.stamp_values.proofs.TreeMaps.{insert_same}
use Rattle.stamp_types.specs.declared.act.Act.TheVariants as act
use Rattle.stamp_types.specs.declared.act.SetMetadata.{SetMetadata}
use Rattle.stamp_types.specs.declared.committed.Committed.{Committed}
use Rattle.stamp_types.specs.declared.piece.Piece.{Piece}
use Rattle.stamp_types.specs.World.{Blob, Part, blobs_after, committed_with_metadata, no_blob, same_pieces, with_blob, with_committed}
use Rattle.block_blobs.specs.BlobChanges.{blob_with_metadata}

module _ (n : ℕ) (a : SetMetadata) (p : Part (List Piece)) where
  put_back : (b : Blob (List Piece)) (c : Option (Committed (List Piece))) → b.committed ≡ c → get p.blobs a.blob ≡ Some b
      → with_blob p a.blob (record { committed = option_map (committed_with_metadata n a) c; uncommitted = b.uncommitted })
      ≡ with_committed p a.blob (option_map (committed_with_metadata n a) c)
  put_back b None none has = insert_same names_total names_exact p.blobs a.blob _ (has ∙ (λ i. Some (record { committed = none i; uncommitted = b.uncommitted })))
  put_back b (Some c) some has = ap (λ (o : Option (Blob (List Piece))). with_blob p a.blob (record { committed = Some (committed_with_metadata n a c); uncommitted = (unwrap_or o no_blob).uncommitted })) (sym has)

  -- a Set Blob Metadata of a blob that the container has changes this blob's metadata
  pub blobs_after_set_metadata : (b : Blob (List Piece)) → get p.blobs a.blob ≡ Some b
      → blobs_after same_pieces n (act.SetMetadata a) p ≡ with_blob p a.blob (blob_with_metadata n a b)
  blobs_after_set_metadata b has =
      sym (put_back b b.committed refl has
      ∙ ap (λ (o : Option (Blob (List Piece))). with_committed p a.blob (option_map (committed_with_metadata n a) (unwrap_or o no_blob).committed)) (sym has))

  -- a Set Blob Metadata of a blob that never was changes nothing
  pub blobs_after_set_metadata_absent : get p.blobs a.blob ≡ None → blobs_after same_pieces n (act.SetMetadata a) p ≡ p.blobs
  blobs_after_set_metadata_absent none =
      ap (λ (o : Option (Blob (List Piece))). with_committed p a.blob (option_map (committed_with_metadata n a) (unwrap_or o no_blob).committed)) none
