-- The entries of an allowed Put Block List.
use Rattle.std.proofs.Common.{◌≡◌, ℕ, List, None, length, sym, ap, ◌∙◌}
use Rattle.std.specs.Prelude.{Result, Ok, Err, IfOk, IsTrue, nat_le}
use Rattle.std.specs.declared.alloc.AllocError.{AllocError}
use Rattle.stamp_values.specs.declared.block.BlockSource.{BlockSource}
use Rattle.stamp_values.specs.declared.block.Taken.{Taken}
use Rattle.stamp_types.specs.declared.piece.Piece.{Piece}
use Rattle.stamp_types.specs.Pieces.{pieces_len}
use Rattle.stamp_types.specs.Requests.{Asked}
use Rattle.stamp_types.specs.World.{Blob, Part}
use Rattle.block_blobs.specs.BlockLists.{entries_from, first_missing, found_entries, listed_len}
use Rattle.block_blobs.proofs.ListLemmas.{entries_from_found}
use Rattle.row_trees.specs.FoundParts.{sizes_found}
use Rattle.range_rows.specs.Judgements.{blocks_found}
use Rattle.range_rows.specs.NamedBlobs.{target_blob}
use Rattle.range_rows.specs.ObjectRules.{object_refusal}
use Rattle.range_rows.specs.Readings.{wanted_blocks}
use Rattle.range_rows.proofs.Unrefused.{allowed_list}
use Rattle.row_trees.proofs.BlockFits.{found_entries-blob_value}
use Rattle.range_rows.proofs.BlockLemmas.{target_blob-part_value}
use Rattle.range_rows.proofs.PutParts.{all_found, few_entries}

module _ (p : Part (List Piece)) (q : Asked) (free : object_refusal (sizes_found p) q ≡ None) where
  -- the entries that are found over pieces are found over sizes
  entries_of_sizes : found_entries (target_blob p q.ask) (wanted_blocks q) ≡ found_entries (target_blob (sizes_found p) q.ask) (wanted_blocks q)
  entries_of_sizes =
      sym (found_entries-blob_value pieces_len (target_blob p q.ask) (wanted_blocks q))
      ∙ ap (λ (b : Blob ℕ). found_entries b (wanted_blocks q)) (sym (target_blob-part_value pieces_len p q.ask))

  -- the sources that were found give the entries of the list
  entries_of_target : (sources : List BlockSource) → sources ≡ (blocks_found p q).sources
      → entries_from (wanted_blocks q) sources ≡ found_entries (target_blob (sizes_found p) q.ask) (wanted_blocks q)
  entries_of_target sources is =
      let b = target_blob p q.ask in
      let ws = wanted_blocks q in
      let all = all_found (first_missing b ws) (length ws) (listed_len b (found_entries b ws)) (allowed_list p q free) in
      ap (entries_from ws) is ∙ entries_from_found b ws all ∙ entries_of_sizes

  -- the same if the list of entries was made, or else memory ran out
  pub made_entries : (sources : List BlockSource) (made : Result (List Taken) AllocError) → sources ≡ (blocks_found p q).sources
      → IfOk made (λ entries. entries ≡ entries_from (wanted_blocks q) sources)
      → IfOk made (λ entries. entries ≡ found_entries (target_blob (sizes_found p) q.ask) (wanted_blocks q))
  made_entries sources (Ok entries) is made = made ∙ entries_of_target sources is
  made_entries sources (Err fault) is made = tt

  -- the list has at most 50,000 entries
  pub made_few : (made : Result (List Taken) AllocError)
      → IfOk made (λ entries. entries ≡ found_entries (target_blob (sizes_found p) q.ask) (wanted_blocks q)) → IfOk made (λ entries. IsTrue (nat_le (length entries) 50000))
  made_few (Ok entries) made =
      ap (λ (entries : List Taken). nat_le (length entries) 50000) (made ∙ sym entries_of_sizes) ∙ few_entries (target_blob p q.ask) (wanted_blocks q) (allowed_list p q free)
  made_few (Err fault) made = tt
