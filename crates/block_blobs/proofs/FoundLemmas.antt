-- What was found for a list, and the entries that are made of its sources.
use Rattle.std.proofs.Common.{◌≡◌, List, length, None, sym, ap, ◌∙◌, subst}
use Rattle.stamp_values.specs.declared.block.Taken.{Taken}
use Rattle.stamp_values.specs.declared.block.Wanted.{Wanted}
use Rattle.stamp_types.specs.declared.piece.Piece.{Piece}
use Rattle.stamp_types.specs.World.{Blob}
use Rattle.block_blobs.specs.BlockLists.{entries_from, first_missing, found_entries, found_sources, listed_len, taken_fault, wanted_fault}
use Rattle.block_blobs.specs.FoundBlocks.{AreBlocksOf}
use Rattle.block_blobs.specs.ResolvedLists.{found_for}
use Rattle.block_blobs.specs.declared.found_blocks.FoundBlocks.{FoundBlocks}
use Rattle.block_blobs.proofs.ListLemmas.{entries_from_found, nothing_missing, taken_fault-found_entries}
use Rattle.block_blobs.proofs.WholeLists.{found_are_blocks}

module _ (b : Blob (List Piece)) (ws : List Wanted) (fits : wanted_fault b ws ≡ None) (ts : List Taken) (from : ts ≡ entries_from ws (found_sources b ws)) where
  entries_are : ts ≡ found_entries b ws
  entries_are = from ∙ entries_from_found b ws (nothing_missing (first_missing b ws) (length ws) (listed_len b (found_entries b ws)) fits)

  -- the entries that are made of the sources of a list without a fault have no fault
  pub resolved_fits : taken_fault b ts ≡ None
  resolved_fits = ap (taken_fault b) entries_are ∙ taken_fault-found_entries b ws fits

  -- what is found for such a list are the blocks of these entries
  pub resolved_found : (found : FoundBlocks) → found ≡ found_for b ws → AreBlocksOf b ts found
  resolved_found found is = subst (λ (s : List Taken × FoundBlocks). AreBlocksOf b s.0 s.1) (λ i. (sym entries_are i, sym is i)) (found_are_blocks b ws)
