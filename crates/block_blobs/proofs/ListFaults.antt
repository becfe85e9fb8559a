-- How many bytes the blocks of a list have.
use Rattle.std.proofs.Common.{◌≡◌, ℕ, ◌+◌, List, [], ◌∷◌, Option, Some, None, refl, sym, ap, subst, ◌∙◌}
use Rattle.std.specs.Option.{option_map, option_to_list}
use Rattle.std.proofs.lemmas.List.Sums.{sum_by-append}
use Rattle.stamp_values.specs.declared.block.Taken.{Taken}
use Rattle.stamp_types.specs.declared.committed.Block.{Block}
use Rattle.stamp_types.specs.declared.piece.Piece.{Piece}
use Rattle.stamp_types.specs.Pieces.{pieces_len}
use Rattle.stamp_types.specs.Changes.{blocks_len}
use Rattle.stamp_types.specs.World.{Blob, block_of, content_from, taken_blocks, whole_block}
use Rattle.block_blobs.specs.BlockLists.{unnamed_blocks}
use Rattle.block_blobs.specs.FoundBlocks.{AreBlocksOf, these_blocks}
use Rattle.block_blobs.specs.declared.found_blocks.FoundBlocks.{FoundBlocks}

one_len : (id : List ℕ) (o : Option (List Piece)) → blocks_len (option_to_list (option_map whole_block o)) ≡ blocks_len (option_to_list (option_map (block_of id) o))
one_len id None = refl
one_len id (Some content) = refl

-- the blocks that a list takes have as many bytes without their ids as with their ids
pub unnamed_len : (b : Blob (List Piece)) (ts : List Taken) → blocks_len (unnamed_blocks b ts) ≡ blocks_len (taken_blocks b ts)
unnamed_len b [] = refl
unnamed_len b (t ∷ ts) =
    let size : Block (List Piece) → ℕ = λ block. pieces_len block.content in
    let o = content_from t.from t.id b in
    sum_by-append size (option_to_list (option_map whole_block o)) (unnamed_blocks b ts)
    ∙ (λ i. one_len t.id o i + unnamed_len b ts i)
    ∙ sym (sum_by-append size (option_to_list (option_map (block_of t.id) o)) (taken_blocks b ts))

-- blocks that were found one by one for the entries are the blocks of the list
pub each_listed : (b : Blob (List Piece)) (ts : List Taken) (bs : List (Block (List Piece))) (f : FoundBlocks) → f ≡ these_blocks bs → bs ≡ unnamed_blocks b ts → AreBlocksOf b ts f
each_listed b ts bs f is found = subst (AreBlocksOf b ts) (sym is) (found, ap blocks_len found ∙ unnamed_len b ts)
