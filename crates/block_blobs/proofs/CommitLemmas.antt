-- What a commit makes of the blocks that were found for a list.
use Rattle.std.proofs.Common.{◌≡◌, ◌≤◌, ℕ, true, false, List, Option, Some, None, length, map, nat_lt, refl, sym, ap, subst, ◌∙◌, arith}
use Rattle.std.specs.FinMap.{entries}
use Rattle.std.proofs.lemmas.List.{length-map}
use Rattle.std.specs.Prelude.{if◌then◌else◌}
use Rattle.stamp_values.specs.declared.block.Taken.{Taken}
use Rattle.stamp_types.specs.declared.committed.Block.{Block}
use Rattle.stamp_types.specs.declared.piece.Piece.{Piece}
use Rattle.stamp_types.specs.Changes.{are_blocks}
use Rattle.stamp_types.specs.World.{Blob, taken_blocks}
use Rattle.block_blobs.specs.BlockLists.{EachInOnePiece, all_entries, block_of_entry, first_absent, list_fault, listed_len, named_blocks, taken_fault, uncommitted_taken, unnamed_blocks}
use Rattle.block_blobs.specs.declared.block_fault.BlockFault.TheVariants as fault
use Rattle.block_blobs.specs.FoundBlocks.{IsContentOf}
use Rattle.block_blobs.specs.declared.found_blocks.ListContent.{ListContent}
use Rattle.block_blobs.specs.declared.found_blocks.ListContent.TheVariants as content
use Rattle.block_blobs.proofs.ListLemmas.{are_blocks_taken, named_unnamed, nothing_missing}
use Rattle.block_blobs.proofs.WholeLists.{taken_blocks-all_entries}

-- a list that has no fault is within the limits
within_limits : (o : Option ℕ) (n len : ℕ) → list_fault o n len ≡ None → (n ≤ 50000) × (len ≤ 268435456)
within_limits (Some i) n len fits = cc
within_limits None n len fits =
    elim (nat_lt 50000 n) as (λ b. nat_lt 50000 n ≡ b → (if b then Some fault.TooMany else (if nat_lt 268435456 len then Some fault.TooLarge else None)) ≡ None → (n ≤ 50000) × (len ≤ 268435456)) [
      | true ↦ λ is h. cc
      | false ↦ λ few h. elim (nat_lt 268435456 len) as (λ b. nat_lt 268435456 len ≡ b → (if b then Some fault.TooLarge else None) ≡ None → (n ≤ 50000) × (len ≤ 268435456)) [
        | true ↦ λ is h. cc
        | false ↦ λ short h. (grind (arith, few), grind (arith, short))
      ] refl h
    ] refl fits

module _ (b : Blob (List Piece)) (ts : List Taken) (fits : taken_fault b ts ≡ None) where
  -- the blocks that a list without a fault takes are blocks of content
  pub taken_are_blocks : EachInOnePiece b → (bs : List (Block (List Piece))) → bs ≡ taken_blocks b ts → are_blocks bs ≡ true
  taken_are_blocks pieces bs taken =
      let within = within_limits (first_absent b ts) (length ts) (listed_len b ts) fits in
      ap are_blocks taken ∙ are_blocks_taken b pieces ts within.0 within.1

  module _ (c : ListContent) (is : IsContentOf b ts c) where
    -- the blocks that were found, with the ids of the entries, are the blocks that the list takes
    pub named_are_taken : (bs named : List (Block (List Piece))) → c ≡ content.Blocks bs → named ≡ named_blocks ts bs → named ≡ taken_blocks b ts
    named_are_taken bs named these with_ids =
        let found : bs ≡ unnamed_blocks b ts = subst (IsContentOf b ts) these is in
        with_ids ∙ ap (named_blocks ts) found ∙ named_unnamed b ts (nothing_missing (first_absent b ts) (length ts) (listed_len b ts) fits)

    module _ (room : ℕ) (all : c ≡ content.AllUncommitted room) where
      all_are : (ts ≡ all_entries b) × (length ts ≤ room)
      all_are = subst (IsContentOf b ts) all is

      -- there is room for all uncommitted blocks
      pub room_for_all : length (entries b.uncommitted) ≤ room
      room_for_all = omega (arith, all_are.1, ap (λ (us : List Taken). length us) all_are.0, length-map (entries b.uncommitted) uncommitted_taken)

      -- the uncommitted blocks, with their ids, are the blocks that the list takes
      pub moved_are_taken : (bs : List (Block (List Piece))) (es : List (List ℕ × List Piece)) → es ≡ entries b.uncommitted → bs ≡ map block_of_entry es → bs ≡ taken_blocks b ts
      moved_are_taken bs es left moved = moved ∙ ap (map block_of_entry) left ∙ sym (taken_blocks-all_entries b) ∙ ap (taken_blocks b) (sym all_are.0)
