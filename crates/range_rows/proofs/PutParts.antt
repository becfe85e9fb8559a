-- Limits that the parts of a Put Blob, of a block and of a blob keep.
use Rattle.std.proofs.Common.{◌≡◌, ℕ, zero, suc, ◌+◌, ◌≤◌, true, false, ◌&&◌, nat_le, nat_lt, Option, Some, None, List, [], ◌∷◌, drop, arith, le-leb, leb-true, length, refl, ap, ◌∙◌, subst}
use Rattle.std.proofs.lemmas.Bool.{and_from, and_parts}
use Rattle.std.proofs.lemmas.List.{drop_all}
use Rattle.std.specs.List.{list_all}
use Rattle.std.specs.Prelude.{if◌then◌else◌}
use Rattle.stamp_values.specs.declared.block.Wanted.{Wanted}
use Rattle.stamp_types.specs.declared.args.Args.{Args}
use Rattle.stamp_types.specs.declared.args.Kept.{Kept}
use Rattle.stamp_types.specs.declared.committed.Block.{Block}
use Rattle.stamp_types.specs.declared.piece.Piece.{Piece}
use Rattle.stamp_types.specs.Changes.{are_blocks, blocks_len, is_block, is_in_one_piece, has_ids_or_one}
use Rattle.stamp_types.specs.Pieces.{cut, cut_at_most}
use Rattle.stamp_types.specs.PropsFields.{is_kept}
use Rattle.stamp_types.specs.Requests.{args_len, kept_len}
use Rattle.stamp_types.specs.World.{Blob}
use Rattle.block_blobs.specs.BlockLists.{first_missing, found_entries, list_fault, listed_len, wanted_fault}
use Rattle.block_blobs.specs.declared.block_fault.BlockFault.TheVariants as fault
use Rattle.block_blobs.proofs.ListLemmas.{length-found_entries}

all_short : (w x y z : ℕ) → w + x + y + z ≤ 16384 → (nat_le w 16384 && nat_le x 16384 && nat_le y 16384 && nat_le z 16384) ≡ true
all_short w x y z short =
    let a = le-leb w 16384 (omega (arith, short)) in
    let b = le-leb x 16384 (omega (arith, short)) in
    let c = le-leb y 16384 (omega (arith, short)) in
    let d = le-leb z 16384 (omega (arith, short)) in
    and_from _ _ (and_from _ _ (and_from _ _ a b) c) d

-- texts that have at most 16,384 bytes together have at most 16,384 bytes each
pub kept_fits : (a : Args) (k : Kept) → a.kept ≡ Some k → args_len a ≤ 16384 → is_kept k ≡ true
kept_fits a k given short =
    all_short (length k.content_type) (length k.encoding) (length k.language) (length k.cache_control)
    (subst (λ o. kept_len o ≤ 16384) given (omega (arith, short)))

-- blocks have at most 268,435,456 bytes together
pub within_blob : (bs : List (Block (List Piece))) → are_blocks bs ≡ true → blocks_len bs ≤ 268435456
within_blob bs are =
    leb-true (blocks_len bs) 268435456 (and_parts (nat_le (length bs) 50000 && list_all is_block bs && has_ids_or_one bs) (nat_le (blocks_len bs) 268435456) are).1

cut_nothing : (n : ℕ) → cut_at_most n [] ≡ []
cut_nothing zero = refl
cut_nothing (suc n) = refl

-- a block of at most 4,194,304 bytes is in one piece, or in no piece if it is empty
pub cut_in_one_piece : (bytes : List ℕ) → length bytes ≤ 4194304 → is_in_one_piece (cut bytes) ≡ true
cut_in_one_piece [] short = refl
cut_in_one_piece (b ∷ bs) short =
    let rest : cut_at_most (length bs) (drop 4194304 (b ∷ bs)) ≡ [] = ap (cut_at_most (length bs)) (drop_all 4194304 (b ∷ bs) short) ∙ cut_nothing (length bs) in
    ap (λ (ps : List Piece). nat_le (suc (length ps)) 1) rest

within_count : (o : Option ℕ) (n len : ℕ) → list_fault o n len ≡ None → nat_le n 50000 ≡ true
within_count (Some i) n len fits = cc
within_count None n len fits =
    elim (nat_lt 50000 n) as (λ b. nat_lt 50000 n ≡ b → (if b then Some fault.TooMany else (if nat_lt 268435456 len then Some fault.TooLarge else None)) ≡ None → nat_le n 50000 ≡ true) [
      | true ↦ λ is h. cc
      | false ↦ λ is h. grind (arith, is)
    ] refl fits

-- no wanted block is missing, if the list has no fault
pub all_found : (o : Option ℕ) (n len : ℕ) → list_fault o n len ≡ None → o ≡ None
all_found (Some i) n len fits = cc
all_found None n len fits = refl

-- the entries of a list that has no fault are at most 50,000
pub few_entries : (b : Blob (List Piece)) (ws : List Wanted) → wanted_fault b ws ≡ None → nat_le (length (found_entries b ws)) 50000 ≡ true
few_entries b ws fits =
    let len = listed_len b (found_entries b ws) in
    let all = all_found (first_missing b ws) (length ws) len fits in
    ap (λ n. nat_le n 50000) (length-found_entries b ws all) ∙ within_count (first_missing b ws) (length ws) len fits
