-- Content that is put before its change is logged.
use Rattle.std.proofs.Common.{◌≡◌, ◌∙◌, Option, Some, None, IsSome, IsSomeAnd, List, map, refl, subst, sym}
use Rattle.extent_node.specs.Copies.{Block}
use Rattle.stamp_types.specs.Changes.{KeyedAct, change_with, content_of}
use Rattle.stamp_types.specs.Pieces.{piece_len}
use Rattle.stamp_types.specs.declared.piece.Piece.{Piece}
use Rattle.partition_stream.specs.Contents.{AreStored}
use Rattle.partition_stream.specs.Storing.{IsStoredChange}
use Rattle.partition_stream.proofs.ContentLemmas.{changed_content}

there : (o : Option (List Piece)) (placed : List Piece) → IsSomeAnd o (λ ps. map piece_len ps ≡ map piece_len placed) → IsSome o
there (Some ps) placed same = refl
there None placed same = absurd same

-- the change has content that is stored
pub stored_placed : (es : List (List Block)) (c d : KeyedAct) (placed : List Piece) → d ≡ change_with c placed → AreStored es placed
    → IsSomeAnd (content_of c.act) (λ ps. map piece_len ps ≡ map piece_len placed) → IsStoredChange es d
stored_placed es c d placed is stored same =
    subst (λ (d : KeyedAct). IsStoredChange es d) (sym is) (changed_content es c placed (there (content_of c.act) placed same) stored)

-- content that is stored has the lengths of the content of the change
pub as_long : (o : Option (List Piece)) (content placed : List Piece) → map piece_len placed ≡ map piece_len content
    → IsSomeAnd o (λ ps. map piece_len ps ≡ map piece_len content) → IsSomeAnd o (λ ps. map piece_len ps ≡ map piece_len placed)
as_long (Some ps) content placed lengths same = same ∙ sym lengths
as_long None content placed lengths same = absurd same
