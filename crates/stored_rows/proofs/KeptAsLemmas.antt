-- Changes as they are kept: with their content at places.
use Rattle.std.proofs.Common.{◌≡◌, ◌∙◌, false, ℕ, List, Option, Some, None, IsSome, IfSome, IsSomeAnd, map, sym, refl, subst}
use Rattle.extent_node.specs.Copies.{Block}
use Rattle.stamp_types.specs.ActKinds.{is_row}
use Rattle.stamp_types.specs.Changes.{KeyedAct, act_with, change_with, content_of}
use Rattle.stamp_types.specs.Contents.{EachActContent}
use Rattle.stamp_types.specs.Pieces.{held, piece_len}
use Rattle.stamp_types.specs.World.{Part}
use Rattle.stamp_types.specs.declared.act.Act.{Act}
use Rattle.stamp_types.specs.declared.act.Act.TheVariants as acts
use Rattle.stamp_types.specs.declared.piece.Piece.{Piece}
use Rattle.stamp_types.proofs.ContentReadings.{changed-alike, changed-act_with}
use Rattle.block_blobs.specs.declared.found_blocks.FoundBlocks.{FoundBlocks}
use Rattle.row_trees.specs.Fits.{fits}
use Rattle.row_trees.specs.ListedBlocks.{AreFoundFor}
use Rattle.partition_stream.specs.Contents.{ArePlaced, AreStored, content_at}
use Rattle.partition_stream.proofs.ContentLemmas.{changed_content}
use Rattle.stored_rows.specs.Logging.{IsPutAt, KeepsFound, with_placed}
use Rattle.stored_rows.specs.States.{IsKeptAs}

-- an act that comes without content brings none
pub no_content : (P : List Piece → Type 0) (a : Act) → is_row a ≡ false → content_of a ≡ None → EachActContent P a
no_content P (acts.PutBlob a) plain none = cc
no_content P (acts.PutBlock a) plain none = cc
no_content P (acts.StoredBlob a) plain none = cc
no_content P other plain none = tt

-- a change without content is kept as it is
pub kept_as_itself : (es : List (List Block)) (c : KeyedAct) → is_row c.act ≡ false → content_of c.act ≡ None → IsKeptAs es c c
kept_as_itself es c plain none = record {
  key = refl;
  stored = no_content (AreStored es) c.act plain none;
  bytes = λ p. changed-alike (content_at es) held p c.act (no_content (λ ps. content_at es ps ≡ held ps) c.act plain none);
  fits = λ p. refl;
}

-- whether an act fits does not depend on its content
fits-act_with : (p : Part ℕ) (a : Act) (ps : List Piece) → fits p (act_with a ps) ≡ fits p a
fits-act_with p (acts.PutBlob a) ps = refl
fits-act_with p (acts.PutBlock a) ps = refl
fits-act_with p other ps = refl

-- no content is part of a list
act_with_found : (p : Part (List Piece)) (a : Act) (ps : List Piece) (blocks : FoundBlocks) → AreFoundFor p a blocks → AreFoundFor p (act_with a ps) blocks
act_with_found p (acts.PutBlob a) ps blocks found = tt
act_with_found p (acts.PutBlock a) ps blocks found = tt
act_with_found p other ps blocks found = found

-- a list takes the same blocks, wherever the content of the change is
pub placed_found : (c : KeyedAct) (pieces : Option (List Piece)) → KeepsFound c (with_placed c pieces)
placed_found c None p blocks found = found
placed_found c (Some ps) p blocks found = act_with_found p c.act ps blocks found

some_content : (o : Option (List Piece)) (content : List Piece) → o ≡ Some content → IsSome o
some_content o content some = subst (λ q. IsSome q) (sym some) refl

-- a change with content is kept with the pieces that say where it is
pub kept_as_placed : (es : List (List Block)) (c : KeyedAct) (content ps : List Piece) → content_of c.act ≡ Some content → ArePlaced es content ps → IsKeptAs es c (change_with c ps)
kept_as_placed es c content ps some placed = record {
  key = refl;
  stored = changed_content es c ps (some_content (content_of c.act) content some) placed.stored;
  bytes = λ p. changed-act_with (content_at es) held p c.act ps
      (subst (λ o. IfSome o (λ qs. content_at es ps ≡ held qs)) (sym some) placed.bytes)
      (λ none. let wrong : Some content ≡ None = sym some ∙ none in absurd cc);
  fits = λ p. fits-act_with p c.act ps;
}

-- a change whose content was put is kept as it is with these pieces
pub kept_as_put : (es : List (List Block)) (c : KeyedAct) (o pieces : Option (List Piece)) → is_row c.act ≡ false → content_of c.act ≡ o → IsPutAt es o pieces
    → IsKeptAs es c (with_placed c pieces)
kept_as_put es c None None plain is put = kept_as_itself es c plain is
kept_as_put es c None (Some ps) plain is put = absurd put
kept_as_put es c (Some content) None plain is put = absurd put
kept_as_put es c (Some content) (Some ps) plain is put = kept_as_placed es c content ps is put

-- the pieces have the lengths that the change wants
pub put_lengths : (es : List (List Block)) (o pieces : Option (List Piece)) → IsPutAt es o pieces → IfSome pieces (λ ps. IsSomeAnd o (λ qs. map piece_len qs ≡ map piece_len ps))
put_lengths es o None put = tt
put_lengths es None (Some ps) put = absurd put
put_lengths es (Some content) (Some ps) put = sym put.lengths
