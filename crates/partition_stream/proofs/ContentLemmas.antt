-- Content that is stored stays stored, and reads the same.
use Rattle.std.proofs.Common.{◌≡◌, ◌∙◌, IsTrue, List, [], ◌∷◌, ap, refl, sym, IsSome}
use Rattle.std.proofs.lemmas.List.Elements.{All-weaker, All-head, All-tail}
use Rattle.std.proofs.lemmas.List.Concat.{flat_map-cons}
use Rattle.std.specs.Prelude.{unwrap_or}
use Rattle.extent_node.specs.Copies.{Block}
use Rattle.stamp_types.specs.Changes.{KeyedAct, act_with, change_with, content_of}
use Rattle.stamp_types.specs.declared.act.Act.{Act}
use Rattle.stamp_types.specs.declared.act.Act.TheVariants as acts
use Rattle.stamp_types.specs.Contents.{EachContent, EachActContent}
use Rattle.stamp_types.specs.Pieces.{is_placed}
use Rattle.stamp_types.specs.World.{Part, part_value}
use Rattle.stamp_types.specs.declared.piece.Piece.{Piece}
use Rattle.stamp_types.specs.declared.piece.Piece.TheVariants.{Bytes, At}
use Rattle.stamp_types.proofs.ContentReadings.{part_value-alike}
use Rattle.stamp_types.proofs.EachContents.{EachContent-then, EachActContent-then}
use Rattle.log_record.specs.Sizes.{IsPlacedChange}
use Rattle.stream_manager.specs.Places.{KeepsPlaces}
use Rattle.partition_stream.specs.Contents.{bytes_at, content_at, IsStored, AreStored}

pub piece_stays : (es fs : List (List Block)) → KeepsPlaces es fs → (p : Piece) → IsStored es p → IsStored fs p
piece_stays es fs keeps (Bytes bs) stored = absurd stored
piece_stays es fs keeps (At place n) stored = (stored.0, (keeps place stored.0 stored.1.0, stored.1.1))

piece_reads : (es fs : List (List Block)) → KeepsPlaces es fs → (p : Piece) → IsStored es p → bytes_at fs p ≡ bytes_at es p
piece_reads es fs keeps (Bytes bs) stored = absurd stored
piece_reads es fs keeps (At place n) stored = ap (λ o. unwrap_or o []) (keeps place stored.0 stored.1.0) ∙ sym (ap (λ o. unwrap_or o []) stored.1.0)

pub content_stays : (es fs : List (List Block)) → KeepsPlaces es fs → (ps : List Piece) → AreStored es ps → AreStored fs ps
content_stays es fs keeps ps stored = All-weaker (IsStored es) (IsStored fs) (λ p. piece_stays es fs keeps p) ps stored

pub content_reads : (es fs : List (List Block)) → KeepsPlaces es fs → (ps : List Piece) → AreStored es ps → content_at fs ps ≡ content_at es ps
content_reads es fs keeps [] stored = refl
content_reads es fs keeps (p ∷ ps) stored =
    let first = piece_reads es fs keeps p (All-head (IsStored es) p ps stored) in
    let others = content_reads es fs keeps ps (All-tail (IsStored es) p ps stored) in
    rw (flat_map-cons (bytes_at fs) p ps, flat_map-cons (bytes_at es) p ps, first, others) refl

pub change_stays : (es fs : List (List Block)) → KeepsPlaces es fs → (c : KeyedAct) → EachActContent (AreStored es) c.act → EachActContent (AreStored fs) c.act
change_stays es fs keeps c stored = EachActContent-then (AreStored es) (AreStored fs) (content_stays es fs keeps) c.act stored

-- content that is stored is at places
stored_placed : (es : List (List Block)) (ps : List Piece) → AreStored es ps → IsTrue (is_placed ps)
stored_placed es [] stored = refl
stored_placed es (Bytes bs ∷ ps) stored = absurd (All-head (IsStored es) (Bytes bs) ps stored)
stored_placed es (At place n ∷ ps) stored = stored_placed es ps (All-tail (IsStored es) (At place n) ps stored)

pub change_placed : (es : List (List Block)) (c : KeyedAct) → EachActContent (AreStored es) c.act → IsPlacedChange c
change_placed es c stored = EachActContent-then (AreStored es) (λ ps. IsTrue (is_placed ps)) (stored_placed es) c.act stored

-- a change with content that is stored
pub changed_content : (es : List (List Block)) (c : KeyedAct) (ps : List Piece) → IsSome (content_of c.act) → AreStored es ps → EachActContent (AreStored es) (change_with c ps).act
changed_content es c ps some stored = of_act c.act some
  where
    of_act : (a : Act) → IsSome (content_of a) → EachActContent (AreStored es) (act_with a ps)
    of_act (acts.PutBlob a) own = stored
    of_act (acts.PutBlock a) own = stored
    of_act other own = absurd cc

pub part_stays : (es fs : List (List Block)) → KeepsPlaces es fs → (p : Part (List Piece)) → EachContent (AreStored es) p → EachContent (AreStored fs) p
part_stays es fs keeps p stored = EachContent-then (AreStored es) (AreStored fs) (content_stays es fs keeps) p stored

pub part_reads : (es fs : List (List Block)) → KeepsPlaces es fs → (p : Part (List Piece)) → EachContent (AreStored es) p → part_value (content_at fs) p ≡ part_value (content_at es) p
part_reads es fs keeps p stored =
    part_value-alike (content_at fs) (content_at es) p (EachContent-then (AreStored es) (λ ps. content_at fs ps ≡ content_at es ps) (content_reads es fs keeps) p stored)
