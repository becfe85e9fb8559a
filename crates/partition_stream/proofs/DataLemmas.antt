-- Content that is put piece by piece.
use Rattle.std.proofs.Common.{◌≡◌, ◌∙◌, ◌≤◌, ◌<◌, ◌+◌, ◌&&◌, ℕ, zero, suc, Bool, true, List, [], ◌∷◌, ◌++◌, IsTrue, nat_le, length, map, take, drop, get_or, ap, sym, refl, arith, leb-true}
use Rattle.std.specs.List.{list_all}
use Rattle.std.proofs.lemmas.Bool.{and_parts}
use Rattle.std.proofs.lemmas.List.{length-map, map-append, flat_map_more, take_more}
use Rattle.std.proofs.lemmas.List.Elements.{All-nil, All-push}
use Rattle.extent_node.specs.Copies.{Block}
use Rattle.stamp_types.specs.Pieces.{cut, cut_at_most, piece_len, piece_bytes, held, is_held, is_held_piece, is_piece, is_pieces}
use Rattle.stamp_types.specs.declared.piece.Piece.{Piece}
use Rattle.stamp_types.specs.declared.piece.Piece.TheVariants.{Bytes, At}
use Rattle.stamp_values.specs.declared.place.Place.{Place}
use Rattle.stream_manager.specs.Places.{GoesOn, IsLastAt, KeepsPlaces}
use Rattle.stream_manager.specs.Streams.{Streamed, laid}
use Rattle.stream_manager.proofs.PlaceLemmas.{onward}
use Rattle.stream_manager.proofs.ReadLemmas.{count_of_extents}
use Rattle.partition_stream.specs.Contents.{ArePlaced, EndsWithBlock, IsPlaced, IsStored, bytes_at}
use Rattle.partition_stream.specs.Sweeping.{AreFrom, IsFrom}
use Rattle.partition_stream.proofs.ContentLemmas.{content_stays, content_reads}

-- a block that was appended is in one of the last two extents
pub ends_here : (es : List (List Block)) (p : Place) (b : Block) → IsLastAt es p b → EndsWithBlock es
ends_here es p b last = record { place = p; block = b; here = last.here; near = last.near }

-- extents that go on twice go on
pub twice_on : (es fs gs : List (List Block)) → GoesOn es fs → GoesOn fs gs → GoesOn es gs
twice_on es fs gs a b = (a.0 ++ b.0, onward es fs gs a.0 b.0 a.1 b.1)

-- one more piece is in an extent from those on that were sealed before all of them
pub pieces_after : (s t : Streamed) (ps all : List Piece) (p : Piece) → GoesOn (laid s) (laid t) → AreFrom (length s.sealed) ps → IsFrom (length t.sealed) p → all ≡ ps ++ p ∷ []
    → AreFrom (length s.sealed) all
pieces_after s t ps all p on old new more = rw more (All-push (IsFrom (length s.sealed)) ps p old (earlier p new))
  where
    earlier : (q : Piece) → IsFrom (length t.sealed) q → IsFrom (length s.sealed) q
    earlier (Bytes bs) from = absurd from
    earlier (At place n) from =
        let a = count_of_extents s.sealed s.last in
        let b = count_of_extents t.sealed t.last in
        let l = on.1.sealed.longer in
        omega (arith, a, b, l, from)

-- no piece is placed yet
pub none_placed : (es : List (List Block)) → ArePlaced es [] []
none_placed es = record { lengths = refl; stored = All-nil (IsStored es); bytes = refl }

-- one more piece is placed
placed_one : (es fs : List (List Block)) (content ps : List Piece) (piece p : Piece) → KeepsPlaces es fs → ArePlaced es content ps → IsPlaced fs piece p
    → ArePlaced fs (content ++ piece ∷ []) (ps ++ p ∷ [])
placed_one es fs content ps piece p keeps old new = record {
  lengths =
      map-append piece_len ps (p ∷ []) ∙ ap (λ l. l ++ piece_len p ∷ []) old.lengths ∙ ap (λ n. map piece_len content ++ n ∷ []) new.len
      ∙ sym (map-append piece_len content (piece ∷ []));
  stored = All-push (IsStored fs) ps p (content_stays es fs keeps ps old.stored) new.stored;
  bytes =
      sym (flat_map_more (bytes_at fs) [] ps p) ∙ ap (λ l. l ++ bytes_at fs p) (content_reads es fs keeps ps old.stored ∙ old.bytes)
      ∙ ap (λ l. held content ++ l) new.bytes ∙ flat_map_more piece_bytes [] content piece;
}

-- the next piece of the content is placed
pub placed_more : (es fs : List (List Block)) (content ps all : List Piece) (i : ℕ) (piece p : Piece) → i < length content → piece ≡ get_or content i piece
    → KeepsPlaces es fs → ArePlaced es (take i content) ps → IsPlaced fs piece p → all ≡ ps ++ p ∷ [] → ArePlaced fs (take (i + 1) content) all
placed_more es fs content ps all i piece p within is keeps old new more =
    let next : take (i + 1) content ≡ take i content ++ piece ∷ [] = take_more content i piece within ∙ ap (λ x. take i content ++ x ∷ []) (sym is) in
    rw (next, more) (placed_one es fs (take i content) ps piece p keeps old new)

-- what a test says of each piece
pub passes_at : (test : Piece → Bool) (ps : List Piece) (i : ℕ) (d : Piece) → list_all test ps ≡ true → i < length ps → test (get_or ps i d) ≡ true
passes_at test [] i d all within = absurd (omega arith)
passes_at test (p ∷ ps) zero d all within = (and_parts (test p) (list_all test ps) all).0
passes_at test (p ∷ ps) (suc i) d all within = passes_at test ps i d (and_parts (test p) (list_all test ps) all).1 (omega arith)

pub held_at : (ps : List Piece) (i : ℕ) (p : Piece) → IsTrue (is_held ps) → i < length ps → p ≡ get_or ps i p → IsTrue (is_held_piece p)
held_at ps i p all within is = ap is_held_piece is ∙ passes_at is_held_piece ps i p all within

pub short_at : (ps : List Piece) (i : ℕ) (p : Piece) → IsTrue (is_pieces ps) → i < length ps → p ≡ get_or ps i p → piece_len p ≤ 4194304
short_at ps i p are within is =
    let all = (and_parts (nat_le (length ps) 16) (list_all is_piece ps) are).1 in
    let own : is_piece p ≡ true = ap is_piece is ∙ passes_at is_piece ps i p all within in
    leb-true (piece_len p) 4194304 (and_parts (nat_le 1 (piece_len p)) (nat_le (piece_len p) 4194304) own).1

-- whether pieces are the pieces of content depends on their lengths alone
abbrev is_piece_len : ℕ → Bool
is_piece_len n = nat_le 1 n && nat_le n 4194304

all_by_len : (ps : List Piece) → list_all is_piece ps ≡ list_all is_piece_len (map piece_len ps)
all_by_len [] = refl
all_by_len (p ∷ ps) = ap (λ b. is_piece p && b) (all_by_len ps)

is_pieces_len : (ps : List Piece) → is_pieces ps ≡ (nat_le (length (map piece_len ps)) 16 && list_all is_piece_len (map piece_len ps))
is_pieces_len ps = ap (λ b. nat_le (length ps) 16 && b) (all_by_len ps) ∙ ap (λ n. nat_le n 16 && list_all is_piece_len (map piece_len ps)) (sym (length-map ps piece_len))

pub are_by_len : (ps content : List Piece) → map piece_len ps ≡ map piece_len content → IsTrue (is_pieces content) → IsTrue (is_pieces ps)
are_by_len ps content same are =
    is_pieces_len ps ∙ ap (λ l. nat_le (length l) 16 && list_all is_piece_len l) same ∙ sym (is_pieces_len content) ∙ are

pub placed_are_pieces : (es : List (List Block)) (content ps : List Piece) → ArePlaced es content ps → IsTrue (is_pieces content) → IsTrue (is_pieces ps)
placed_are_pieces es content ps placed are = are_by_len ps content placed.lengths are

-- ---- content that was cut

cut_held_at_most : (n : ℕ) (bs : List ℕ) → IsTrue (is_held (cut_at_most n bs))
cut_held_at_most zero bs = refl
cut_held_at_most (suc n) [] = refl
cut_held_at_most (suc n) (b ∷ bs) = cut_held_at_most n (drop 4194304 (b ∷ bs))

-- pieces that bytes are cut into hold their bytes
pub cut_held : (bs : List ℕ) → IsTrue (is_held (cut bs))
cut_held bs = cut_held_at_most (length bs) bs
