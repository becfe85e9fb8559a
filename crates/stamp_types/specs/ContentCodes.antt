-- Codes of pieces and of content in pieces, by which a type with content may be seen as its value ("Put Blob" and "Put Block" of
-- the Blob service REST reference, 2012-02-12; SOSP 2011, section 4, for the place of a block in an extent).
use Rattle.std.specs.Prelude.{◌≡◌, ◌⊎◌, ℕ, List, refl}
use Rattle.std.proofs.Common.{inl, inr}
use Rattle.std.specs.Coded.{Coded, code_by, coded_ℕ, coded×, coded⊎, coded_list}
use Rattle.std.specs.FinMap as finite
use Rattle.std.specs.FinMap.{FinMap}
use Rattle.stamp_values.specs.Order.{name_cmp}
use Rattle.stamp_values.specs.declared.place.Place.{Place}
use Rattle.stamp_types.specs.WorldCodes.{text_code}
use Rattle.stamp_types.specs.declared.piece.Piece.{Piece}
use Rattle.stamp_types.specs.declared.piece.Piece.TheVariants.{Bytes, At}

-- the parts of a piece: its bytes, or its place and its length
abbrev pub piece_parts : Piece → List ℕ ⊎ (Place × ℕ)
piece_parts (Bytes bs) = inl bs
piece_parts (At place n) = inr (place, n)

-- the piece that was split into these parts
abbrev pub piece_of_parts : List ℕ ⊎ (Place × ℕ) → Piece
piece_of_parts (inl bs) = Bytes bs
piece_of_parts (inr p) = At p.0 p.1

-- a piece is what it was split into
pub piece_of_parts-piece_parts : (p : Piece) → piece_of_parts (piece_parts p) ≡ p
piece_of_parts-piece_parts (Bytes bs) = refl
piece_of_parts-piece_parts (At place n) = refl

-- the code of a place
abbrev pub place_code : Coded Place
place_code = code_by (ℕ × ℕ) (coded× coded_ℕ coded_ℕ) (λ p. (p.extent, p.index)) (λ p. record { extent = p.0; index = p.1 }) (λ _. refl)

-- the code of content in pieces
abbrev pub content_code : Coded (List Piece)
content_code = coded_list (code_by (List ℕ ⊎ (Place × ℕ)) (coded⊎ text_code (coded× place_code coded_ℕ)) piece_parts piece_of_parts piece_of_parts-piece_parts)

-- the code of uncommitted blocks by their ids
abbrev pub blocks_code : Coded (FinMap name_cmp (List Piece))
blocks_code = finite.code text_code content_code
