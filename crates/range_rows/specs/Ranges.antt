-- The part of a blob that a range asks for (Blob service REST reference, 2012-02-12, "Get Blob"; RFC 9110, sections 14.1.2 and 14.4).
use Rattle.std.specs.Prelude.{ℕ, ◌+◌, ◌-◌, min, nat_lt, if◌then◌else◌, List, [], ◌∷◌, ◌++◌}
use Rattle.std.specs.Option.{option_map_or}
use Rattle.stamp_values.specs.declared.condition.ByteRange.{ByteRange}
use Rattle.stamp_types.specs.declared.piece.Piece.{Piece}
use Rattle.stamp_types.specs.declared.sent_range.SentRange.{SentRange}
use Rattle.stamp_types.specs.Pieces.{piece_len}
use Rattle.range_rows.specs.declared.answer.Span.{Span}

-- the bytes of a blob of this size that a range asks for end before this byte: a last byte that the blob does not have is cut
-- to the blob's last byte
abbrev pub range_end : ByteRange → ℕ → ℕ
range_end r size = option_map_or (λ last. if nat_lt last size then last + 1 else size) r.last size

-- the first and the last byte of a range of a blob, and the size of the blob
abbrev pub sent_range : ByteRange → ℕ → SentRange
sent_range r size = record { first = r.first; last = range_end r size - 1; total = size }

-- the bytes of a piece from a first byte up to but not including an end, if the piece has one of them
abbrev pub piece_spans : ℕ → ℕ → Piece → List Span
piece_spans from end piece =
    if nat_lt from (min end (piece_len piece)) then record { piece = piece; from = from; to = min end (piece_len piece) } ∷ [] else []

-- the bytes of joined pieces from a first byte up to but not including an end: each piece counts on from the pieces before it
abbrev pub part_spans : ℕ → ℕ → List Piece → List Span
part_spans from end [] = []
part_spans from end (p ∷ ps) = piece_spans from end p ++ part_spans (from - piece_len p) (end - piece_len p) ps
