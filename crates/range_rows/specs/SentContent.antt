-- The content that goes out with a reply, as bytes and as bytes of pieces (Blob service REST reference, 2012-02-12, "Get Blob"; RFC 9110, section 14.4).
use Rattle.std.specs.Prelude.{◌≡◌, ◌⊎◌, ℕ, ◌+◌, ◌-◌, ◌<◌, ◌^◌, Bool, ◌&&◌, nat_le, All, List, [], ◌++◌, length, Option, Some, None, map, sum_by, slice_range}
use Rattle.std.specs.List.{flat_map}
use Rattle.stamp_values.specs.declared.condition.ByteRange.{ByteRange}
use Rattle.stamp_values.specs.declared.op.Op.{Op}
use Rattle.stamp_values.specs.declared.op.Op.TheVariants as op
use Rattle.stamp_types.specs.declared.committed.Committed.{Committed}
use Rattle.stamp_types.specs.declared.piece.Piece.{Piece}
use Rattle.stamp_types.specs.declared.reply.Reply.{Reply}
use Rattle.stamp_types.specs.Pieces.{piece_len, pieces_len}
use Rattle.stamp_types.specs.Requests.{Asked}
use Rattle.stamp_types.specs.World.{Part, part_value}
use Rattle.range_rows.specs.declared.answer.Span.{Span}
use Rattle.range_rows.specs.Frames.{blob_read, frame}
use Rattle.range_rows.specs.Ranges.{range_end, part_spans}
use Rattle.range_rows.specs.Replaced.{Replaced}

-- all content of a blob
abbrev pub blob_content : {C : Type 0} → Committed (List C) → List C
blob_content c = flat_map (λ b. b.content) c.blocks

-- the bytes that a range asks for, or all bytes if a request has no range
abbrev pub ranged_bytes : Option ByteRange → List ℕ → List ℕ
ranged_bytes None bytes = bytes
ranged_bytes (Some r) bytes = slice_range bytes r.first (range_end r (length bytes))

-- the bytes that go out: on Get Blob the bytes of the blob, or of the range, on other operations none
abbrev pub bytes_by : Op → Option ByteRange → Committed (List ℕ) → List ℕ
bytes_by op.GetBlob range c = ranged_bytes range (blob_content c)
bytes_by _ range c = []

-- the bytes that go out with the reply to a request
abbrev pub bytes_sent : Part (List ℕ) → Asked → List ℕ
bytes_sent p q = bytes_by q.ask.op q.ask.args.range (blob_read p q.ask)

-- how many bytes content has
abbrev pub byte_count : List ℕ → ℕ
byte_count bytes = length bytes

-- the container with the sizes of its content
abbrev pub sizes : Part (List ℕ) → Part ℕ
sizes p = part_value byte_count p

-- the reply with these bytes after its own body
abbrev pub with_content : Reply → List ℕ → Reply
with_content r bytes = record r { body = r.body ++ bytes }

-- the reply to an allowed request that replaces these headers, from the container after the request's change
abbrev pub reply_of : Replaced → Part (List ℕ) → Asked → Reply
reply_of v p q = with_content (frame v (sizes p) q) (bytes_sent p q)

-- a piece from its first byte to its last
abbrev pub whole_span : Piece → Span
whole_span piece = record { piece = piece; from = 0; to = piece_len piece }

-- which bytes of which pieces go out, if the range asks for them, or all pieces if a request has no range
abbrev pub ranged_spans : Option ByteRange → List Piece → List Span
ranged_spans None ps = map whole_span ps
ranged_spans (Some r) ps = part_spans r.first (range_end r (pieces_len ps)) ps

-- which bytes of which pieces go out by the operation
abbrev pub spans_by : Op → Option ByteRange → Committed (List Piece) → List Span
spans_by op.GetBlob range c = ranged_spans range (blob_content c)
spans_by _ range c = []

-- which bytes of which pieces go out with the reply to a request, in this order
abbrev pub spans : Part (List Piece) → Asked → List Span
spans p q = spans_by q.ask.op q.ask.args.range (blob_read p q.ask)

-- the bytes of a span, if pieces are read in this way
abbrev pub span_bytes : (Piece → List ℕ) → Span → List ℕ
span_bytes read s = slice_range (read s.piece) s.from s.to

-- the piece has the bytes of the span
abbrev pub is_within : Span → Bool
is_within s = nat_le s.from s.to && nat_le s.to (piece_len s.piece)

-- how many bytes spans have together
abbrev pub spans_len : List Span → ℕ
spans_len ss = sum_by (λ s. s.to - s.from) ss

-- no spans go out after the body of a frame, or all of it has fewer bytes than can be counted
abbrev pub AreShort : List ℕ → List Span → Type 0
AreShort body ss = (ss ≡ []) ⊎ (length body + spans_len ss < 2 ^ 64)

-- what is read for each piece has the piece's length
abbrev pub ReadsWhole : (Piece → List ℕ) → List Piece → Type 0
ReadsWhole read ps = All (λ piece. length (read piece) ≡ piece_len piece) ps
