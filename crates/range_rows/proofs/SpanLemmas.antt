-- Spans of content, and their bytes.
use Rattle.std.proofs.Common.{◌≡◌, ℕ, ◌+◌, ◌-◌, ◌≤◌, true, nat_le, arith, le-leb, List, [], ◌∷◌, ◌++◌, length, length-append, take, slice_range, Option, Some, None, refl, sym, ap, ◌∙◌, unwrap_or, map}
use Rattle.std.proofs.lemmas.Bool.{and_from}
use Rattle.std.proofs.lemmas.List.Elements.{All-append, All-head, All-nil, All-tail}
use Rattle.std.proofs.lemmas.List.Sums.{sum_by-cons, sum_by-append}
use Rattle.std.proofs.lemmas.Grind.{flat_map-append}
use Rattle.std.proofs.Math.Seq.{take-length}
use Rattle.std.specs.Prelude.{All, IfSome}
use Rattle.std.specs.List.{flat_map, list_all}
use Rattle.std.specs.Option.{option_map, option_and_then}
use Rattle.stamp_values.specs.declared.condition.ByteRange.{ByteRange}
use Rattle.stamp_values.specs.declared.op.Op.{Op}
use Rattle.stamp_values.specs.declared.op.Op.TheVariants as op
use Rattle.stamp_types.specs.declared.committed.Block.{Block}
use Rattle.stamp_types.specs.declared.committed.Committed.{Committed}
use Rattle.stamp_types.specs.declared.piece.Piece.{Piece}
use Rattle.stamp_types.specs.Changes.{are_blocks, blocks_len}
use Rattle.stamp_types.specs.Contents.{EachCommittedContent, EachContent}
use Rattle.stamp_types.specs.Pieces.{piece_len, pieces_len}
use Rattle.stamp_types.specs.Requests.{Asked}
use Rattle.stamp_types.specs.World.{Part, blob_in, block_value, committed_value, part_value}
use Rattle.stamp_types.proofs.ContentReadings.{part_value-sizes}
use Rattle.stamp_types.proofs.EachContents.{EachContent-then}
use Rattle.range_rows.specs.declared.answer.Span.{Span}
use Rattle.range_rows.specs.Frames.{empty_blob, frame}
use Rattle.range_rows.specs.Ranges.{part_spans, range_end}
use Rattle.range_rows.specs.Replaced.{Replaced}
use Rattle.range_rows.specs.SentContent.{ReadsWhole, blob_content, bytes_by, bytes_sent, is_within, ranged_bytes, ranged_spans, reply_of, span_bytes, spans, spans_by, spans_len, whole_span, with_content}
use Rattle.range_rows.specs.ObjectRules.{named_blob}
use Rattle.range_rows.proofs.AnswerLemmas.{named_blob-part_value}
use Rattle.range_rows.proofs.RangeLemmas.{bytes_of_part, part_short}
use Rattle.range_rows.proofs.PutParts.{within_blob}

-- ---- whole spans

from_start : (n : ℕ) → n - 0 ≡ n
from_start n = omega arith

-- a piece has all bytes of its whole span
pub whole_within : (ps : List Piece) → list_all is_within (map whole_span ps) ≡ true
whole_within [] = refl
whole_within (p ∷ ps) =
    and_from (is_within (whole_span p)) (list_all is_within (map whole_span ps))
    (and_from (nat_le 0 (piece_len p)) (nat_le (piece_len p) (piece_len p)) (le-leb 0 (piece_len p) (omega arith)) (le-leb (piece_len p) (piece_len p) (omega arith)))
    (whole_within ps)

spans_len-whole : (ps : List Piece) → spans_len (map whole_span ps) ≡ pieces_len ps
spans_len-whole [] = refl
spans_len-whole (p ∷ ps) =
    sum_by-cons (λ (s : Span). s.to - s.from) (whole_span p) (map whole_span ps)
    ∙ (λ i. from_start (piece_len p) i + spans_len-whole ps i)
    ∙ sym (sum_by-cons piece_len p ps)

-- pieces of all blocks have as many bytes as the blocks
pub len_of_content : (bs : List (Block (List Piece))) → pieces_len (flat_map (λ b. b.content) bs) ≡ blocks_len bs
len_of_content [] = refl
len_of_content (b ∷ bs) =
    sum_by-append piece_len b.content (flat_map (λ b. b.content) bs)
    ∙ ap (λ n. pieces_len b.content + n) (len_of_content bs)
    ∙ sym (sum_by-cons (λ (b : Block (List Piece)). pieces_len b.content) b bs)

-- the spans of blocks have as many bytes as the blocks
pub spans_len_of_blocks : (bs : List (Block (List Piece))) → spans_len (map whole_span (flat_map (λ b. b.content) bs)) ≡ blocks_len bs
spans_len_of_blocks bs = spans_len-whole (flat_map (λ b. b.content) bs) ∙ len_of_content bs

-- the spans of a part of a blob have no more bytes than a blob may have
pub short_part : (from end : ℕ) (bs : List (Block (List Piece))) → are_blocks bs ≡ true → spans_len (part_spans from end (flat_map (λ b. b.content) bs)) ≤ 268435456
short_part from end bs are = omega (arith, part_short from end (flat_map (λ b. b.content) bs), len_of_content bs, within_blob bs are)

-- ---- spans that are read

module _ (read : Piece → List ℕ) where
  whole_bytes : (p : Piece) → length (read p) ≡ piece_len p → span_bytes read (whole_span p) ≡ read p
  whole_bytes p long = ap (λ n. take n (read p)) (from_start (piece_len p) ∙ sym long) ∙ take-length (read p)

  spans_bytes : (ps : List Piece) → ReadsWhole read ps → flat_map (span_bytes read) (map whole_span ps) ≡ flat_map read ps
  spans_bytes [] whole = refl
  spans_bytes (p ∷ ps) whole =
      λ i. whole_bytes p (All-head (λ (piece : Piece). length (read piece) ≡ piece_len piece) p ps whole) i
      ++ spans_bytes ps (All-tail (λ (piece : Piece). length (read piece) ≡ piece_len piece) p ps whole) i

  -- bytes that are read have the length of their pieces
  pub length-read : (ps : List Piece) → ReadsWhole read ps → length (flat_map read ps) ≡ pieces_len ps
  length-read [] whole = refl
  length-read (p ∷ ps) whole =
      length-append (read p) (flat_map read ps)
      ∙ (λ i. All-head (λ (piece : Piece). length (read piece) ≡ piece_len piece) p ps whole i
      + length-read ps (All-tail (λ (piece : Piece). length (read piece) ≡ piece_len piece) p ps whole) i)
      ∙ sym (sum_by-cons piece_len p ps)

  -- the bytes of a blob are the bytes of its pieces, joined
  blocks_read : (bs : List (Block (List Piece))) → flat_map read (flat_map (λ b. b.content) bs) ≡ flat_map (λ b. b.content) (map (block_value (flat_map read)) bs)
  blocks_read [] = refl
  blocks_read (b ∷ bs) =
      flat_map-append read b.content (flat_map (λ b. b.content) bs)
      ∙ ap (λ bytes. flat_map read b.content ++ bytes) (blocks_read bs)

  joined_whole : (bs : List (Block (List Piece))) → All (λ b. ReadsWhole read b.content) bs → ReadsWhole read (flat_map (λ b. b.content) bs)
  joined_whole [] whole = All-nil (λ (piece : Piece). length (read piece) ≡ piece_len piece)
  joined_whole (b ∷ bs) whole =
      All-append (λ (piece : Piece). length (read piece) ≡ piece_len piece) b.content (flat_map (λ b. b.content) bs)
      (All-head (λ (b : Block (List Piece)). ReadsWhole read b.content) b bs whole)
      (joined_whole bs (All-tail (λ (b : Block (List Piece)). ReadsWhole read b.content) b bs whole))

  -- the spans of the range have the bytes of the range
  ranged_read : (range : Option ByteRange) (ps : List Piece) → ReadsWhole read ps
      → flat_map (span_bytes read) (ranged_spans range ps) ≡ ranged_bytes range (flat_map read ps)
  ranged_read None ps whole = spans_bytes ps whole
  ranged_read (Some r) ps whole =
      bytes_of_part read r.first (range_end r (pieces_len ps)) ps whole
      ∙ ap (λ n. slice_range (flat_map read ps) r.first (range_end r n)) (sym (length-read ps whole))

  by_op : (o : Op) (range : Option ByteRange) (c : Committed (List Piece)) → EachCommittedContent (ReadsWhole read) c
      → flat_map (span_bytes read) (spans_by o range c) ≡ bytes_by o range (committed_value (flat_map read) c)
  by_op op.GetBlob range c whole =
      ranged_read range (blob_content c) (joined_whole c.blocks whole) ∙ ap (ranged_bytes range) (blocks_read c.blocks)
  by_op other range c whole = refl

  by_blob : (o : Op) (range : Option ByteRange) (c : Option (Committed (List Piece))) → IfSome c (EachCommittedContent (ReadsWhole read))
      → flat_map (span_bytes read) (spans_by o range (unwrap_or c empty_blob)) ≡ bytes_by o range (unwrap_or (option_map (committed_value (flat_map read)) c) empty_blob)
  by_blob o range None whole = by_op o range empty_blob (All-nil (λ (b : Block (List Piece)). ReadsWhole read b.content))
  by_blob o range (Some c) whole = by_op o range c whole

  named_whole : (p : Part (List Piece)) (blob : Option (List ℕ)) → EachContent (ReadsWhole read) p
      → IfSome (option_and_then (λ name. (blob_in p name).committed) blob) (EachCommittedContent (ReadsWhole read))
  named_whole p None whole = tt
  named_whole p (Some name) whole = (whole name).committed

  module _ (p : Part (List Piece)) (q : Asked) (whole : EachContent (ReadsWhole read) p) where
    -- the bytes of the spans are the bytes that go out
    pub bytes_sent-read : flat_map (span_bytes read) (spans p q) ≡ bytes_sent (part_value (flat_map read) p) q
    bytes_sent-read =
        by_blob q.ask.op q.ask.args.range (named_blob p q.ask) (named_whole p q.ask.blob whole)
        ∙ ap (λ (o : Option (Committed (List ℕ))). bytes_by q.ask.op q.ask.args.range (unwrap_or o empty_blob)) (sym (named_blob-part_value (flat_map read) p q.ask))

    -- with them the frame is the reply
    pub reply_of-read : (v : Replaced) → with_content (frame v (part_value pieces_len p) q) (flat_map (span_bytes read) (spans p q)) ≡ reply_of v (part_value (flat_map read) p) q
    reply_of-read v =
        let sized = part_value-sizes (flat_map read) p (EachContent-then (ReadsWhole read) (λ ps. length (flat_map read ps) ≡ pieces_len ps) length-read p whole) in
        λ i. with_content (frame v (sym sized i) q) (bytes_sent-read i)
