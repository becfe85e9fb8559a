-- The spans of a part of joined pieces, and their bytes.
use Rattle.std.proofs.Common.{◌≡◌, ℕ, ◌+◌, ◌-◌, ◌≤◌, ◌<◌, min, Bool, true, false, ◌&&◌, nat_le, nat_lt, arith, le-leb, List, [], ◌∷◌, ◌++◌, ◌⊎◌, inl, inr, length, take, drop, append_assoc, append-nil, slice_range, refl, sym, ap, ◌∙◌, subst}
use Rattle.std.proofs.lemmas.Bool.{and_from, ltb-true, ltb-false, le-ltb, cases_order}
use Rattle.std.proofs.lemmas.List.{take_all, drop_all, length-drop}
use Rattle.std.proofs.lemmas.List.Elements.{All-head, All-tail}
use Rattle.std.proofs.lemmas.List.Folds.{list_all-append}
use Rattle.std.proofs.lemmas.List.Sums.{sum_by-cons, sum_by-append}
use Rattle.std.proofs.lemmas.Grind.{flat_map-append}
use Rattle.std.specs.Prelude.{if◌then◌else◌}
use Rattle.std.specs.List.{flat_map, list_all}
use Rattle.stamp_values.proofs.Ranges.{range-append, range-capped}
use Rattle.stamp_types.specs.declared.committed.Block.{Block}
use Rattle.stamp_types.specs.declared.piece.Piece.{Piece}
use Rattle.stamp_types.specs.Pieces.{piece_len, pieces_len}
use Rattle.range_rows.specs.declared.answer.Span.{Span}
use Rattle.range_rows.specs.Ranges.{part_spans, piece_spans}
use Rattle.range_rows.specs.SentContent.{ReadsWhole, is_within, span_bytes, spans_len}

-- ---- pieces that have none of the bytes

-- the span from one byte to another byte of a piece
abbrev span_of : ℕ → ℕ → Piece → List Span
span_of from to p = record { piece = p; from = from; to = to } ∷ []

no_span : (from end : ℕ) (p : Piece) → min end (piece_len p) ≤ from → piece_spans from end p ≡ []
no_span from end p before = ap (λ b. if b then span_of from (min end (piece_len p)) p else []) (le-ltb from (min end (piece_len p)) before)

-- an end at the first byte or before it gives an empty list of spans
pub no_part : (from end : ℕ) (ps : List Piece) → end ≤ from → part_spans from end ps ≡ []
no_part from end [] none = refl
no_part from end (p ∷ ps) none =
    λ i. no_span from end p (omega arith) i ++ no_part (from - piece_len p) (end - piece_len p) ps (omega arith) i

-- pieces that end before the first byte have no spans
pub part_past : (from end : ℕ) (ps : List Piece) → pieces_len ps ≤ from → part_spans from end ps ≡ []
part_past from end [] past = refl
part_past from end (p ∷ ps) past =
    let whole = sum_by-cons piece_len p ps in
    let both : piece_len p + pieces_len ps ≤ from = subst (λ n. n ≤ from) whole past in
    λ i. no_span from end p (omega arith) i ++ part_past (from - piece_len p) (end - piece_len p) ps (omega arith) i

-- the spans of pieces in two lists, one after the other
pub part_joined : (from end : ℕ) (ps qs : List Piece)
    → part_spans from end (ps ++ qs) ≡ part_spans from end ps ++ part_spans (from - pieces_len ps) (end - pieces_len ps) qs
part_joined from end [] qs = λ i. part_spans (sub_zero from i) (sub_zero end i) qs
  where
    sub_zero : (n : ℕ) → n ≡ n - 0
    sub_zero n = omega arith
part_joined from end (p ∷ ps) qs =
    let whole = sum_by-cons piece_len p ps in
    let beyond : (n : ℕ) → n - piece_len p - pieces_len ps ≡ n - pieces_len (p ∷ ps) = λ n. omega (arith, whole) in
    ap (λ ss. piece_spans from end p ++ ss) (part_joined (from - piece_len p) (end - piece_len p) ps qs)
    ∙ sym (append_assoc (piece_spans from end p) (part_spans (from - piece_len p) (end - piece_len p) ps) _)
    ∙ (λ i. part_spans from end (p ∷ ps) ++ part_spans (beyond from i) (beyond end i) qs)

-- the spans of the content of blocks: each block counts on from the blocks before it
abbrev pub block_spans : ℕ → ℕ → List (Block (List Piece)) → List Span
block_spans from end [] = []
block_spans from end (b ∷ bs) = part_spans from end b.content ++ block_spans (from - pieces_len b.content) (end - pieces_len b.content) bs

-- they are the spans of the joined content
pub spans_of_joined : (from end : ℕ) (bs : List (Block (List Piece))) → block_spans from end bs ≡ part_spans from end (flat_map (λ b. b.content) bs)
spans_of_joined from end [] = refl
spans_of_joined from end (b ∷ bs) =
    ap (λ ss. part_spans from end b.content ++ ss) (spans_of_joined (from - pieces_len b.content) (end - pieces_len b.content) bs)
    ∙ sym (part_joined from end b.content (flat_map (λ b. b.content) bs))

-- if the end is at the first byte or before it, blocks have no spans
pub no_block : (from end : ℕ) (bs : List (Block (List Piece))) → end ≤ from → block_spans from end bs ≡ []
no_block from end bs none = spans_of_joined from end bs ∙ no_part from end (flat_map (λ b. b.content) bs) none

-- ---- limits of the spans

within_span : (from end : ℕ) (p : Piece) (b : Bool) → nat_lt from (min end (piece_len p)) ≡ b
    → list_all is_within (if b then span_of from (min end (piece_len p)) p else []) ≡ true
within_span from end p false is = refl
within_span from end p true is =
    let less = ltb-true from (min end (piece_len p)) is in
    and_from (nat_le from (min end (piece_len p)) && nat_le (min end (piece_len p)) (piece_len p)) true
    (and_from _ _ (le-leb from (min end (piece_len p)) (omega arith)) (le-leb (min end (piece_len p)) (piece_len p) (omega arith)))
    refl

-- each piece has all bytes of its span
pub part_within : (from end : ℕ) (ps : List Piece) → list_all is_within (part_spans from end ps) ≡ true
part_within from end [] = refl
part_within from end (p ∷ ps) =
    list_all-append is_within (piece_spans from end p) (part_spans (from - piece_len p) (end - piece_len p) ps)
    ∙ and_from _ _ (within_span from end p (nat_lt from (min end (piece_len p))) refl) (part_within (from - piece_len p) (end - piece_len p) ps)

short_span : (from end : ℕ) (p : Piece) (b : Bool) → spans_len (if b then span_of from (min end (piece_len p)) p else []) ≤ piece_len p
short_span from end p false = omega arith
short_span from end p true = omega arith

-- the spans have no more bytes than the pieces
pub part_short : (from end : ℕ) (ps : List Piece) → spans_len (part_spans from end ps) ≤ pieces_len ps
part_short from end [] = omega arith
part_short from end (p ∷ ps) =
    let joined = sum_by-append (λ (s : Span). s.to - s.from) (piece_spans from end p) (part_spans (from - piece_len p) (end - piece_len p) ps) in
    let whole = sum_by-cons piece_len p ps in
    let first = short_span from end p (nat_lt from (min end (piece_len p))) in
    let rest = part_short (from - piece_len p) (end - piece_len p) ps in
    omega (arith, joined, whole, first, rest)

-- ---- spans that are read

no_bytes : (bs : List ℕ) (from end : ℕ) → min end (length bs) ≤ from → (end ≡ from) ⊎ ((end < from) ⊎ (from < end)) → slice_range bs from end ≡ []
no_bytes bs from end before (inl e) = let none : end - from ≡ 0 = omega arith in ap (λ n. take n (drop from bs)) none
no_bytes bs from end before (inr (inl l)) = let none : end - from ≡ 0 = omega arith in ap (λ n. take n (drop from bs)) none
no_bytes bs from end before (inr (inr g)) = take_all (end - from) (drop from bs) (omega (arith, length-drop from bs)) ∙ drop_all from bs (omega arith)

module _ (read : Piece → List ℕ) where
  bytes_of_span : (from end : ℕ) (p : Piece) → length (read p) ≡ piece_len p → (b : Bool) → nat_lt from (min end (piece_len p)) ≡ b
      → flat_map (span_bytes read) (if b then span_of from (min end (piece_len p)) p else []) ≡ slice_range (read p) from end
  bytes_of_span from end p long false is =
      let none = ltb-false from (min end (piece_len p)) is in
      sym (no_bytes (read p) from end (omega (arith, long)) (cases_order end from))
  bytes_of_span from end p long true is =
      let same : min end (piece_len p) ≡ min (length (read p)) end = omega (arith, long) in
      append-nil (slice_range (read p) from (min end (piece_len p)))
      ∙ ap (slice_range (read p) from) same
      ∙ range-capped (read p) from end

  bytes_in_order : (from end : ℕ) (ps : List Piece) → ReadsWhole read ps → from ≤ end → flat_map (span_bytes read) (part_spans from end ps) ≡ slice_range (flat_map read ps) from end
  bytes_in_order from end [] whole order = sym (no_bytes [] from end (omega arith) (cases_order end from))
  bytes_in_order from end (p ∷ ps) whole order =
      let long = All-head (λ (piece : Piece). length (read piece) ≡ piece_len piece) p ps whole in
      let rest = All-tail (λ (piece : Piece). length (read piece) ≡ piece_len piece) p ps whole in
      flat_map-append (span_bytes read) (piece_spans from end p) (part_spans (from - piece_len p) (end - piece_len p) ps)
      ∙ (λ i. bytes_of_span from end p long (nat_lt from (min end (piece_len p))) refl i
      ++ bytes_in_order (from - piece_len p) (end - piece_len p) ps rest (omega arith) i)
      ∙ ap (λ n. slice_range (read p) from end ++ slice_range (flat_map read ps) (from - n) (end - n)) (sym long)
      ∙ sym (range-append (read p) (flat_map read ps) from end order)

  by_order : (from end : ℕ) (ps : List Piece) → ReadsWhole read ps → (end ≡ from) ⊎ ((end < from) ⊎ (from < end)) → flat_map (span_bytes read) (part_spans from end ps) ≡ slice_range (flat_map read ps) from end
  by_order from end ps whole (inr (inl before)) =
      ap (flat_map (span_bytes read)) (no_part from end ps (omega arith))
      ∙ sym (no_bytes (flat_map read ps) from end (omega arith) (inr (inl before)))
  by_order from end ps whole (inl same) = bytes_in_order from end ps whole (omega arith)
  by_order from end ps whole (inr (inr after)) = bytes_in_order from end ps whole (omega arith)

  -- the bytes of the spans of a part are that part of all bytes
  pub bytes_of_part : (from end : ℕ) (ps : List Piece) → ReadsWhole read ps → flat_map (span_bytes read) (part_spans from end ps) ≡ slice_range (flat_map read ps) from end
  bytes_of_part from end ps whole = by_order from end ps whole (cases_order end from)
