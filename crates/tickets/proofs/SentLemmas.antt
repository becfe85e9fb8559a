-- The content that goes out with a reply, from a container whose contents are stored.
use Rattle.std.proofs.Common.{◌≡◌, ◌∙◌, ℕ, ◌-◌, Bool, true, false, List, [], ◌∷◌, ap, refl, sym, unwrap_or}
use Rattle.std.proofs.lemmas.List.Elements.{All-append, All-cons, All-head, All-nil, All-tail}
use Rattle.std.specs.Prelude.{All, IfSome, Option, Some, None, if◌then◌else◌, map, min, nat_lt}
use Rattle.std.specs.List.{flat_map}
use Rattle.std.specs.Option.{option_and_then}
use Rattle.extent_node.specs.Copies.{Block}
use Rattle.stamp_values.specs.Operations.{writes}
use Rattle.stamp_values.specs.declared.condition.ByteRange.{ByteRange}
use Rattle.stamp_values.specs.declared.op.Op.{Op}
use Rattle.stamp_values.specs.declared.op.Op.TheVariants as op
use Rattle.stamp_types.specs.declared.committed.Block.{Block as CommittedBlock}
use Rattle.stamp_types.specs.declared.committed.Committed.{Committed}
use Rattle.stamp_types.specs.declared.piece.Piece.{Piece}
use Rattle.stamp_types.specs.Contents.{EachCommittedContent, EachContent}
use Rattle.stamp_types.specs.Pieces.{piece_len, pieces_len}
use Rattle.stamp_types.specs.Requests.{Asked}
use Rattle.stamp_types.specs.World.{Part, blob_in}
use Rattle.partition_stream.specs.Contents.{AreStored, IsStored}
use Rattle.range_rows.specs.declared.answer.Span.{Span}
use Rattle.range_rows.specs.FoundParts.{pieces_found_after}
use Rattle.range_rows.specs.Frames.{empty_blob}
use Rattle.range_rows.specs.Ranges.{part_spans, piece_spans, range_end}
use Rattle.range_rows.specs.SentContent.{blob_content, ranged_spans, spans, spans_by, whole_span}
use Rattle.range_rows.proofs.FrameLemmas.{pieces_after_read, spans_of_write}
use Rattle.tickets.specs.Answers.{IsSpanStored}

module _ (es : List (List Block)) where
  whole_stored : (ps : List Piece) → AreStored es ps → All (IsSpanStored es) (map whole_span ps)
  whole_stored [] stored = All-nil (IsSpanStored es)
  whole_stored (p ∷ ps) stored =
      All-cons (IsSpanStored es) (whole_span p) (map whole_span ps) (All-head (IsStored es) p ps stored) (whole_stored ps (All-tail (IsStored es) p ps stored))

  span_stored : (from end : ℕ) (p : Piece) (b : Bool) → IsStored es p → All (IsSpanStored es) (if b then record { piece = p; from = from; to = end } ∷ [] else [])
  span_stored from end p false stored = All-nil (IsSpanStored es)
  span_stored from end p true stored = All-cons (IsSpanStored es) (record { piece = p; from = from; to = end }) [] stored (All-nil (IsSpanStored es))

  part_stored : (from end : ℕ) (ps : List Piece) → AreStored es ps → All (IsSpanStored es) (part_spans from end ps)
  part_stored from end [] stored = All-nil (IsSpanStored es)
  part_stored from end (p ∷ ps) stored =
      All-append (IsSpanStored es) (piece_spans from end p) (part_spans (from - piece_len p) (end - piece_len p) ps)
      (span_stored from (min end (piece_len p)) p (nat_lt from (min end (piece_len p))) (All-head (IsStored es) p ps stored))
      (part_stored (from - piece_len p) (end - piece_len p) ps (All-tail (IsStored es) p ps stored))

  ranged_stored : (range : Option ByteRange) (ps : List Piece) → AreStored es ps → All (IsSpanStored es) (ranged_spans range ps)
  ranged_stored None ps stored = whole_stored ps stored
  ranged_stored (Some r) ps stored = part_stored r.first (range_end r (pieces_len ps)) ps stored

  joined_stored : (bs : List (CommittedBlock (List Piece))) → All (λ b. AreStored es b.content) bs → AreStored es (flat_map (λ b. b.content) bs)
  joined_stored [] stored = All-nil (IsStored es)
  joined_stored (b ∷ bs) stored =
      All-append (IsStored es) b.content (flat_map (λ b. b.content) bs)
      (All-head (λ (b : CommittedBlock (List Piece)). AreStored es b.content) b bs stored)
      (joined_stored bs (All-tail (λ (b : CommittedBlock (List Piece)). AreStored es b.content) b bs stored))

  by_op : (o : Op) (range : Option ByteRange) (c : Committed (List Piece)) → EachCommittedContent (AreStored es) c → All (IsSpanStored es) (spans_by o range c)
  by_op op.GetBlob range c stored = ranged_stored range (blob_content c) (joined_stored c.blocks stored)
  by_op other range c stored = All-nil (IsSpanStored es)

  by_blob : (o : Op) (range : Option ByteRange) (c : Option (Committed (List Piece))) → IfSome c (EachCommittedContent (AreStored es))
      → All (IsSpanStored es) (spans_by o range (unwrap_or c empty_blob))
  by_blob o range None stored = by_op o range empty_blob (All-nil (λ (b : CommittedBlock (List Piece)). AreStored es b.content))
  by_blob o range (Some c) stored = by_op o range c stored

  named_stored : (p : Part (List Piece)) (blob : Option (List ℕ)) → EachContent (AreStored es) p
      → IfSome (option_and_then (λ name. (blob_in p name).committed) blob) (EachCommittedContent (AreStored es))
  named_stored p None stored = tt
  named_stored p (Some name) stored = (stored name).committed

  -- what goes out of stored content is stored
  pub sent_stored : (p : Part (List Piece)) (q : Asked) → EachContent (AreStored es) p → All (IsSpanStored es) (spans p q)
  sent_stored p q stored =
      by_blob q.ask.op q.ask.args.range (option_and_then (λ name. (blob_in p name).committed) q.ask.blob) (named_stored p q.ask.blob stored)

-- the change of a request changes nothing that goes out with its reply
pub sent_after : (p : Part (List Piece)) (q : Asked) (t : ℕ) → spans (pieces_found_after p q t) q ≡ spans p q
sent_after p q t = by (writes q.ask.op) refl
  where
    by : (b : Bool) → writes q.ask.op ≡ b → spans (pieces_found_after p q t) q ≡ spans p q
    by true writing = spans_of_write (pieces_found_after p q t) q writing ∙ sym (spans_of_write p q writing)
    by false reading = ap (λ part. spans part q) (pieces_after_read p q t reading)
