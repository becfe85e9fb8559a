-- What the streams mean of a container, as it is read in the data.
use Rattle.std.proofs.Common.{◌≡◌, ◌∙◌, List, length, ap, sym}
use Rattle.std.specs.List.{flat_map}
use Rattle.stamp_values.specs.declared.key.Key.{Key}
use Rattle.stamp_types.specs.Contents.{EachContent}
use Rattle.stamp_types.specs.Pieces.{pieces_len}
use Rattle.stamp_types.specs.Requests.{Asked}
use Rattle.stamp_types.specs.World.{part_value}
use Rattle.stamp_types.proofs.ContentReadings.{part_value-sizes}
use Rattle.stamp_types.proofs.EachContents.{EachContent-then}
use Rattle.stream_manager.specs.Streams.{laid}
use Rattle.partition_stream.specs.Contents.{AreStored, bytes_at, content_at}
use Rattle.partition_stream.specs.Meanings.{held_of, meaning}
use Rattle.partition_stream.specs.Storing.{AreKept}
use Rattle.partition_stream.specs.Streams.{ThreeStreams, logged}
use Rattle.partition_stream.proofs.MeaningLemmas.{held_of-stored}
use Rattle.range_rows.specs.declared.answer.Span.{Span}
use Rattle.range_rows.specs.SentContent.{ReadsWhole, bytes_sent, span_bytes, spans}
use Rattle.range_rows.proofs.SpanLemmas.{bytes_sent-read, length-read}
use Rattle.tickets.proofs.PartLemmas.{contents_whole}

module _ (s : ThreeStreams) (kept : AreKept s) (key : Key) where
  -- each content of the container is stored
  pub stored_in : EachContent (AreStored (laid s.blobs)) (held_of (logged s) key)
  stored_in = held_of-stored s key kept

  -- the bytes of each piece are as many as the piece has
  read_whole : EachContent (ReadsWhole (bytes_at (laid s.blobs))) (held_of (logged s) key)
  read_whole = contents_whole (laid s.blobs) (held_of (logged s) key) stored_in

  -- the sizes of the container in pieces are those of the container in bytes
  pub same_sizes : part_value pieces_len (held_of (logged s) key) ≡ part_value length (meaning (logged s) key)
  same_sizes = sym (part_value-sizes (content_at (laid s.blobs)) (held_of (logged s) key)
      (EachContent-then (ReadsWhole (bytes_at (laid s.blobs))) (λ ps. length (content_at (laid s.blobs) ps) ≡ pieces_len ps) (length-read (bytes_at (laid s.blobs)))
      (held_of (logged s) key) read_whole))

  -- the bytes of the spans of a reply are those that go out from the container in bytes
  pub same_sent : (q : Asked) (ss : List Span) → ss ≡ spans (held_of (logged s) key) q
      → flat_map (span_bytes (bytes_at (laid s.blobs))) ss ≡ bytes_sent (meaning (logged s) key) q
  same_sent q ss own = ap (flat_map (span_bytes (bytes_at (laid s.blobs)))) own ∙ bytes_sent-read (bytes_at (laid s.blobs)) (held_of (logged s) key) q read_whole
