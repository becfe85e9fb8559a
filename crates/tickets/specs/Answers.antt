-- What a served request is answered (SOSP 2011, section 4.1: a sealed extent never changes).
use Rattle.std.specs.Prelude.{◌≡◌, ◌⊎◌, ⊤, Bool, true, false, List}
use Rattle.std.specs.List.{list_all}
use Rattle.extent_node.specs.Copies.{Block}
use Rattle.stamp_types.specs.declared.reply.Reply.{Reply}
use Rattle.stream_manager.specs.Streams.{Streamed, laid}
use Rattle.partition_stream.specs.Contents.{IsStored, bytes_at}
use Rattle.partition_stream.specs.Parts.{KeptPart, is_piece_in_last}
use Rattle.range_rows.specs.declared.answer.Span.{Span}
use Rattle.range_rows.specs.SentContent.{span_bytes}
use Rattle.tickets.specs.declared.answer.Answer.{Answer}
use Rattle.tickets.specs.declared.answer.Answer.TheVariants as answer

-- the piece of the span is at a place with a block of its length
abbrev pub IsSpanStored : List (List Block) → Span → Type 0
IsSpanStored es s = IsStored es s.piece

-- the part that a span asks for: it is read now if its piece is in the last extent
abbrev pub kept_span : Streamed → Span → KeptPart
kept_span blobs s = record { bytes = span_bytes (bytes_at (laid blobs)) s; is_read = is_piece_in_last blobs s.piece }

-- each span is in the last extent
abbrev pub are_in_last : Streamed → List Span → Bool
are_in_last blobs ss = list_all (λ s. is_piece_in_last blobs s.piece) ss

-- the answer is this reply, now if all of its content was read, and later if not; or memory ran out
abbrev pub IsAnswer : Answer → Bool → Reply → Type 0
IsAnswer (answer.Done r) read reply = (r ≡ reply) × (read ≡ true)
IsAnswer (answer.Later t) read reply = (t ≡ reply) × (read ≡ false)
IsAnswer answer.NoMemory read reply = ⊤

-- the same, but if lists are gathered, the answer may be later though all of its content was read
abbrev pub IsAnswerIf : Bool → Answer → Bool → Reply → Type 0
IsAnswerIf gathers (answer.Done r) read reply = (r ≡ reply) × (read ≡ true)
IsAnswerIf gathers (answer.Later t) read reply = (t ≡ reply) × ((read ≡ false) ⊎ (gathers ≡ true))
IsAnswerIf gathers answer.NoMemory read reply = ⊤
