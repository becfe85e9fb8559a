use Rattle.std.proofs.Common.{◌≡◌, IfOk, subst}
use Rattle.std.specs.List.{flat_map}
use Rattle.stamp_types.specs.Requests.{Asked}
use Rattle.stream_manager.specs.Streams.{laid}
use Rattle.partition_stream.specs.Contents.{bytes_at}
use Rattle.range_rows.specs.SentContent as sent
use Rattle.range_rows.specs.SentContent.{bytes_sent, span_bytes, with_content}
use Rattle.tickets.specs.Answers.{IsAnswerIf, are_in_last}
use Rattle.stored_rows.specs.States.{Stored, bytes_of, pieces_of}
use Rattle.stored_rows.proofs.ReadLemmas.{same_sent}
use Rattle.stored_rows.proofs.stored_rows.StoredRows.answer.Goals as goal

pub returns-clause-read : goal.returns-clause-read
returns-clause-read g c =
    subst (λ (v : Stored). IfOk c.make_answer.result (λ a. IsAnswerIf c.args.gathers a (are_in_last v.streams.blobs c.args.spans.now)
    (with_content c.args.frame (flat_map (span_bytes (bytes_at (laid v.streams.blobs))) c.args.spans.now)))) c.self.view_is c.make_answer.ensures.answered

pub returns-clause-sent : goal.returns-clause-sent
returns-clause-sent g c =
    subst (λ (v : Stored). (q : Asked) → c.args.spans.now ≡ sent.spans (pieces_of v q.ask.key) q
    → IfOk c.make_answer.result (λ a. IsAnswerIf c.args.gathers a (are_in_last v.streams.blobs c.args.spans.now) (with_content c.args.frame (bytes_sent (bytes_of v q.ask.key) q)))) c.self.view_is
    (λ q own. subst (λ bytes. IfOk c.make_answer.result (λ a. IsAnswerIf c.args.gathers a (are_in_last c.self.inside.streams.blobs c.args.spans.now) (with_content c.args.frame bytes)))
    (same_sent c.self.inside.streams c.kept.ensures q.ask.key q c.args.spans.now own) c.make_answer.ensures.answered)
