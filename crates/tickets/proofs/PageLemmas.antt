-- Answers of pages whose text is written later.
use Rattle.std.proofs.Common.{◌≡◌, ◌++◌, Bool, true, List, [], inl, inr, sym, ap, ◌∙◌}
use Rattle.std.specs.Prelude.{ℕ}
use Rattle.std.specs.List.{flat_map}
use Rattle.std.proofs.lemmas.List.{append-nil}
use Rattle.stamp_types.specs.declared.piece.Piece.{Piece}
use Rattle.stamp_types.specs.declared.reply.Reply.{Reply}
use Rattle.range_rows.specs.declared.answer.Span.{Span}
use Rattle.range_rows.specs.SentContent.{span_bytes, with_content}
use Rattle.tickets.specs.Answers.{IsAnswer, IsAnswerIf}
use Rattle.tickets.specs.declared.answer.Answer.{Answer}
use Rattle.tickets.specs.declared.answer.Answer.TheVariants as answer

-- an answer is one whether lists are gathered or not
pub answer_if : (gathers : Bool) (a : Answer) (read : Bool) (r : Reply) → IsAnswer a read r → IsAnswerIf gathers a read r
answer_if gathers (answer.Done d) read r is = is
answer_if gathers (answer.Later t) read r is = (is.0, inl is.1)
answer_if gathers answer.NoMemory read r is = tt

-- nothing goes out after the page
without_content : (r : Reply) (read : Piece → List ℕ) (ss : List Span) → ss ≡ [] → r ≡ with_content r (flat_map (span_bytes read) ss)
without_content r read ss none = sym ((λ i. record r { body = (ap (λ x. r.body ++ flat_map (span_bytes read) x) none ∙ append-nil r.body) i }))

-- a page whose text is written later is the reply, if lists are gathered and nothing goes out after the page
pub page_later : (gathers : Bool) (t r : Reply) (in_last : Bool) (read : Piece → List ℕ) (ss : List Span) → t ≡ r → ss ≡ [] → gathers ≡ true
    → IsAnswerIf gathers (answer.Later t) in_last (with_content r (flat_map (span_bytes read) ss))
page_later gathers t r in_last read ss same none is = (same ∙ without_content r read ss none, inr is)
