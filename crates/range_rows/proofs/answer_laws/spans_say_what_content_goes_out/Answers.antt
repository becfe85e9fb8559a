use Rattle.range_rows.proofs.SpanLemmas.{bytes_sent-read, reply_of-read}
use Rattle.range_rows.proofs.answer_laws.spans_say_what_content_goes_out.Goals as goal

pub returns-clause-content : goal.returns-clause-content
returns-clause-content c = λ read p q whole. bytes_sent-read read p q whole

pub returns-clause-reply : goal.returns-clause-reply
returns-clause-reply c = λ read v p q whole. reply_of-read read p q whole v
