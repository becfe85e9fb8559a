use Rattle.std.proofs.Common.{◌∙◌, ap, sym}
use Rattle.partition_stream.specs.Contents.{bytes_at}
use Rattle.partition_stream.proofs.ContentLemmas.{part_reads}
use Rattle.range_rows.proofs.SpanLemmas.{reply_of-read}
use Rattle.range_rows.specs.SentContent.{reply_of}
use Rattle.tickets.proofs.PartLemmas.{contents_whole}
use Rattle.tickets.proofs.laws.a_ticket_is_the_reply_of_its_serve.Goals as goal

pub returns-clause-reply : goal.returns-clause-reply
returns-clause-reply c = λ es v p q stored. reply_of-read (bytes_at es) p q (contents_whole es p stored) v

pub returns-clause-later : goal.returns-clause-later
returns-clause-later c = λ es fs v p q stored keeps.
    reply_of-read (bytes_at es) p q (contents_whole es p stored) v ∙ ap (λ part. reply_of v part q) (sym (part_reads es fs keeps p stored))
