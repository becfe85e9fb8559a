use Rattle.partition_stream.proofs.ContentLemmas.{changed_content, content_stays, content_reads, part_stays, part_reads}
use Rattle.partition_stream.proofs.MeaningLemmas.{held_of-stored}
use Rattle.partition_stream.proofs.laws.stored_content_stays.Goals as goal

pub returns-clause-pieces : goal.returns-clause-pieces
returns-clause-pieces c = λ es fs ps keeps stored. (content_stays es fs keeps ps stored, content_reads es fs keeps ps stored)

pub returns-clause-part : goal.returns-clause-part
returns-clause-part c = λ es fs p keeps stored. (part_stays es fs keeps p stored, part_reads es fs keeps p stored)

pub returns-clause-each : goal.returns-clause-each
returns-clause-each c = λ s key kept. held_of-stored s key kept

pub returns-clause-brought : goal.returns-clause-brought
returns-clause-brought c = λ es change ps some stored. changed_content es change ps some stored
