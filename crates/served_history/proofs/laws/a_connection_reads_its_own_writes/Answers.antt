use Rattle.served_history.proofs.ConnectionLemmas.{later_reads}
use Rattle.served_history.proofs.WriteLemmas.{blocks_read, body_read}
use Rattle.served_history.proofs.laws.a_connection_reads_its_own_writes.Goals as goal

pub returns-clause-later : goal.returns-clause-later
returns-clause-later c = λ seen seen' front earlier middle later back reads. later_reads seen seen' front earlier middle later back reads

pub returns-clause-put : goal.returns-clause-put
returns-clause-put c = λ known key name put get reads all fits puts gets whole accepted read. body_read known key name put get reads all gets whole accepted read fits puts

pub returns-clause-commit : goal.returns-clause-commit
returns-clause-commit c = λ known key name list get reads all fits lists gets whole accepted read. blocks_read known key name list get reads all gets whole accepted read fits lists
