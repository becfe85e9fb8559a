use Rattle.stamp_model.proofs.BlockListLemmas.{body-listed, body-put_whole, body-uncommitted}
use Rattle.stamp_model.proofs.block_laws.a_block_list_shows_the_blocks.Goals as goal

pub returns-clause-committed : goal.returns-clause-committed
returns-clause-committed c = λ w key name list read fits lists none reads free. body-listed w key name list fits lists none read reads free

pub returns-clause-whole : goal.returns-clause-whole
returns-clause-whole c = λ w key name put read fits puts none reads free. body-put_whole w key name put fits puts none read reads free

pub returns-clause-uncommitted : goal.returns-clause-uncommitted
returns-clause-uncommitted c = λ w key name read reads free. body-uncommitted w key name read reads free
