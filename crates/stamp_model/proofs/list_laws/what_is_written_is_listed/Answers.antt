use Rattle.stamp_model.proofs.ListedLemmas.{listed-deleted, listed-told, listed-written}
use Rattle.stamp_model.proofs.list_laws.what_is_written_is_listed.Goals as goal

pub returns-clause-told : goal.returns-clause-told
returns-clause-told c = λ w key name list get lists none gets whole own free. listed-told w key name list lists none get gets whole own free

pub returns-clause-written : goal.returns-clause-written
returns-clause-written c = λ w key name o write list leaves fits on free lists none. listed-written w key name o write leaves fits on free list lists none

pub returns-clause-deleted : goal.returns-clause-deleted
returns-clause-deleted c = λ w key name delete list deletes free lists none. listed-deleted w key name delete deletes free list lists none
