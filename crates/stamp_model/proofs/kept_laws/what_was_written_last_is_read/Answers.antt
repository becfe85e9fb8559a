use Rattle.stamp_model.proofs.BlockLemmas.{kept-list}
use Rattle.stamp_model.proofs.LastLemmas.{body-list_last, body-put_last, headers-list_last, headers-put_last, headers-set_last, reply-deleted_last, reply-later}
use Rattle.stamp_model.proofs.WrittenLemmas.{kept-put}
use Rattle.stamp_model.proofs.kept_laws.what_was_written_last_is_read.Goals as goal

pub returns-clause-body : goal.returns-clause-body
returns-clause-body c = λ w key name put middle get fits puts none all gets whole free.
    let keeps = kept-put put.request key name fits puts in body-put_last w key name keeps.0 put puts keeps.1 none middle all get gets whole free

pub returns-clause-kept : goal.returns-clause-kept
returns-clause-kept c = λ w key name kept put middle get puts keeps none all gets whole free. headers-put_last w key name kept put puts keeps none middle all get gets whole free

pub returns-clause-list : goal.returns-clause-list
returns-clause-list c = λ w key name list middle get fits lists none all gets whole free.
    let keeps = kept-list list.request key name fits lists in body-list_last w key name list lists none keeps.0 keeps.1 middle all get gets whole free

pub returns-clause-kept_list : goal.returns-clause-kept_list
returns-clause-kept_list c = λ w key name kept list middle get lists keeps none all gets whole free. headers-list_last w key name list lists none kept keeps middle all get gets whole free

pub returns-clause-metadata : goal.returns-clause-metadata
returns-clause-metadata c = λ w key name set middle get sets none all gets free. headers-set_last w key name set sets none middle all get gets free

pub returns-clause-later : goal.returns-clause-later
returns-clause-later c = λ w name middle read on reads all free later_free. reply-later w name middle read on reads all free later_free

pub returns-clause-deleted : goal.returns-clause-deleted
returns-clause-deleted c = λ w key name delete middle read deletes none all at on needs admits. reply-deleted_last w key name delete deletes none middle all read at on needs admits
