use Rattle.stamp_model.proofs.AclLemmas.{headers-set_acl, shows-get_acl}
use Rattle.stamp_model.proofs.WrittenLemmas.{headers-put, headers-get, body-get, length-properties, kept-put, headers-set, headers-get_metadata, headers-set_container, headers-properties, reply-deleted_blob, reply-deleted_container, reply-made_again}
use Rattle.stamp_model.proofs.run_laws.what_is_written_is_read.Goals as goal

pub returns-clause-body : goal.returns-clause-body
returns-clause-body c = λ w key name put get fits puts gets whole none free.
    let keeps = kept-put put.request key name fits puts in
    body-get w key name keeps.0 put puts keeps.1 none get gets whole free

pub returns-clause-put : goal.returns-clause-put
returns-clause-put c = λ w key name kept put puts keeps none. headers-put w key name kept put puts keeps none

pub returns-clause-get : goal.returns-clause-get
returns-clause-get c = λ w key name kept put get puts keeps gets whole none free. headers-get w key name kept put puts keeps none get gets whole free

pub returns-clause-length : goal.returns-clause-length
returns-clause-length c = λ w key name put get fits puts gets none free.
    let keeps = kept-put put.request key name fits puts in
    length-properties w key name keeps.0 put puts keeps.1 none get gets free

pub returns-clause-set : goal.returns-clause-set
returns-clause-set c = λ w key name set sets none. headers-set w key name set sets none

pub returns-clause-metadata : goal.returns-clause-metadata
returns-clause-metadata c = λ w key name set get sets gets none free. headers-get_metadata w key name set sets none get gets free

pub returns-clause-set_container : goal.returns-clause-set_container
returns-clause-set_container c = λ w key set sets none. headers-set_container w key set sets none

pub returns-clause-properties : goal.returns-clause-properties
returns-clause-properties c = λ w key set get sets gets none free. headers-properties w key set sets none get gets free

pub returns-clause-set_acl : goal.returns-clause-set_acl
returns-clause-set_acl c = λ w key set sets none. headers-set_acl w key set sets none

pub returns-clause-acl : goal.returns-clause-acl
returns-clause-acl c = λ w key set get sets gets none free. shows-get_acl w key set sets none get gets free

pub returns-clause-deleted_blob : goal.returns-clause-deleted_blob
returns-clause-deleted_blob c = λ w key name delete read deletes none same named needs admits. reply-deleted_blob w key name delete deletes none read same named needs admits

pub returns-clause-deleted_container : goal.returns-clause-deleted_container
returns-clause-deleted_container c = λ w key delete ask deletes none same needs admits. reply-deleted_container w key delete deletes none ask same needs admits

pub returns-clause-made_again : goal.returns-clause-made_again
returns-clause-made_again c = λ w key delete create read deletes creates none made same needs admits. reply-made_again w key delete deletes none create creates made read same needs admits
