use Rattle.body_forms.proofs.PageTokensRead.{blob_list_read, container_list_read}
use Rattle.body_forms.proofs.laws.a_written_list_reads_as_its_entries.Goals as goal

pub returns-clause-blobs : goal.returns-clause-blobs
returns-clause-blobs c = blob_list_read

pub returns-clause-containers : goal.returns-clause-containers
returns-clause-containers c = container_list_read
