use Rattle.stamp_model.proofs.ListedMetadataLemmas.{listed-metadata}
use Rattle.stamp_model.proofs.metadata_laws.a_list_shows_the_metadata_that_a_blob_tells.Goals as goal

pub returns : goal.returns
returns c = λ w key name list get lists none gets free. listed-metadata w key name list lists none get gets free
