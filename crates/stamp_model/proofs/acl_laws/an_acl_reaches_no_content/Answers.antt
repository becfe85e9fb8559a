use Rattle.stamp_model.proofs.AclLemmas.{content-acl}
use Rattle.stamp_model.proofs.acl_laws.an_acl_reaches_no_content.Goals as goal

pub returns-clause-blobs : goal.returns-clause-blobs
returns-clause-blobs c = λ keys w q t k sets. (content-acl keys w q t sets k).blobs

pub returns-clause-metadata : goal.returns-clause-metadata
returns-clause-metadata c = λ keys w q t k sets. (content-acl keys w q t sets k).metadata
