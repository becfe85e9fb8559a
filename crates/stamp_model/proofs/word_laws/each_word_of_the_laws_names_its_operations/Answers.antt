use Rattle.std.proofs.Common.{refl, arith}
use Rattle.stamp_values.specs.declared.op.Op.{Op}
use Rattle.stamp_values.specs.declared.op.Op.TheVariants.{ListContainers, CreateContainer, ContainerProperties, SetContainerMetadata, GetAcl, SetAcl, DeleteContainer, ListBlobs, PutBlob, GetBlob, BlobProperties, GetMetadata, SetMetadata, DeleteBlob, PutBlock, PutBlockList, GetBlockList}
use Rattle.std.specs.List.{Contains}
use Rattle.stamp_model.specs.Words.{operations}
use Rattle.stamp_model.proofs.word_laws.each_word_of_the_laws_names_its_operations.Goals as goal

-- the place of each operation
placed : (o : Op) → Contains operations o
placed ListContainers = (0, omega arith, refl)
placed CreateContainer = (1, omega arith, refl)
placed ContainerProperties = (2, omega arith, refl)
placed SetContainerMetadata = (3, omega arith, refl)
placed GetAcl = (4, omega arith, refl)
placed SetAcl = (5, omega arith, refl)
placed DeleteContainer = (6, omega arith, refl)
placed ListBlobs = (7, omega arith, refl)
placed PutBlob = (8, omega arith, refl)
placed GetBlob = (9, omega arith, refl)
placed BlobProperties = (10, omega arith, refl)
placed GetMetadata = (11, omega arith, refl)
placed SetMetadata = (12, omega arith, refl)
placed DeleteBlob = (13, omega arith, refl)
placed PutBlock = (14, omega arith, refl)
placed PutBlockList = (15, omega arith, refl)
placed GetBlockList = (16, omega arith, refl)

pub returns-clause-all : goal.returns-clause-all
returns-clause-all c = placed
