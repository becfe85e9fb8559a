-- All operations (Blob service REST reference, 2012-02-12, the page of each operation).
use Rattle.std.specs.Prelude.{List, [], ◌∷◌}
use Rattle.stamp_values.specs.declared.op.Op.{Op}
use Rattle.stamp_values.specs.declared.op.Op.TheVariants.{ListContainers, CreateContainer, ContainerProperties, SetContainerMetadata, GetAcl, SetAcl, DeleteContainer, ListBlobs, PutBlob, GetBlob, BlobProperties, GetMetadata, SetMetadata, DeleteBlob, PutBlock, PutBlockList, GetBlockList}

-- all operations, in the order of their enum
abbrev pub operations : List Op
operations =
    ListContainers ∷ CreateContainer ∷ ContainerProperties ∷ SetContainerMetadata ∷ GetAcl ∷ SetAcl ∷ DeleteContainer ∷ ListBlobs
    ∷ PutBlob ∷ GetBlob ∷ BlobProperties ∷ GetMetadata ∷ SetMetadata ∷ DeleteBlob ∷ PutBlock ∷ PutBlockList ∷ GetBlockList ∷ []
