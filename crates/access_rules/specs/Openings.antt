-- What each level of public access and each permission of a token opens, by the names of the operations (Blob service REST
-- reference, 2012-02-12, Set Container ACL: blob data and container data; Get Block List; Delegating Access with a Shared Access
-- Signature: the permissions).
use Rattle.std.specs.Prelude.{Bool, true, false, ◌&&◌, ◌||◌, Option, None, Some}
use Rattle.stamp_values.specs.declared.block.BlockKinds.{BlockKinds}
use Rattle.stamp_values.specs.declared.block.BlockKinds.TheVariants.{Committed}
use Rattle.stamp_values.specs.declared.op.Op.{Op}
use Rattle.stamp_values.specs.declared.op.Op.TheVariants.{ListContainers, CreateContainer, ContainerProperties, SetContainerMetadata, GetAcl, SetAcl, DeleteContainer, ListBlobs, PutBlob, GetBlob, BlobProperties, GetMetadata, SetMetadata, DeleteBlob, PutBlock, PutBlockList, GetBlockList}
use Rattle.stamp_values.specs.Letters.{Permissions}
use Rattle.sas_token.specs.declared.token.Resource.{Resource}
use Rattle.sas_token.specs.declared.token.Resource.TheVariants.{Container}

-- the operation reads the data of a blob: its content, properties, metadata or committed blocks, which are the blocks that a
-- request names if it names no kind
abbrev pub reads_blob_data : Op → Option BlockKinds → Bool
reads_blob_data GetBlob kinds = true
reads_blob_data BlobProperties kinds = true
reads_blob_data GetMetadata kinds = true
reads_blob_data GetBlockList None = true
reads_blob_data GetBlockList (Some Committed) = true
reads_blob_data other kinds = false

-- the operation reads the data of a container: its properties or the list of its blobs
abbrev pub reads_container_data : Op → Bool
reads_container_data ContainerProperties = true
reads_container_data ListBlobs = true
reads_container_data other = false

-- the operation reads a blob: its content, properties, metadata or blocks of any kind
abbrev pub reads_blob : Op → Bool
reads_blob GetBlob = true
reads_blob BlobProperties = true
reads_blob GetMetadata = true
reads_blob GetBlockList = true
reads_blob other = false

-- the operation writes the content or the metadata of a blob
abbrev pub writes_blob : Op → Bool
writes_blob PutBlob = true
writes_blob SetMetadata = true
writes_blob PutBlock = true
writes_blob PutBlockList = true
writes_blob other = false

-- the operation deletes a blob
abbrev pub deletes_blob : Op → Bool
deletes_blob DeleteBlob = true
deletes_blob other = false

-- the operation lists blobs, and the token is for a container
abbrev pub lists_blobs : Resource → Op → Bool
lists_blobs Container ListBlobs = true
lists_blobs other operation = false

-- a permission of a token for this resource names the operation: r names reads of a blob, w names writes of a blob, d names the
-- deletion of a blob, and l names the list of the blobs of a container
abbrev pub names_operation : Permissions → Resource → Op → Bool
names_operation p r o = (p.read && reads_blob o) || (p.write && writes_blob o) || (p.delete && deletes_blob o) || (p.list && lists_blobs r o)

-- the operation is about a container itself, or about all containers of an account
abbrev pub is_about_containers : Op → Bool
is_about_containers ListContainers = true
is_about_containers CreateContainer = true
is_about_containers ContainerProperties = true
is_about_containers SetContainerMetadata = true
is_about_containers GetAcl = true
is_about_containers SetAcl = true
is_about_containers DeleteContainer = true
is_about_containers other = false
