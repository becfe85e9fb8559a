pub mod BlobNames
