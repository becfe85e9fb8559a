-- Which changes the rows of a partition make, and when (Blob service REST reference, 2012-02-12, the pages of the operations that
-- write; SOSP 2011, section 5.3, checkpoints).
use Rattle.std.specs.Prelude.{ℕ, Bool, true, false, ◌&&◌, ◌||◌, nat_lt, is_none, is_some}
use Rattle.stamp_types.specs.declared.act.Act.{Act}
use Rattle.stamp_types.specs.declared.act.Act.TheVariants as act
use Rattle.stamp_types.specs.ActKinds.{is_row}
use Rattle.stamp_types.specs.World.{Part, blob_in}
use Rattle.block_blobs.specs.UncommittedBlocks.{block_fault}
use Rattle.row_trees.specs.ListedBlocks.{entries_fault}

-- the largest count: a container that has seen this number of changes takes no further change
abbrev pub count_limit : ℕ
count_limit = 18446744073709551615

-- the blob of a Put Block takes the block, and the blob of a Put Block List has the blocks of the entries, within the limits
abbrev pub fits_blob : Part ℕ → Act → Bool
fits_blob p (act.PutBlock a) = is_none (block_fault a.id (blob_in p a.blob).uncommitted)
fits_blob p (act.PutBlockList a) = is_none (entries_fault (blob_in p a.blob) a.entries)
fits_blob p other = true

-- the change makes its container
abbrev pub creates : Act → Bool
creates (act.CreateContainer a) = true
creates other = false

-- the change deletes a blob, or the container with its blobs
abbrev pub deletes : Act → Bool
deletes act.DeleteContainer = true
deletes (act.DeleteBlob a) = true
deletes other = false

-- the change makes content of the blocks of a list
abbrev pub commits : Act → Bool
commits (act.PutBlockList a) = true
commits other = false

-- a change of a container that exists, or its creation, in a container that takes one more change, if it fits its blob; a row of a
-- checkpoint always fits
abbrev pub fits : Part ℕ → Act → Bool
fits p a = is_row a || ((is_some p.standing || creates a) && nat_lt p.count count_limit && fits_blob p a)
