-- The three streams of a partition, and the changes that they keep (SOSP 2011, section 5).
use Rattle.std.specs.Prelude.{◌≡◌, List, [], None, Option}
use Rattle.std.specs.Option.{option_and_then}
use Rattle.extent_node.specs.Copies.{Block}
use Rattle.stream_manager.specs.Places.{blocks_of}
use Rattle.stream_manager.specs.Streams.{Streamed, laid}
use Rattle.partition_stream.specs.Changes.{Recorded, change_in, changes_of}

-- the log of changes, the data to which changes refer, and the rows of the last checkpoint
pub record ThreeStreams : Type 0 where
  pub log : Streamed
  pub blobs : Streamed
  pub rows : Streamed

-- the changes that three streams keep
pub record Logged : Type 0 where
  -- the changes that the rows of the last checkpoint are
  pub rows : List Recorded
  -- the changes that were acknowledged, or kept by a settle, since that checkpoint
  pub log : List Recorded
  -- the change that is in doubt
  pub doubt : Option Recorded
  -- the blocks of each extent of the data
  pub blobs : List (List Block)

abbrev pub logged : ThreeStreams → Logged
logged s = record {
  rows = changes_of (blocks_of (laid s.rows));
  log = changes_of (blocks_of (laid s.log));
  doubt = option_and_then change_in s.log.last.tried;
  blobs = laid s.blobs;
}

-- the last extent has no block, and there is no doubt
pub record IsEmptyLast (s : Streamed) : Type 0 where
  pub blocks : s.last.blocks ≡ []
  pub tried : s.last.tried ≡ None

-- each block of the three streams is in a sealed extent
pub record AreSealed (s : ThreeStreams) : Type 0 where
  pub log : IsEmptyLast s.log
  pub blobs : IsEmptyLast s.blobs
  pub rows : IsEmptyLast s.rows

-- the streams have the same blocks at the same places
pub record HaveSameBlocks (s t : ThreeStreams) : Type 0 where
  pub log : laid t.log ≡ laid s.log
  pub blobs : laid t.blobs ≡ laid s.blobs
  pub rows : laid t.rows ≡ laid s.rows

-- extents of two or more blocks may have as many bytes as before
pub record HaveSameLimits (s t : ThreeStreams) : Type 0 where
  pub log : t.log.limit ≡ s.log.limit
  pub blobs : t.blobs.limit ≡ s.blobs.limit
  pub rows : t.rows.limit ≡ s.rows.limit
