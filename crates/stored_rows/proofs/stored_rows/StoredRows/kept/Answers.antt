use Rattle.std.proofs.Common.{◌≡◌, length, subst}
use Rattle.stamp_values.specs.declared.key.Key.{Key}
use Rattle.stamp_types.specs.Contents.{EachContent}
use Rattle.stamp_types.specs.Pieces.{pieces_len}
use Rattle.stamp_types.specs.World.{part_value}
use Rattle.stream_manager.specs.Streams.{laid}
use Rattle.partition_stream.specs.Contents.{AreStored}
use Rattle.stored_rows.specs.States.{Stored, bytes_of, pieces_of}
use Rattle.stored_rows.proofs.ReadLemmas.{same_sizes, stored_in}
use Rattle.stored_rows.proofs.stored_rows.StoredRows.kept.Goals as goal

pub returns-clause-stored : goal.returns-clause-stored
returns-clause-stored c =
    subst (λ (v : Stored). (key : Key) → EachContent (AreStored (laid v.streams.blobs)) (pieces_of v key)) c.self.view_is (λ key. stored_in c.self.inside.streams c.kept.ensures key)

pub returns-clause-sizes : goal.returns-clause-sizes
returns-clause-sizes c =
    subst (λ (v : Stored). (key : Key) → part_value pieces_len (pieces_of v key) ≡ part_value length (bytes_of v key)) c.self.view_is (λ key. same_sizes c.self.inside.streams c.kept.ensures key)
