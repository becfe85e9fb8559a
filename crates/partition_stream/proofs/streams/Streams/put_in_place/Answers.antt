use Rattle.std.proofs.Common.{◌≡◌, ◌∙◌, None, ap, subst, sym}
use Rattle.stream_manager.specs.Streams.{Streamed, laid}
use Rattle.partition_stream.specs.Checkpoints.{AreStoredRows}
use Rattle.partition_stream.specs.Storing.{AreKept}
use Rattle.partition_stream.specs.Streams.{ThreeStreams}
use Rattle.partition_stream.proofs.CheckpointLemmas.{kept_in_place}
use Rattle.partition_stream.proofs.streams.Streams.put_in_place.Goals as goal

pub invariant_of-self : goal.invariant_of-self
invariant_of-self c =
    let mine : AreStoredRows (laid c.self.inside.blobs) c.args.rows = subst (λ (s : ThreeStreams). AreStoredRows (laid s.blobs) c.args.rows) (sym c.self.view_is) c.requires.stored in
    let stored : AreStoredRows (laid c.self.inside.blobs) c.rows.inside.rows = subst (λ (r : Streamed). AreStoredRows (laid c.self.inside.blobs) r) (sym c.rows.view_is) mine in
    let whole : c.rows.inside.rows.last.tried ≡ None = ap (λ (r : Streamed). r.last.tried) c.rows.view_is ∙ c.requires.whole in
    let kept = kept_in_place c.self.inside.blobs c.new-log.result c.rows.inside.rows c.new-log.ensures.sealed c.new-log.ensures.blocks c.new-log.ensures.tried stored whole in
    let logged = subst (λ (l : Streamed). AreKept (record { log = l; blobs = c.self.inside.blobs; rows = c.rows.inside.rows })) (sym c.replace.ensures.after) kept in
    subst (λ (r : Streamed). AreKept (record { log = c.replace.new.dest; blobs = c.self.inside.blobs; rows = r })) (sym c.replace-2.ensures.after) logged
