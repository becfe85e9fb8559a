use Rattle.std.proofs.Common.{◌≡◌, None, Result, subst, sym}
use Rattle.stamp_values.specs.declared.key.Key.{Key}
use Rattle.partition_stream.specs.Streams.{logged}
use Rattle.stored_rows.specs.States.{Stored, bytes_of, own_doubt, own_doubt_of}
use Rattle.std.specs.Option.{is_some}
use Rattle.std.specs.Prelude.{OnErr}
use Rattle.stored_rows.proofs.LimitLemmas.{limit_kept, settled_limits}
use Rattle.stored_rows.proofs.RowDoubtLemmas.{ended_err, row_ended_again, row_ended_loaded, row_ended_means, row_fits_memory}
use Rattle.stored_rows.proofs.SweepCallLemmas.{settled_swept}
use Rattle.stream_manager.specs.declared.faults.StoredFault.{StoredFault}
use Rattle.stored_rows.specs.Heard.{HearsStored}
use Rattle.stored_rows.proofs.HeardLemmas.{hears_row_ended}
use Rattle.stored_rows.proofs.stored_rows.StoredRows.settle_row.Goals as goal

pub end_row-requires : goal.end_row-requires
end_row-requires g c =
    let own : own_doubt (logged c.self.inside.streams).doubt ≡ None = subst (λ (v : Stored). own_doubt_of v ≡ None) (sym c.self.view_is) c.requires.own in
    row_fits_memory c.self.inside.streams c.settle-settled.new.self c.self.inside.range c.self.inside.rows c.self.inside.doubt c.self.inside.spare c.self.invariant.loaded c.self.invariant.again own c.settle-settled.result c.settle-settled.ensures.settled

pub invariant_of-self : goal.invariant_of-self
invariant_of-self g c =
    let own : own_doubt (logged c.self.inside.streams).doubt ≡ None = subst (λ (v : Stored). own_doubt_of v ≡ None) (sym c.self.view_is) c.requires.own in
    record {
      loaded = row_ended_loaded c.self.inside.streams c.settle-settled.new.self c.self.inside.range c.self.inside.rows c.self.inside.doubt c.self.inside.spare c.self.invariant.loaded c.self.invariant.again own c.kept.ensures c.settle-settled.ensures.blobs c.settle-settled.ensures.rows c.settle-settled.result c.end_row.new.rows c.end_row.new.doubt
          c.settle-settled.ensures.settled c.end_row.ensures.ended;
      limits = limit_kept c.self.inside.extent_bytes c.self.inside.streams c.settle-settled.new.self c.self.invariant.limits
          (settled_limits c.self.inside.streams c.settle-settled.new.self c.settle-settled.ensures.blobs c.settle-settled.ensures.rows c.settle-settled.ensures.limit);
      swept = settled_swept c.settle-settled.result c.self.inside.streams c.settle-settled.new.self c.self.inside.range c.self.inside.rows c.self.inside.doubt c.self.inside.sweep c.self.invariant.swept
          c.self.invariant.loaded c.settle-settled.ensures.blobs c.settle-settled.ensures.rows c.settle-settled.ensures.follows c.settle-settled.ensures.settled;
      again = row_ended_again c.self.inside.streams c.settle-settled.new.self c.self.inside.range c.self.inside.rows c.self.inside.doubt c.self.inside.spare c.self.invariant.loaded c.self.invariant.again own c.kept.ensures c.settle-settled.ensures.blobs c.settle-settled.ensures.rows c.settle-settled.result c.end_row.new.spare c.settle-settled.ensures.settled
          (ended_err c.settle-settled.result (c.end_row.new.spare ≡ c.self.inside.spare)
          (subst (λ r. OnErr r (c.end_row.new.spare ≡ c.self.inside.spare)) c.end_row.ensures.answer c.end_row.ensures.refused));
    }

pub returns-clause-means : goal.returns-clause-means
returns-clause-means g c =
    let own : own_doubt (logged c.self.inside.streams).doubt ≡ None = subst (λ (v : Stored). own_doubt_of v ≡ None) (sym c.self.view_is) c.requires.own in
    let new : Stored = record { streams = c.settle-settled.new.self; range = c.self.inside.range; is_loaded = is_some c.end_row.new.rows } in
    subst (λ (v : Stored). (key : Key) → bytes_of new key ≡ bytes_of v key) c.self.view_is
    (row_ended_means c.self.inside.streams c.settle-settled.new.self c.self.inside.range c.self.inside.rows c.self.inside.doubt c.self.inside.spare c.self.invariant.loaded c.self.invariant.again own c.kept.ensures c.settle-settled.ensures.blobs c.settle-settled.ensures.rows c.settle-settled.result c.settle-settled.ensures.settled)

pub returns-clause-heard : goal.returns-clause-heard
returns-clause-heard g c =
    subst (λ (r : Result (Unit {0}) StoredFault). HearsStored r (g.W.Wire.calls c.args.wire.now) (g.W.Wire.calls c.settle-settled.new.wire) (g.W.Wire.faults c.args.wire.now) (g.W.Wire.faults c.settle-settled.new.wire)) (sym c.end_row.ensures.answer)
    (hears_row_ended c.settle-settled.result (g.W.Wire.calls c.args.wire.now) (g.W.Wire.calls c.settle-settled.new.wire) (g.W.Wire.faults c.args.wire.now) (g.W.Wire.faults c.settle-settled.new.wire) c.settle-settled.ensures.heard)
