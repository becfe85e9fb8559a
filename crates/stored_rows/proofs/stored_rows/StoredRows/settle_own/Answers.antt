use Rattle.std.proofs.Common.{◌≡◌, Result, sym, subst}
use Rattle.std.specs.Option.{is_some}
use Rattle.stream_manager.specs.declared.faults.StoredFault.{StoredFault}
use Rattle.stored_rows.specs.Counting.{FailsStored}
use Rattle.stored_rows.specs.Heard.{HearsStored}
use Rattle.stored_rows.specs.States.{SettlesRows, Stored, doubt_of, own_doubt_of}
use Rattle.stored_rows.specs.declared.faults.Ended.{Ended}
use Rattle.stored_rows.proofs.HeardLemmas.{hears_ended}
use Rattle.stored_rows.proofs.LimitLemmas.{limit_kept, settled_limits}
use Rattle.stored_rows.proofs.NotedLemmas.{settled_fails, settled_fits, settled_loaded, settled_rows}
use Rattle.stored_rows.proofs.SweepCallLemmas.{settled_swept}
use Rattle.stored_rows.proofs.RowDoubtLemmas.{settled_again}
use Rattle.stored_rows.proofs.stored_rows.StoredRows.settle_own.Goals as goal

pub note_settled-requires : goal.note_settled-requires
note_settled-requires g c =
    settled_fits c.settle-settled.result c.self.inside.streams c.settle-settled.new.self c.self.inside.range c.self.inside.rows c.self.inside.doubt c.self.invariant.loaded
    c.settle-settled.ensures.blobs c.settle-settled.ensures.rows c.settle-settled.ensures.settled

pub invariant_of-self : goal.invariant_of-self
invariant_of-self g c =
    record {
      loaded = settled_loaded c.settle-settled.result c.self.inside.streams c.settle-settled.new.self c.self.inside.range c.self.inside.rows c.note_settled.new.rows c.self.inside.doubt c.note_settled.new.doubt
          c.self.invariant.loaded c.settle-settled.ensures.blobs c.settle-settled.ensures.rows c.settle-settled.ensures.settled c.note_settled.ensures.noted;
      limits = limit_kept c.self.inside.extent_bytes c.self.inside.streams c.settle-settled.new.self c.self.invariant.limits
          (settled_limits c.self.inside.streams c.settle-settled.new.self c.settle-settled.ensures.blobs c.settle-settled.ensures.rows c.settle-settled.ensures.limit);
      swept = settled_swept c.settle-settled.result c.self.inside.streams c.settle-settled.new.self c.self.inside.range c.self.inside.rows c.self.inside.doubt c.self.inside.sweep c.self.invariant.swept
          c.self.invariant.loaded c.settle-settled.ensures.blobs c.settle-settled.ensures.rows c.settle-settled.ensures.follows c.settle-settled.ensures.settled;
      again = settled_again c.settle-settled.result c.self.inside.streams c.settle-settled.new.self c.self.inside.spare
          (subst (λ (v : Stored). own_doubt_of v ≡ doubt_of v) (sym c.self.view_is) c.requires) c.settle-settled.ensures.settled;
    }

pub returns-clause-settled : goal.returns-clause-settled
returns-clause-settled g c =
    let new : Stored = record { streams = c.settle-settled.new.self; range = c.self.inside.range; is_loaded = is_some c.note_settled.new.rows } in
    subst (λ (v : Stored). SettlesRows c.note_settled.result v new) c.self.view_is
    (subst (λ (r : Result Ended StoredFault). SettlesRows r (record { streams = c.self.inside.streams; range = c.self.inside.range; is_loaded = is_some c.self.inside.rows }) new)
    (sym c.note_settled.ensures.answer)
    (settled_rows c.settle-settled.result c.self.inside.streams c.settle-settled.new.self c.self.inside.range c.self.inside.rows c.note_settled.new.rows c.self.inside.doubt c.note_settled.new.doubt
    c.self.invariant.loaded c.kept.ensures c.settle-settled.ensures.blobs c.settle-settled.ensures.rows c.settle-settled.ensures.settled c.note_settled.ensures.noted
    (subst (λ (v : Stored). own_doubt_of v ≡ doubt_of v) (sym c.self.view_is) c.requires)))

pub returns-clause-counted : goal.returns-clause-counted
returns-clause-counted g c =
    subst (λ (r : Result Ended StoredFault). FailsStored r (g.W.Wire.faults c.args.wire.now) (g.W.Wire.faults c.settle-settled.new.wire)) (sym c.note_settled.ensures.answer)
    (settled_fails c.settle-settled.result (g.W.Wire.faults c.args.wire.now) (g.W.Wire.faults c.settle-settled.new.wire) c.settle-settled.ensures.counted)

pub returns-clause-heard : goal.returns-clause-heard
returns-clause-heard g c =
    subst (λ (r : Result Ended StoredFault). HearsStored r (g.W.Wire.calls c.args.wire.now) (g.W.Wire.calls c.settle-settled.new.wire) (g.W.Wire.faults c.args.wire.now) (g.W.Wire.faults c.settle-settled.new.wire)) (sym c.note_settled.ensures.answer)
    (hears_ended c.settle-settled.result (g.W.Wire.calls c.args.wire.now) (g.W.Wire.calls c.settle-settled.new.wire) (g.W.Wire.faults c.args.wire.now) (g.W.Wire.faults c.settle-settled.new.wire) c.settle-settled.ensures.heard)
