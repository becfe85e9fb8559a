use Rattle.std.proofs.Common.{◌≡◌, Option, None, IfSome, sym, subst}
use Rattle.std.specs.Option.{is_some}
use Rattle.partition_stream.specs.Streams.{logged}
use Rattle.stored_rows.specs.Checkpoints.{IsWrittenAnew, MeansTheRange}
use Rattle.stored_rows.specs.Loaded.{AreRowsOf}
use Rattle.stored_rows.specs.States.{Stored, doubt_of}
use Rattle.stored_rows.specs.Swept.{AreSwept}
use Rattle.stored_rows.specs.declared.sweep.Sweep.{Sweep}
use Rattle.stored_rows.proofs.CheckpointLemmas.{kept_loaded, means_range, rows_stored, rows_writable, written_anew}
use Rattle.stored_rows.proofs.LimitLemmas.{checkpoint_limit}
use Rattle.stored_rows.proofs.RowDoubtLemmas.{no_row}
use Rattle.stored_rows.proofs.stored_rows.StoredRows.checkpoint.Goals as goal

pub checkpoint_rows-requires-clause-writable : goal.checkpoint_rows-requires-clause-writable
checkpoint_rows-requires-clause-writable g c =
    let own : AreRowsOf c.self.inside.range c.self.inside.streams c.in-Some.rows =
    subst (λ o. IfSome o (AreRowsOf c.self.inside.range c.self.inside.streams)) c.in-Some.is c.self.invariant.loaded.rows in
    rows_writable c.self.inside.streams c.kept.ensures c.self.inside.range c.in-Some.rows own

pub checkpoint_rows-requires-clause-stored : goal.checkpoint_rows-requires-clause-stored
checkpoint_rows-requires-clause-stored g c =
    let own : AreRowsOf c.self.inside.range c.self.inside.streams c.in-Some.rows =
    subst (λ o. IfSome o (AreRowsOf c.self.inside.range c.self.inside.streams)) c.in-Some.is c.self.invariant.loaded.rows in
    rows_stored c.self.inside.streams c.kept.ensures c.self.inside.range c.in-Some.rows own

pub invariant_of-self : goal.invariant_of-self
invariant_of-self g c =
    let none : (logged c.self.inside.streams).doubt ≡ None = subst (λ (v : Stored). doubt_of v ≡ None) (sym c.self.view_is) c.requires.sure in
    record {
      loaded = kept_loaded c.checkpoint_rows.result c.self.inside.streams c.checkpoint_rows.new.streams c.self.inside.range c.self.inside.rows c.in-Some.rows c.self.inside.doubt c.in-Some.is c.self.invariant.loaded none
          c.checkpoint_rows.ensures.doubt c.checkpoint_rows.ensures.meaning c.checkpoint_rows.ensures.rows c.checkpoint_rows.ensures.log c.checkpoint_rows.ensures.same;
      limits = checkpoint_limit c.self.inside.extent_bytes c.self.inside.streams c.checkpoint_rows.new.streams c.checkpoint_rows.result c.self.invariant.limits c.checkpoint_rows.ensures.blobs c.checkpoint_rows.ensures.limits
          c.checkpoint_rows.ensures.same;
      swept = subst (λ (v : Option Sweep). IfSome v (λ w. AreSwept w c.self.inside.range c.checkpoint_rows.new.streams)) (sym c.end_sweep.ensures) tt;
      again = no_row c.checkpoint_rows.new.streams c.self.inside.spare c.checkpoint_rows.ensures.doubt;
    }

pub returns-in-Ok-clause-same : goal.returns-in-Ok-clause-same
returns-in-Ok-clause-same g c =
    let new : Stored = record { streams = c.checkpoint_rows.new.streams; range = c.self.inside.range; is_loaded = is_some c.self.inside.rows } in
    let own : AreRowsOf c.self.inside.range c.self.inside.streams c.in-Some.rows =
    subst (λ o. IfSome o (AreRowsOf c.self.inside.range c.self.inside.streams)) c.in-Some.is c.self.invariant.loaded.rows in
    subst (λ (v : Stored). MeansTheRange v new) c.self.view_is
    (means_range c.self.inside.streams c.checkpoint_rows.new.streams c.self.inside.range c.in-Some.rows own c.in-Ok.ensures.meaning (is_some c.self.inside.rows) c.checkpoint_rows.ensures.blobs)

pub returns-in-Ok-clause-written : goal.returns-in-Ok-clause-written
returns-in-Ok-clause-written g c =
    let new : Stored = record { streams = c.checkpoint_rows.new.streams; range = c.self.inside.range; is_loaded = is_some c.self.inside.rows } in
    let own : AreRowsOf c.self.inside.range c.self.inside.streams c.in-Some.rows =
    subst (λ o. IfSome o (AreRowsOf c.self.inside.range c.self.inside.streams)) c.in-Some.is c.self.invariant.loaded.rows in
    subst (λ (v : Stored). IsWrittenAnew v new) c.self.view_is
    (written_anew c.self.inside.streams c.checkpoint_rows.new.streams c.self.inside.range c.in-Some.rows own c.in-Ok.ensures.meaning c.in-Ok.ensures.rows c.in-Ok.ensures.log (is_some c.self.inside.rows))
