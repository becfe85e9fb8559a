use Rattle.std.proofs.Common.{◌≡◌, true, Option, None, IfSome, Result, sym, subst}
use Rattle.std.specs.Option.{is_some}
use Rattle.partition_stream.specs.Meanings.{held_of}
use Rattle.partition_stream.specs.Streams.{logged}
use Rattle.partition_stream.specs.declared.faults.TakeFault.{TakeFault}
use Rattle.row_trees.specs.ListedBlocks.{AreFoundFor}
use Rattle.stored_rows.specs.Counting.{FailsTake}
use Rattle.stored_rows.specs.Fitting.{Fits}
use Rattle.stored_rows.specs.Heard.{HearsTake}
use Rattle.stored_rows.specs.Ranges.{covers}
use Rattle.stored_rows.specs.Swept.{AreSwept}
use Rattle.stored_rows.specs.declared.sweep.Sweep.{Sweep}
use Rattle.stored_rows.specs.States.{AreFoundIn, IsTaken, Stored, doubt_of, pieces_of}
use Rattle.stored_rows.proofs.HeardLemmas.{hears_taken}
use Rattle.stored_rows.proofs.LimitLemmas.{limit_kept}
use Rattle.stored_rows.proofs.NotedLemmas.{logged_fits, logged_found, noted_fails, noted_loaded, noted_taken}
use Rattle.stored_rows.proofs.SweepCallLemmas.{logged_swept}
use Rattle.stored_rows.proofs.RowDoubtLemmas.{taken_again}
use Rattle.stored_rows.proofs.stored_rows.StoredRows.take_change.Goals as goal

pub note-requires-clause-fits : goal.note-requires-clause-fits
note-requires-clause-fits g c =
    let covered : covers c.self.inside.range c.args.change.key ≡ true = subst (λ (v : Stored). covers v.range c.args.change.key ≡ true) (sym c.self.view_is) c.requires.covered in
    let own : Fits (held_of (logged c.self.inside.streams) c.args.change.key) c.args.change.act =
    subst (λ (v : Stored). Fits (pieces_of v c.args.change.key) c.args.change.act) (sym c.self.view_is) c.requires.fits in
    logged_fits c.put_and_log-logged.result c.self.inside.streams c.put_and_log-logged.new.streams (c.args.change, c.args.epoch) c.self.inside.range covered own c.put_and_log-logged.ensures.logged
    c.self.inside.rows c.self.invariant.loaded.rows

pub note-requires-clause-found : goal.note-requires-clause-found
note-requires-clause-found g c =
    let covered : covers c.self.inside.range c.args.change.key ≡ true = subst (λ (v : Stored). covers v.range c.args.change.key ≡ true) (sym c.self.view_is) c.requires.covered in
    let own : IfSome c.args.found (λ blocks. AreFoundFor (held_of (logged c.self.inside.streams) c.args.change.key) c.args.change.act blocks) =
    subst (λ (v : Stored). IfSome c.args.found (AreFoundIn v c.args.change)) (sym c.self.view_is) c.requires.found in
    logged_found c.put_and_log-logged.result c.self.inside.streams c.put_and_log-logged.new.streams (c.args.change, c.args.epoch) c.self.inside.range c.args.found covered own
    c.put_and_log-logged.ensures.logged c.put_and_log-logged.ensures.found c.self.inside.rows c.self.invariant.loaded.rows

pub invariant_of-self : goal.invariant_of-self
invariant_of-self g c =
    let covered : covers c.self.inside.range c.args.change.key ≡ true = subst (λ (v : Stored). covers v.range c.args.change.key ≡ true) (sym c.self.view_is) c.requires.covered in
    let own : Fits (held_of (logged c.self.inside.streams) c.args.change.key) c.args.change.act =
    subst (λ (v : Stored). Fits (pieces_of v c.args.change.key) c.args.change.act) (sym c.self.view_is) c.requires.fits in
    let none : (logged c.self.inside.streams).doubt ≡ None = subst (λ (v : Stored). doubt_of v ≡ None) (sym c.self.view_is) c.requires.sure in
    record {
      loaded = noted_loaded c.put_and_log-logged.result c.self.inside.streams c.put_and_log-logged.new.streams (c.args.change, c.args.epoch) c.self.inside.range covered own c.put_and_log-logged.ensures.logged
          c.self.inside.rows c.note.new.rows c.self.inside.doubt c.note.new.doubt none c.self.invariant.loaded c.note.ensures.noted;
      limits = limit_kept c.self.inside.extent_bytes c.self.inside.streams c.put_and_log-logged.new.streams c.self.invariant.limits c.put_and_log-logged.ensures.limits;
      swept = subst (λ (v : Option Sweep). IfSome v (λ w. AreSwept w c.self.inside.range c.put_and_log-logged.new.streams)) (sym c.keep_sweep.ensures)
          (logged_swept c.put_and_log-logged.result c.self.inside.streams c.put_and_log-logged.new.streams (c.args.change, c.args.epoch) c.self.inside.range c.self.inside.sweep c.self.inside.rows
          c.self.invariant.swept c.self.invariant.loaded.rows c.put_and_log-logged.ensures.whole covered c.requires.plain own c.put_and_log-logged.ensures.logged c.put_and_log-logged.ensures.from
          c.put_and_log-logged.ensures.log_follows c.put_and_log-logged.ensures.blobs_follow);
      again = taken_again c.put_and_log-logged.result c.self.inside.streams c.put_and_log-logged.new.streams (c.args.change, c.args.epoch) c.self.inside.spare c.put_and_log-logged.ensures.logged
          c.put_and_log-logged.ensures.plain_kept;
    }

pub returns-clause-taken : goal.returns-clause-taken
returns-clause-taken g c =
    let new : Stored = record { streams = c.put_and_log-logged.new.streams; range = c.self.inside.range; is_loaded = is_some c.note.new.rows } in
    subst (λ (v : Stored). IsTaken c.note.result v (c.args.change, c.args.epoch) new) c.self.view_is
    (subst (λ (r : Result (Unit {0}) TakeFault). IsTaken r (record { streams = c.self.inside.streams; range = c.self.inside.range; is_loaded = is_some c.self.inside.rows }) (c.args.change, c.args.epoch) new)
    (sym c.note.ensures.answer)
    (noted_taken c.put_and_log-logged.result c.self.inside.streams c.put_and_log-logged.new.streams (c.args.change, c.args.epoch) c.self.inside.range c.put_and_log-logged.ensures.whole c.put_and_log-logged.ensures.logged
    c.self.inside.rows c.note.new.rows c.self.inside.doubt c.note.new.doubt c.note.ensures.noted))

pub returns-clause-counted : goal.returns-clause-counted
returns-clause-counted g c =
    subst (λ (r : Result (Unit {0}) TakeFault). FailsTake r (g.W.Wire.faults c.args.wire.now) (g.W.Wire.faults c.put_and_log-logged.new.wire)) (sym c.note.ensures.answer)
    (noted_fails c.put_and_log-logged.result (g.W.Wire.faults c.args.wire.now) (g.W.Wire.faults c.put_and_log-logged.new.wire) c.put_and_log-logged.ensures.counted)

pub returns-clause-heard : goal.returns-clause-heard
returns-clause-heard g c =
    subst (λ (r : Result (Unit {0}) TakeFault). HearsTake r (g.W.Wire.calls c.args.wire.now) (g.W.Wire.calls c.put_and_log-logged.new.wire) (g.W.Wire.faults c.args.wire.now) (g.W.Wire.faults c.put_and_log-logged.new.wire)) (sym c.note.ensures.answer)
    (hears_taken c.put_and_log-logged.result (g.W.Wire.calls c.args.wire.now) (g.W.Wire.calls c.put_and_log-logged.new.wire) (g.W.Wire.faults c.args.wire.now) (g.W.Wire.faults c.put_and_log-logged.new.wire) c.put_and_log-logged.ensures.heard)
