use Rattle.std.proofs.Common.{◌≡◌, OnErr, OnOk, Result, true, sym, subst}
use Rattle.std.specs.Option.{is_some}
use Rattle.stream_manager.specs.declared.faults.StoredFault.{StoredFault}
use Rattle.stored_rows.specs.Counting.{FailsStored}
use Rattle.stored_rows.specs.Heard.{HearsStored}
use Rattle.stored_rows.specs.States.{Stored}
use Rattle.stored_rows.proofs.HeardLemmas.{hears_loaded}
use Rattle.stored_rows.proofs.NotedLemmas.{made_fails, made_loaded, made_no_rows, made_rows, stored_at}
use Rattle.stored_rows.proofs.stored_rows.StoredRows.load.Goals as goal

pub invariant_of-self : goal.invariant_of-self
invariant_of-self g c =
    record {
      loaded = made_loaded c.rows_of-made.result c.self.inside.streams c.self.inside.range c.self.inside.rows c.note_loaded-loaded.new.rows c.self.inside.doubt c.self.invariant.loaded
          c.rows_of-made.ensures.loaded c.note_loaded-loaded.ensures.noted;
      limits = c.self.invariant.limits;
      swept = c.self.invariant.swept;
      again = c.self.invariant.again;
    }

pub returns-clause-counted : goal.returns-clause-counted
returns-clause-counted g c =
    subst (λ (r : Result (Unit {0}) StoredFault). FailsStored r (g.W.Wire.faults c.args.wire.now) (g.W.Wire.faults c.rows_of-made.new.wire)) (sym c.note_loaded-loaded.ensures.answer)
    (made_fails c.rows_of-made.result (g.W.Wire.faults c.args.wire.now) (g.W.Wire.faults c.rows_of-made.new.wire) c.rows_of-made.ensures.unreachable c.rows_of-made.ensures.grown)

pub returns-clause-loaded : goal.returns-clause-loaded
returns-clause-loaded g c =
    let new : Stored = stored_at c.self.inside.streams c.self.inside.range (is_some c.note_loaded-loaded.new.rows) in
    subst (λ (v : Stored). OnOk c.note_loaded-loaded.result (new ≡ record v { is_loaded = true })) c.self.view_is
    (subst (λ (r : Result (Unit {0}) StoredFault). OnOk r (new ≡ stored_at c.self.inside.streams c.self.inside.range true)) (sym c.note_loaded-loaded.ensures.answer)
    (made_rows c.rows_of-made.result c.self.inside.streams c.self.inside.range c.self.inside.rows c.note_loaded-loaded.new.rows c.note_loaded-loaded.ensures.noted))

pub returns-clause-refused : goal.returns-clause-refused
returns-clause-refused g c =
    let new : Stored = stored_at c.self.inside.streams c.self.inside.range (is_some c.note_loaded-loaded.new.rows) in
    subst (λ (v : Stored). OnErr c.note_loaded-loaded.result (new ≡ v)) c.self.view_is
    (subst (λ (r : Result (Unit {0}) StoredFault). OnErr r (new ≡ stored_at c.self.inside.streams c.self.inside.range (is_some c.self.inside.rows))) (sym c.note_loaded-loaded.ensures.answer)
    (made_no_rows c.rows_of-made.result c.self.inside.streams c.self.inside.range c.self.inside.rows c.note_loaded-loaded.new.rows c.note_loaded-loaded.ensures.noted))

pub returns-clause-heard : goal.returns-clause-heard
returns-clause-heard g c =
    subst (λ (r : Result (Unit {0}) StoredFault). HearsStored r (g.W.Wire.calls c.args.wire.now) (g.W.Wire.calls c.rows_of-made.new.wire) (g.W.Wire.faults c.args.wire.now) (g.W.Wire.faults c.rows_of-made.new.wire)) (sym c.note_loaded-loaded.ensures.answer)
    (hears_loaded c.rows_of-made.result (g.W.Wire.calls c.args.wire.now) (g.W.Wire.calls c.rows_of-made.new.wire) (g.W.Wire.faults c.args.wire.now) (g.W.Wire.faults c.rows_of-made.new.wire) c.rows_of-made.ensures.heard)
