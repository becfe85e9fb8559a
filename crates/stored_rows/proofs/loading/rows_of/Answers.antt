use Rattle.std.proofs.Common.{◌≡◌, Ok, false, refl, rules}
use Rattle.extent_seal.proofs.HeardLemmas.{heard_none, heard_then}
use Rattle.stored_rows.proofs.CountLemmas.{grows_not, grows_twice}
use Rattle.stored_rows.proofs.LoadLemmas.{none_read, read_all}
use Rattle.stored_rows.proofs.loading.rows_of.Goals as goal

pub changes-init : goal.changes-init
changes-init g c = record {
  read = none_read c.args.streams.now c.args.range.now c.first-position.result c.new-rows.result c.new-rows.ensures (c.first-position.ensures c.args.streams.now);
  grown = grows_not _ _ refl;
  heard = heard_none _ _;
}

pub changes-preserved : goal.changes-preserved
changes-preserved g c = record {
  read = c.in_ok-make_next.ensures.made;
  grown = grows_twice _ _ _ c.changes.invariant.grown c.make_next.ensures.grown;
  heard = heard_then (g.W.Wire.calls c.args.wire.now) (g.W.Wire.calls c.changes.wire) (g.W.Wire.calls c.make_next.new.wire)
      (g.W.Wire.faults c.args.wire.now) (g.W.Wire.faults c.changes.wire) (g.W.Wire.faults c.make_next.new.wire)
      c.changes.invariant.heard (c.make_next.ensures.heard (λ e. absurd (search rules)));
}

pub returns-in_err-make_next-clause-heard : goal.returns-in_err-make_next-clause-heard
returns-in_err-make_next-clause-heard g c = λ reached.
    heard_then (g.W.Wire.calls c.args.wire.now) (g.W.Wire.calls c.changes.wire) (g.W.Wire.calls c.make_next.new.wire)
    (g.W.Wire.faults c.args.wire.now) (g.W.Wire.faults c.changes.wire) (g.W.Wire.faults c.make_next.new.wire)
    c.changes.invariant.heard (c.make_next.ensures.heard (search rules))

pub returns-clause-heard : goal.returns-clause-heard
returns-clause-heard g c = λ reached.
    heard_then (g.W.Wire.calls c.args.wire.now) (g.W.Wire.calls c.changes.wire) (g.W.Wire.calls c.make_next.new.wire)
    (g.W.Wire.faults c.args.wire.now) (g.W.Wire.faults c.changes.wire) (g.W.Wire.faults c.make_next.new.wire)
    c.changes.invariant.heard (c.make_next.ensures.heard (λ e. absurd (search rules)))

pub returns-clause-loaded : goal.returns-clause-loaded
returns-clause-loaded g c =
    let was = c.in_ok-make_next.was in
    let off = c.if-branch.false in
    let over : c.make_next.result ≡ Ok false = cc in
    read_all c.args.streams.now c.args.range.now c.make_next.new.position c.make_next.new.rows c.in_ok-make_next.ensures.made (c.make_next.ensures.ended over)
