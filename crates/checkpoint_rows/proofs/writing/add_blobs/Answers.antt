use Rattle.std.proofs.Common.{◌∙◌, map, refl, rules, subst, sym}
use Rattle.extent_seal.proofs.HeardLemmas.{heard_none, heard_then}
use Rattle.row_trees.specs.RowRecords.{blob_row_of}
use Rattle.checkpoint_rows.specs.Writing.{HasRows, recorded}
use Rattle.checkpoint_rows.proofs.CountLemmas.{grows_none, grows_twice}
use Rattle.checkpoint_rows.proofs.ReadyLemmas.{first_ready}
use Rattle.checkpoint_rows.proofs.WriteLemmas.{blob_more, no_more}
use Rattle.checkpoint_rows.proofs.writing.add_blobs.Goals as goal

pub loop-name-init : goal.loop-name-init
loop-name-init g c = record { can = tt; ends = tt; whole = c.requires.whole; ready = c.requires.ready; written = λ t has. has; limit = refl; counted = grows_none (g.W.Wire.faults c.args.wire.now); heard = heard_none (g.W.Wire.calls c.args.wire.now) (g.W.Wire.faults c.args.wire.now) }

pub add_blob-requires-clause-whole : goal.add_blob-requires-clause-whole
add_blob-requires-clause-whole g c = c.loop-name.invariant.whole

pub add_blob-requires-clause-writable : goal.add_blob-requires-clause-writable
add_blob-requires-clause-writable g c =
    (first_ready c.args.key.now c.loop-name.left c.next.new.self (c.in-Some.name.now, c.in-Some.blob) c.in-Some.ensures.steps c.loop-name.invariant.ready).0.0

pub add_blob-requires-clause-placed : goal.add_blob-requires-clause-placed
add_blob-requires-clause-placed g c =
    (first_ready c.args.key.now c.loop-name.left c.next.new.self (c.in-Some.name.now, c.in-Some.blob) c.in-Some.ensures.steps c.loop-name.invariant.ready).0.1

pub loop-name-preserved : goal.loop-name-preserved
loop-name-preserved g c = record {
  can = tt;
  ends = tt;
  whole = c.in_ok-add_blob.ensures.written.whole;
  ready = (first_ready c.args.key.now c.loop-name.left c.next.new.self (c.in-Some.name.now, c.in-Some.blob) c.in-Some.ensures.steps c.loop-name.invariant.ready).1;
  written = λ t has.
      c.loop-name.invariant.written t (subst (λ l. HasRows c.loop-name.new (map (recorded c.args.key.now) (map blob_row_of l)) t) (sym c.in-Some.ensures.steps)
      (blob_more c.loop-name.new c.add_blob.new.new t c.args.key.now (c.in-Some.name.now, c.in-Some.blob) c.next.new.self c.in_ok-add_blob.ensures.written has));
  limit = c.add_blob.ensures.limit ∙ c.loop-name.invariant.limit;
  counted = grows_twice (g.W.Wire.faults c.args.wire.now) (g.W.Wire.faults c.loop-name.wire) (g.W.Wire.faults c.add_blob.new.wire) c.loop-name.invariant.counted c.in_ok-add_blob.ensures.counted;
  heard = heard_then (g.W.Wire.calls c.args.wire.now) (g.W.Wire.calls c.loop-name.wire) (g.W.Wire.calls c.add_blob.new.wire)
      (g.W.Wire.faults c.args.wire.now) (g.W.Wire.faults c.loop-name.wire) (g.W.Wire.faults c.add_blob.new.wire) c.loop-name.invariant.heard (c.add_blob.ensures.heard (λ e. absurd (search rules)));
}

pub returns-clause-written : goal.returns-clause-written
returns-clause-written g c =
    c.loop-name.invariant.written c.loop-name.new
    (subst (λ l. HasRows c.loop-name.new (map (recorded c.args.key.now) (map blob_row_of l)) c.loop-name.new) (sym c.in_default.ensures.steps.0) (no_more c.loop-name.new c.loop-name.invariant.whole))

pub returns-clause-counted : goal.returns-clause-counted
returns-clause-counted g c = c.loop-name.invariant.counted

pub returns-clause-limit : goal.returns-clause-limit
returns-clause-limit g c = c.loop-name.invariant.limit

pub returns-clause-heard : goal.returns-clause-heard
returns-clause-heard g c = λ _. c.loop-name.invariant.heard

pub returns-in_err-add_blob-clause-heard : goal.returns-in_err-add_blob-clause-heard
returns-in_err-add_blob-clause-heard g c = λ reached.
    heard_then (g.W.Wire.calls c.args.wire.now) (g.W.Wire.calls c.loop-name.wire) (g.W.Wire.calls c.add_blob.new.wire)
    (g.W.Wire.faults c.args.wire.now) (g.W.Wire.faults c.loop-name.wire) (g.W.Wire.faults c.add_blob.new.wire) c.loop-name.invariant.heard (c.add_blob.ensures.heard (search rules))
