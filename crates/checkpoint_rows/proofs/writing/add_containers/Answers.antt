use Rattle.std.proofs.Common.{◌∙◌, refl, rules, subst, sym}
use Rattle.extent_seal.proofs.HeardLemmas.{heard_none, heard_then}
use Rattle.checkpoint_rows.specs.Writing.{HasRows, all_records}
use Rattle.checkpoint_rows.proofs.CountLemmas.{grows_none, grows_twice}
use Rattle.checkpoint_rows.proofs.ReadyLemmas.{first_part}
use Rattle.checkpoint_rows.proofs.WriteLemmas.{container_more, no_more}
use Rattle.checkpoint_rows.proofs.writing.add_containers.Goals as goal

pub loop-key-init : goal.loop-key-init
loop-key-init g c = record { can = tt; ends = tt; whole = c.requires.whole; ready = c.requires.ready; written = λ t has. has; limit = refl; counted = grows_none (g.W.Wire.faults c.args.wire.now); heard = heard_none (g.W.Wire.calls c.args.wire.now) (g.W.Wire.faults c.args.wire.now) }

pub add_container-requires-clause-whole : goal.add_container-requires-clause-whole
add_container-requires-clause-whole g c = c.loop-key.invariant.whole

pub add_container-requires-clause-writable : goal.add_container-requires-clause-writable
add_container-requires-clause-writable g c =
    (first_part c.loop-key.left c.next.new.self (c.in-Some.key.now, c.in-Some.found) c.in-Some.ensures.steps c.loop-key.invariant.ready).0.0

pub add_container-requires-clause-ready : goal.add_container-requires-clause-ready
add_container-requires-clause-ready g c =
    (first_part c.loop-key.left c.next.new.self (c.in-Some.key.now, c.in-Some.found) c.in-Some.ensures.steps c.loop-key.invariant.ready).0.1

pub loop-key-preserved : goal.loop-key-preserved
loop-key-preserved g c = record {
  can = tt;
  ends = tt;
  whole = c.in_ok-add_container.ensures.written.whole;
  ready = (first_part c.loop-key.left c.next.new.self (c.in-Some.key.now, c.in-Some.found) c.in-Some.ensures.steps c.loop-key.invariant.ready).1;
  written = λ t has.
      c.loop-key.invariant.written t (subst (λ l. HasRows c.loop-key.new (all_records l) t) (sym c.in-Some.ensures.steps)
      (container_more c.loop-key.new c.add_container.new.new t (c.in-Some.key.now, c.in-Some.found) c.next.new.self c.in_ok-add_container.ensures.written has));
  limit = c.add_container.ensures.limit ∙ c.loop-key.invariant.limit;
  counted = grows_twice (g.W.Wire.faults c.args.wire.now) (g.W.Wire.faults c.loop-key.wire) (g.W.Wire.faults c.add_container.new.wire) c.loop-key.invariant.counted c.in_ok-add_container.ensures.counted;
  heard = heard_then (g.W.Wire.calls c.args.wire.now) (g.W.Wire.calls c.loop-key.wire) (g.W.Wire.calls c.add_container.new.wire)
      (g.W.Wire.faults c.args.wire.now) (g.W.Wire.faults c.loop-key.wire) (g.W.Wire.faults c.add_container.new.wire) c.loop-key.invariant.heard (c.add_container.ensures.heard (λ e. absurd (search rules)));
}

pub returns-clause-written : goal.returns-clause-written
returns-clause-written g c =
    c.loop-key.invariant.written c.loop-key.new
    (subst (λ l. HasRows c.loop-key.new (all_records l) c.loop-key.new) (sym c.in_default.ensures.steps.0) (no_more c.loop-key.new c.loop-key.invariant.whole))

pub returns-clause-counted : goal.returns-clause-counted
returns-clause-counted g c = c.loop-key.invariant.counted

pub returns-clause-limit : goal.returns-clause-limit
returns-clause-limit g c = c.loop-key.invariant.limit

pub returns-clause-heard : goal.returns-clause-heard
returns-clause-heard g c = λ _. c.loop-key.invariant.heard

pub returns-in_err-add_container-clause-heard : goal.returns-in_err-add_container-clause-heard
returns-in_err-add_container-clause-heard g c = λ reached.
    heard_then (g.W.Wire.calls c.args.wire.now) (g.W.Wire.calls c.loop-key.wire) (g.W.Wire.calls c.add_container.new.wire)
    (g.W.Wire.faults c.args.wire.now) (g.W.Wire.faults c.loop-key.wire) (g.W.Wire.faults c.add_container.new.wire) c.loop-key.invariant.heard (c.add_container.ensures.heard (search rules))
