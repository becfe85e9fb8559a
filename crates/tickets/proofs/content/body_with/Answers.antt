use Rattle.std.proofs.Common.{◌≡◌, ◌∙◌, arith, rules, sym}
use Rattle.std.proofs.lemmas.List.{append-nil}
use Rattle.extent_seal.proofs.HeardLemmas.{heard_none, heard_then}
use Rattle.tickets.proofs.PartLemmas.{more_bytes, more_fits}
use Rattle.tickets.proofs.content.body_with.Goals as goal

pub loop-part-init : goal.loop-part-init
loop-part-init g c = record {
  bytes = c.in-Ok.ensures ∙ sym (append-nil c.args.body.now);
  heard = heard_none (g.W.Wire.calls c.args.wire.now) (g.W.Wire.faults c.args.wire.now);
  grown = ((omega arith, omega arith, omega arith), (omega arith, omega arith, omega arith));
}

pub push_part-requires : goal.push_part-requires
push_part-requires g c =
    more_fits c.args.body.now c.loop-part.whole c.args.parts.now c.loop-part.part-index 18446744073709551616 c.part-item.result c.loop-part-test.true c.part-item.is c.loop-part.invariant.bytes c.requires

pub loop-part-preserved : goal.loop-part-preserved
loop-part-preserved g c = record {
  bytes = more_bytes c.args.body.now c.loop-part.whole c.push_part.new.body c.args.parts.now c.loop-part.part-index c.part-item.result c.loop-part-test.true c.part-item.is
      c.loop-part.invariant.bytes c.in_ok-push_part.ensures.pushed;
  heard = heard_then (g.W.Wire.calls c.args.wire.now) (g.W.Wire.calls c.loop-part.wire) (g.W.Wire.calls c.push_part.new.wire)
      (g.W.Wire.faults c.args.wire.now) (g.W.Wire.faults c.loop-part.wire) (g.W.Wire.faults c.push_part.new.wire)
      c.loop-part.invariant.heard (c.push_part.ensures.heard (λ e. absurd (search rules)));
  grown =
      let now = c.push_part.ensures.grown in
      let before = c.loop-part.invariant.grown in
      ((omega (arith, now, before), omega (arith, now, before), omega (arith, now, before)), (omega (arith, now, before), omega (arith, now, before), omega (arith, now, before)));
}

pub returns-in_err-push_part-clause-heard : goal.returns-in_err-push_part-clause-heard
returns-in_err-push_part-clause-heard g c = λ reached.
    heard_then (g.W.Wire.calls c.args.wire.now) (g.W.Wire.calls c.loop-part.wire) (g.W.Wire.calls c.push_part.new.wire)
    (g.W.Wire.faults c.args.wire.now) (g.W.Wire.faults c.loop-part.wire) (g.W.Wire.faults c.push_part.new.wire)
    c.loop-part.invariant.heard (c.push_part.ensures.heard (search rules))
