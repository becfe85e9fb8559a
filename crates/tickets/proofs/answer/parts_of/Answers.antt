use Rattle.std.proofs.Common.{◌∙◌, arith, rules}
use Rattle.extent_seal.proofs.HeardLemmas.{heard_then}
use Rattle.tickets.proofs.PartLemmas.{kept_more, stored_at}
use Rattle.tickets.proofs.answer.parts_of.Goals as goal

pub keep_span-requires-clause-stored : goal.keep_span-requires-clause-stored
keep_span-requires-clause-stored g c =
    stored_at c.args.streams.now c.loop-span.streams c.args.spans.now c.loop-span.span-index c.span-item.result c.loop-span.invariant.same c.requires.stored c.loop-span-test.true c.span-item.is

pub loop-span-preserved : goal.loop-span-preserved
loop-span-preserved g c = record {
  same = c.keep_span.ensures.same ∙ c.loop-span.invariant.same;
  parts = kept_more c.args.streams.now c.loop-span.streams c.args.spans.now c.loop-span.span-index c.span-item.result c.loop-span.parts.items c.keep_span.new.parts.items
      c.loop-span.invariant.same c.loop-span-test.true c.span-item.is c.loop-span.invariant.parts c.in_ok-keep_span.ensures.kept;
  heard = heard_then (g.W.Wire.calls c.args.wire.now) (g.W.Wire.calls c.loop-span.wire) (g.W.Wire.calls c.keep_span.new.wire)
      (g.W.Wire.faults c.args.wire.now) (g.W.Wire.faults c.loop-span.wire) (g.W.Wire.faults c.keep_span.new.wire)
      c.loop-span.invariant.heard (c.keep_span.ensures.heard (λ e. absurd (search rules)));
  grown =
      let now = c.keep_span.ensures.grown in
      let before = c.loop-span.invariant.grown in
      ((omega (arith, now, before), omega (arith, now, before), omega (arith, now, before)), (omega (arith, now, before), omega (arith, now, before), omega (arith, now, before)));
}

pub returns-in_err-keep_span-clause-heard : goal.returns-in_err-keep_span-clause-heard
returns-in_err-keep_span-clause-heard g c = λ reached.
    heard_then (g.W.Wire.calls c.args.wire.now) (g.W.Wire.calls c.loop-span.wire) (g.W.Wire.calls c.keep_span.new.wire)
    (g.W.Wire.faults c.args.wire.now) (g.W.Wire.faults c.loop-span.wire) (g.W.Wire.faults c.keep_span.new.wire)
    c.loop-span.invariant.heard (c.keep_span.ensures.heard (search rules))
