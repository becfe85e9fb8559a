use Rattle.std.proofs.Common.{rules, ◌≡◌, ◌++◌, ◌∷◌, [], length, List, ap, ◌∙◌, refl, subst, arith}
use Rattle.std.proofs.lemmas.List.{length-append}
use Rattle.std.specs.Vec.Iter.{into_iter_items, into_iter_len}
use Rattle.extent_seal.specs.Counting.{all_faults}
use Rattle.stored_rows.proofs.CountLemmas.{grows_not, grows_twice}
use Rattle.core_run.specs.declared.step.Step.{Step}
use Rattle.stamp_core.proofs.FaultLemmas.{grown}
use Rattle.stamp_core.proofs.RunLemmas.{HasRun, nothing_left, run_begins, run_ends, run_goes_on}
use Rattle.stamp_core.proofs.cores.Core.run.Goals as goal

pub loop-step-init : goal.loop-step-init
loop-step-init g c = record {
  ran = run_begins c.args.self.now (all_faults (g.W.Wire.faults c.args.wire.now)) c.args.steps.items (into_iter_items c.into_iter-later.result) c.in_ok-answers.answers.items c.into_iter-later.ensures.rest c.in_ok-answers.ensures.items;
  room = omega (arith, c.in_ok-answers.ensures.len, c.in_ok-answers.ensures.capacity, c.len.ensures, c.into_iter-later.ensures.len);
  counted = search rules;
  each = omega (arith, ap length c.in_ok-answers.ensures.items, ap length c.into_iter-later.ensures.rest);
  grown = grows_not (g.W.Wire.faults c.args.wire.now) (g.W.Wire.faults c.args.wire.now) refl;
}

pub loop-step-preserved : goal.loop-step-preserved
loop-step-preserved g c =
    let pushed : c.push.new.self.items ≡ c.loop-step.answers.items ++ c.step-answer.result ∷ [] = search rules in
    let first = g.W.Wire.faults c.args.wire.now in
    let old = g.W.Wire.faults c.loop-step.wire in
    let new = g.W.Wire.faults c.step-answer.new.wire in
    record {
      ran =
          run_goes_on c.args.self.now c.loop-step.self c.step-answer.new.self (all_faults first) (all_faults old) (all_faults new) c.args.steps.items c.loop-step.answers.items c.push.new.self.items c.in-Some.step (into_iter_items c.next.new.self) c.step-answer.result
          (subst (λ (xs : List Step). HasRun c.args.self.now (all_faults first) c.args.steps.items c.loop-step.answers.items c.loop-step.self (all_faults old) xs) c.in-Some.ensures.cases.0 c.loop-step.invariant.ran)
          (grown old new c.step-answer.ensures.grown) c.step-answer.ensures.taken pushed;
      room = search rules;
      counted = omega (arith, c.loop-step.invariant.counted, ap length c.in-Some.ensures.cases.0, c.in-Some.ensures.cases.1);
      each = omega (arith, c.loop-step.invariant.each, ap length pushed, length-append c.loop-step.answers.items (c.step-answer.result ∷ []), ap length c.in-Some.ensures.cases.0);
      grown = grows_twice first old new c.loop-step.invariant.grown c.step-answer.ensures.grown;
    }

pub returns-clause-ran : goal.returns-clause-ran
returns-clause-ran g c =
    run_ends c.args.self.now c.loop-step.self (all_faults (g.W.Wire.faults c.args.wire.now)) (all_faults (g.W.Wire.faults c.loop-step.wire)) c.args.steps.items c.loop-step.answers.items (into_iter_items c.loop-step.later)
    (nothing_left (into_iter_items c.loop-step.later) (into_iter_len c.loop-step.later) c.loop-step.invariant.counted c.in_default.ensures.cases.0)
    c.loop-step.invariant.ran
