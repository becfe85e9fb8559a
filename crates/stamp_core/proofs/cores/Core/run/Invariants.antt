use Rattle.std.proofs.Common.{◌≡◌, ◌≤◌, ◌+◌, length, vec_len, vec_capacity}
use Rattle.std.specs.Vec.Iter.{into_iter_items, into_iter_len}
use Rattle.extent_seal.specs.Counting.{Grows, all_faults}
use Rattle.stamp_core.proofs.RunLemmas.{HasRun}
use Rattle.stamp_core.proofs.cores.Core.run.Given as goal

-- the steps that are left complete those that were made, and there is room for their answers
abbrev pub invariant-loop-step : goal.invariant-loop-step
invariant-loop-step g l = record {
  ran : HasRun l.initial.self (all_faults (g.W.Wire.faults l.initial.wire)) l.fn.steps.items l.answers.items l.self (all_faults (g.W.Wire.faults l.wire)) (into_iter_items l.later);
  room : vec_len l.answers + into_iter_len l.later ≤ vec_capacity l.answers;
  counted : into_iter_len l.later ≡ length (into_iter_items l.later);
  each : length l.answers.items + length (into_iter_items l.later) ≡ length l.fn.steps.items;
  grown : Grows (g.W.Wire.faults l.initial.wire) (g.W.Wire.faults l.wire);
}

abbrev pub decreases-loop-step : goal.decreases-loop-step
decreases-loop-step g l = into_iter_len l.later
