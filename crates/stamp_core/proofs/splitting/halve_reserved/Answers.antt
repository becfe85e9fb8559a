use Rattle.std.proofs.Common.{◌≡◌, ◌+◌, ℕ, suc, ap, ◌∙◌, arith}
use Rattle.std.specs.Prelude.{slice_set}
use Rattle.std.specs.List.{insert}
use Rattle.stream_manager.specs.declared.faults.StoredFault.{StoredFault}
use Rattle.stamp_core.proofs.SplitLemmas.{are_halved, half_fails}
use Rattle.stamp_core.proofs.splitting.halve_reserved.Goals as goal

pub returns-in-Ok-insert-clause-halved : goal.returns-in-Ok-insert-clause-halved
returns-in-Ok-insert-clause-halved g c =
    let made = are_halved c.args.slots.now.items c.args.at c.args.middle.now c.index_mut.result.now c.split.new.self _ c.index_mut.ensures.value c.requires.within StoredFault c.in-Ok.upper c.in-Ok.ensures.cut in
    let place : c.args.at + 1 ≡ suc c.args.at = omega arith in
    (made.0, (made.1.0, c.in-Ok-insert.ensures.items ∙ ap (λ (n : ℕ). insert (slice_set c.args.slots.now.items c.args.at c.split.new.self) n c.in-Ok.upper) place ∙ made.1.1))

pub returns-in-Err-clause-halved : goal.returns-in-Err-clause-halved
returns-in-Err-clause-halved g c =
    half_fails c.args.slots.now.items c.args.at c.args.middle.now c.index_mut.result.now c.split.new.self _ c.index_mut.ensures.value c.requires.within c.in-Err.fault c.in-Err.ensures.cut
