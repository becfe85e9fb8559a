use Rattle.std.proofs.Common.{ap}
use Rattle.slot_state.specs.Pairs.{with_first}
use Rattle.slot_state.proofs.FaultLemmas.{fault_begins, step_refused, step_taken}
use Rattle.slot_state.proofs.account_pairs.AccountPairs.of.Goals as goal
use Rattle.std.proofs.lemmas.Result.{err_from_is_err_and}

pub loop-pair-init : goal.loop-pair-init
loop-pair-init c = (ap (with_first c.args.pairs.items) c.new-all.ensures, fault_begins c.args.pairs.items c.new-all.result c.new-all.ensures)

pub loop-pair-preserved : goal.loop-pair-preserved
loop-pair-preserved c =
    step_taken c.loop-pair.left.items c.pop.new.self.items c.in-Some.pair c.loop-pair.all c.add.new.self _ _ _ c.in-Some.ensures.items c.in_ok-add.ensures.added
    c.in_ok-add.ensures.not_first c.in_ok-add.ensures.twice c.loop-pair.invariant

pub returns-in_err-add-clause-refused : goal.returns-in_err-add-clause-refused
returns-in_err-add-clause-refused c =
    let said = (step_refused c.loop-pair.left.items c.pop.new.self.items c.in-Some.pair c.loop-pair.all _ c.in_err-add.field-0.0 c.in-Some.ensures.items c.loop-pair.invariant.1
    c.in_err-add.ensures.not_first c.in_err-add.ensures.twice) in
    let p = err_from_is_err_and c.from_residual.result c.from_residual.ensures.1 in
    rw (p.1, p.2) said
