use Rattle.std.proofs.Common.{List, sym, subst}
use Rattle.stamp_types.specs.declared.past.Past.{Past}
use Rattle.slot_state.specs.Pairs.{pairs_at}
use Rattle.slot_pass.specs.Passes.{IsShown}
use Rattle.slot_pass.proofs.serving.follow.Goals as goal

pub returns-clause-shown : goal.returns-clause-shown
returns-clause-shown c =
    subst (λ (l : List Past). IsShown (pairs_at c.args.slot.now.pairs c.args.key.now.account) c.args.key.now l) (sym c.fit.ensures)
    (record { legal = c.history.ensures.legal; latest = c.history.ensures.latest })
