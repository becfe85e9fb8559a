use Rattle.std.proofs.Common.{List, subst}
use Rattle.stamp_types.specs.declared.past.Past.{Past}
use Rattle.slot_state.specs.Pairs.{pairs_at}
use Rattle.slot_pass.specs.Passes.{IsShown}
use Rattle.stamp_locks.proofs.locked.show.Goals as goal

pub returns : goal.returns
returns c =
    subst (λ (l : List Past). IsShown (pairs_at c.args.slot.now.pairs c.args.key.now.account) c.args.key.now l) c.history-history.ensures.history
    (record { legal = c.history-history.ensures.legal; latest = c.history-history.ensures.latest })
