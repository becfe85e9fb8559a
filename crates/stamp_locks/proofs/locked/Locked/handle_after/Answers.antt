use Rattle.std.proofs.Common.{◌≡◌, subst}
use Rattle.stamp_types.specs.declared.ask.Ask.{Ask}
use Rattle.slot_state.specs.Pairs.{current_at}
use Rattle.stamp_locks.proofs.locked.Locked.handle_after.Goals as goal

pub handle_shown-requires-clause-current : goal.handle_shown-requires-clause-current
handle_shown-requires-clause-current g c =
    subst (λ (x : Ask). current_at c.bring_up.new.slot.pairs x.key.account ≡ current_at c.args.pairs.now x.key.account) c.ask.ensures.value c.in-Ok.ensures
