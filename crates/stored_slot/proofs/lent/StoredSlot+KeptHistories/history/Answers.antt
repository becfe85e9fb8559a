use Rattle.std.proofs.Common.{List, sym, subst}
use Rattle.stamp_types.specs.declared.past.Past.{Past}
use Rattle.stamp_model.specs.Histories.{IsLegal, NoneIsLater}
use Rattle.slot_state.specs.HistoryMaps.{history_at}
use Rattle.slot_state.specs.Pairs.{current_at, epoch_of, pairs_at}
use Rattle.slot_state.specs.Slots.{SlotState}
use Rattle.stored_slot.proofs.lent.StoredSlot+KeptHistories.history.Goals as goal

pub returns-clause-latest : goal.returns-clause-latest
returns-clause-latest c =
    let key = c.args.key.now in
    subst (λ (l : List Past). NoneIsLater (epoch_of (current_at c.args.self.now.pairs key.account)) l) (sym c.found.ensures)
    (subst (λ (x : SlotState). NoneIsLater (epoch_of (current_at x.pairs key.account)) (history_at x.histories key)) c.self.view_is (c.self.invariant.replays.latest key))

pub returns-clause-legal : goal.returns-clause-legal
returns-clause-legal c =
    let key = c.args.key.now in
    subst (λ (l : List Past). IsLegal (pairs_at c.args.self.now.pairs key.account) key l) (sym c.found.ensures)
    (subst (λ (x : SlotState). IsLegal (pairs_at x.pairs key.account) key (history_at x.histories key)) c.self.view_is (c.self.invariant.replays.legal key))
