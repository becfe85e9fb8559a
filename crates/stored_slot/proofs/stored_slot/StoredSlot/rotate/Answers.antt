use Rattle.std.proofs.Common.{◌∙◌, ap}
use Rattle.std.specs.Arc.{arc_value}
use Rattle.slot_state.specs.NextPairs.{with_next}
use Rattle.slot_state.specs.Pairs.{Pairs}
use Rattle.slot_state.specs.Slots.{SlotState}
use Rattle.stored_slot.proofs.PairLemmas.{next_is_longer}
use Rattle.stored_slot.proofs.stored_slot.StoredSlot.rotate.Goals as goal

pub catch_up-requires : goal.catch_up-requires
catch_up-requires g c =
    next_is_longer c.args.self.now.pairs (arc_value c.in_ok-pairs.pairs) c.args.account.now (arc_value c.args.pair) c.requires
    (c.in_ok-pairs.ensures ∙ ap (λ (p : Pairs). with_next p c.args.account.now (arc_value c.args.pair)) (c.deref.ensures ∙ ap (λ (s : SlotState). s.pairs) c.self.view_is))
