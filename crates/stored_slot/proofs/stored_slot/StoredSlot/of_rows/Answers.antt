use Rattle.std.proofs.Common.{subst}
use Rattle.std.specs.Arc.{arc_value}
use Rattle.slot_state.specs.Pairs.{AreNumbered, Pairs}
use Rattle.stored_slot.proofs.MeaningLemmas.{replays_nothing, sure_own}
use Rattle.stored_slot.proofs.stored_slot.StoredSlot.of_rows.Goals as goal

pub invariant_of-result : goal.invariant_of-result
invariant_of-result g c = record {
  replays = replays_nothing (arc_value c.args.pairs) (g.H.Histories.held c.none.result) c.args.rows (subst (λ (p : Pairs). AreNumbered p) c.deref.ensures c.numbered.ensures) c.none.ensures c.requires.none;
  doubted = sure_own c.args.rows c.requires.sure;
}
