use Rattle.std.proofs.Common.{subst}
use Rattle.std.specs.Arc.{arc_value}
use Rattle.slot_state.specs.Pairs.{AreNumbered, Pairs}
use Rattle.stored_slot.proofs.PairLemmas.{longer_kept, longer_same}
use Rattle.stored_slot.proofs.stored_slot.StoredSlot.catch_up.Goals as goal

pub invariant_of-self : goal.invariant_of-self
invariant_of-self g c =
    longer_kept (arc_value c.self.inside.parts.pairs) (arc_value c.args.pairs) (g.H.Histories.held c.self.inside.parts.histories) c.self.inside.parts.stored c.self.inside.parts.doubt c.args.self.now c.self.view_is
    (subst (λ (p : Pairs). AreNumbered p) c.deref.ensures c.numbered.ensures) c.requires c.self.invariant

pub returns-clause-replays : goal.returns-clause-replays
returns-clause-replays g c =
    longer_same (arc_value c.self.inside.parts.pairs) (arc_value c.args.pairs) (g.H.Histories.held c.self.inside.parts.histories) c.self.inside.parts.stored c.self.inside.parts.doubt c.args.self.now c.self.view_is
    (subst (λ (p : Pairs). AreNumbered p) c.deref.ensures c.numbered.ensures) c.requires c.self.invariant
