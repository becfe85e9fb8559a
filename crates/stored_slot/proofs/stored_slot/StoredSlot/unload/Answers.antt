use Rattle.std.specs.Arc.{arc_value}
use Rattle.stored_slot.proofs.ViewLemmas.{unloaded_kept}
use Rattle.stored_slot.proofs.stored_slot.StoredSlot.unload.Goals as goal

pub invariant_of-self : goal.invariant_of-self
invariant_of-self g c =
    unloaded_kept (arc_value c.self.inside.parts.pairs) (g.H.Histories.held c.self.inside.parts.histories) c.self.inside.parts.stored c.unload.new.self c.self.inside.parts.doubt c.unload.ensures.left c.self.invariant
