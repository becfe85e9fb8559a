use Rattle.served_slots.proofs.EnterLemmas.{own_left}
use Rattle.served_slots.proofs.locked.LockedSlot.step.Goals as goal

pub sweep_steadily-requires : goal.sweep_steadily-requires
sweep_steadily-requires g c = (own_left c.self.inside.history c.in-Some._own c.self.inside.to c.self.inside.slot c.in-Some.is c.self.invariant).calm
