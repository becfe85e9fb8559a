use Rattle.stored_slot.proofs.KeepLemmas.{stored_later}
use Rattle.stored_slot.proofs.SweepLemmas.{swept_kept, swept_left}
use Rattle.stored_slot.proofs.parts.SlotParts.sweep.Goals as goal

pub returns-in-Ok-clause-after : goal.returns-in-Ok-clause-after
returns-in-Ok-clause-after g c =
    swept_kept g.H.Histories.held c.args.self.now c.load_clear.new.self c.in-Ok.ensures.left c.load_clear.ensures.after c.step.new.stored c.step.ensures.beside

pub returns-in-Ok-clause-left : goal.returns-in-Ok-clause-left
returns-in-Ok-clause-left g c =
    swept_left g.H.Histories.held c.args.self.now c.load_clear.new.self c.in-Ok.ensures.left c.load_clear.ensures.after c.step.new.stored c.step.ensures.beside c.step.result

pub returns-in-Ok-clause-counted : goal.returns-in-Ok-clause-counted
returns-in-Ok-clause-counted g c = stored_later c.step.result _ _ _ c.in-Ok.ensures.counted c.step.ensures.counted
