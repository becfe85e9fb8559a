use Rattle.std.proofs.Common.{inr}
use Rattle.stored_slot.proofs.KeepLemmas.{load_kept, load_left, load_loads, stored_later}
use Rattle.stored_slot.proofs.parts.SlotParts.load.Goals as goal

pub returns-in-Ok-clause-after : goal.returns-in-Ok-clause-after
returns-in-Ok-clause-after g c =
    let held = g.H.Histories.held in
    load_kept held c.args.self.now c.settle.new.self c.in-Ok.ensures.settled c.settle.ensures.after c.load.new.self c.load.result c.load.ensures.loaded c.load.ensures.refused

pub returns-in-Ok-clause-left : goal.returns-in-Ok-clause-left
returns-in-Ok-clause-left g c =
    let held = g.H.Histories.held in
    load_left held c.args.self.now c.settle.new.self c.in-Ok.ensures.settled c.settle.ensures.after c.load.new.self c.load.result c.load.ensures.loaded c.load.ensures.refused

pub returns-in-Ok-clause-loaded : goal.returns-in-Ok-clause-loaded
returns-in-Ok-clause-loaded g c = load_loads c.settle.new.self.stored c.load.new.self c.load.result c.load.ensures.loaded

pub returns-in-Ok-clause-counted : goal.returns-in-Ok-clause-counted
returns-in-Ok-clause-counted g c = stored_later c.load.result _ _ _ c.in-Ok.ensures.counted c.load.ensures.counted

pub returns-in-Err-clause-left : goal.returns-in-Err-clause-left
returns-in-Err-clause-left g c = inr c.in-Err.ensures.settled
