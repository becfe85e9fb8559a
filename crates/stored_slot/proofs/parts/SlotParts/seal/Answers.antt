use Rattle.stored_slot.proofs.KeepLemmas.{seal_kept, seal_left, stored_later}
use Rattle.stored_slot.proofs.parts.SlotParts.seal.Goals as goal

pub seal-requires : goal.seal-requires
seal-requires g c =
    let held = g.H.Histories.held in
    record {
      sure = c.in-Ok.ensures.clear;
    }

pub returns-in-Ok-clause-after : goal.returns-in-Ok-clause-after
returns-in-Ok-clause-after g c =
    let held = g.H.Histories.held in
    seal_kept held c.args.self.now c.clear.new.self c.in-Ok.ensures.left c.clear.ensures.after c.seal.new.self c.seal.ensures.same c.seal.ensures.doubt

pub returns-in-Ok-clause-left : goal.returns-in-Ok-clause-left
returns-in-Ok-clause-left g c =
    let held = g.H.Histories.held in
    seal_left held c.args.self.now c.clear.new.self c.in-Ok.ensures.left c.clear.ensures.after c.seal.new.self c.seal.result c.seal.ensures.same

pub returns-in-Ok-clause-counted : goal.returns-in-Ok-clause-counted
returns-in-Ok-clause-counted g c = stored_later c.seal.result _ _ _ c.in-Ok.ensures.counted c.seal.ensures.counted

pub returns-in-Err-clause-left : goal.returns-in-Err-clause-left
returns-in-Err-clause-left g c = c.in-Err.ensures.left
