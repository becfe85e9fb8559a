use Rattle.stored_slot.proofs.KeepLemmas.{checkpoint_kept, checkpoint_left, stored_later}
use Rattle.stored_slot.proofs.parts.SlotParts.checkpoint.Goals as goal

pub checkpoint-requires : goal.checkpoint-requires
checkpoint-requires g c =
    let held = g.H.Histories.held in
    record {
      sure = c.in-Ok.ensures.clear;
      loaded = c.in-Ok.ensures.loaded;
    }

pub returns-in-Ok-clause-after : goal.returns-in-Ok-clause-after
returns-in-Ok-clause-after g c =
    let held = g.H.Histories.held in
    checkpoint_kept held c.args.self.now c.load_clear.new.self c.in-Ok.ensures.left c.load_clear.ensures.after c.checkpoint.new.self c.checkpoint.result c.checkpoint.ensures.same c.checkpoint.ensures.refused c.checkpoint.ensures.doubt

pub returns-in-Ok-clause-left : goal.returns-in-Ok-clause-left
returns-in-Ok-clause-left g c =
    let held = g.H.Histories.held in
    checkpoint_left held c.args.self.now c.load_clear.new.self c.in-Ok.ensures.left c.load_clear.ensures.after c.checkpoint.new.self c.checkpoint.result c.checkpoint.ensures.same c.checkpoint.ensures.refused

pub returns-in-Ok-clause-counted : goal.returns-in-Ok-clause-counted
returns-in-Ok-clause-counted g c = stored_later c.checkpoint.result _ _ _ c.in-Ok.ensures.counted c.checkpoint.ensures.counted
