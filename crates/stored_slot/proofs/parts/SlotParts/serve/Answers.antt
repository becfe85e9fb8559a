use Rattle.stamp_model.specs.SeenContainers.{routed}
use Rattle.stored_slot.specs.Parts.{slot_of}
use Rattle.stored_slot.proofs.ServeLemmas.{covers_after, grown_twice, serves_failed, serves_settled, settled_parts, stored_grows}
use Rattle.stored_slot.proofs.parts.SlotParts.serve.Goals as goal

pub serve_loaded-requires-clause-before : goal.serve_loaded-requires-clause-before
serve_loaded-requires-clause-before g c = settled_parts g.H.Histories.held c.args.self.now c.load.new.self c.in-Ok.ensures.left c.load.ensures.after

pub serve_loaded-requires-clause-covered : goal.serve_loaded-requires-clause-covered
serve_loaded-requires-clause-covered g c =
    let held = g.H.Histories.held in
    covers_after (slot_of held c.args.self.now) (slot_of held c.load.new.self) (routed c.args.request.now) c.in-Ok.ensures.left c.requires.covered

pub returns-in-Ok-clause-served : goal.returns-in-Ok-clause-served
returns-in-Ok-clause-served g c =
    let held = g.H.Histories.held in
    serves_settled (slot_of held c.args.self.now) c.args.request.now c.args.moment c.serve_loaded.result (slot_of held c.load.new.self) (slot_of held c.serve_loaded.new.self) _ _ _ c.in-Ok.ensures.left c.in-Ok.ensures.counted
    c.serve_loaded.ensures.served

pub returns-in-Ok-clause-grown : goal.returns-in-Ok-clause-grown
returns-in-Ok-clause-grown g c = grown_twice _ _ _ c.in-Ok.ensures.counted c.serve_loaded.ensures.grown

pub returns-in-Err-clause-served : goal.returns-in-Err-clause-served
returns-in-Err-clause-served g c =
    let held = g.H.Histories.held in
    serves_failed (slot_of held c.args.self.now) c.args.request.now c.args.moment c.failed.result (slot_of held c.load.new.self) _ _ c.in-Err.fault c.in-Err.ensures.left c.in-Err.ensures.counted c.failed.ensures

pub returns-in-Err-clause-grown : goal.returns-in-Err-clause-grown
returns-in-Err-clause-grown g c = stored_grows c.load.result _ _ c.load.ensures.counted
