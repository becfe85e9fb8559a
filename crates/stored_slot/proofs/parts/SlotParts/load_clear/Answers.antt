use Rattle.stored_slot.specs.Parts.{slot_of}
use Rattle.stored_slot.proofs.KeepLemmas.{stored_later}
use Rattle.stored_slot.proofs.MeaningLemmas.{left_settled}
use Rattle.stored_slot.proofs.ServeLemmas.{kept_parts, settled_parts}
use Rattle.stored_slot.proofs.parts.SlotParts.load_clear.Goals as goal

pub end_row_doubt-requires : goal.end_row_doubt-requires
end_row_doubt-requires g c = record { before = settled_parts g.H.Histories.held c.args.self.now c.load.new.self c.in-Ok.ensures.left c.load.ensures.after }

pub returns-in-Ok-clause-after : goal.returns-in-Ok-clause-after
returns-in-Ok-clause-after g c = kept_parts g.H.Histories.held c.end_row_doubt.new.self c.end_row_doubt.ensures.after

pub returns-in-Ok-clause-left : goal.returns-in-Ok-clause-left
returns-in-Ok-clause-left g c =
    let held = g.H.Histories.held in
    left_settled c.end_row_doubt.result (slot_of held c.args.self.now) (slot_of held c.load.new.self) (slot_of held c.end_row_doubt.new.self) c.in-Ok.ensures.left c.end_row_doubt.ensures.same

pub returns-in-Ok-clause-counted : goal.returns-in-Ok-clause-counted
returns-in-Ok-clause-counted g c = stored_later c.end_row_doubt.result _ _ _ c.in-Ok.ensures.counted c.end_row_doubt.ensures.counted
