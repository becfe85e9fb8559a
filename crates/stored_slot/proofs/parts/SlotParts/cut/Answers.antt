use Rattle.std.proofs.Common.{◌∙◌, ap}
use Rattle.stored_rows.specs.Ranges.{covers}
use Rattle.stored_slot.specs.Parts.{slot_of}
use Rattle.stored_slot.proofs.HalfLemmas.{cuts_settled}
use Rattle.stored_slot.proofs.KeepLemmas.{stored_later}
use Rattle.stored_slot.proofs.ServeLemmas.{range_after, settled_parts}
use Rattle.stored_slot.proofs.parts.SlotParts.cut.Goals as goal

pub cut_settled-requires-clause-before : goal.cut_settled-requires-clause-before
cut_settled-requires-clause-before g c = settled_parts g.H.Histories.held c.args.self.now c.clear.new.self c.in-Ok.ensures.left c.clear.ensures.after

pub cut_settled-requires-clause-covered : goal.cut_settled-requires-clause-covered
cut_settled-requires-clause-covered g c =
    ap (λ r. covers r c.args.middle.now) (range_after g.H.Histories.held c.args.self.now c.clear.new.self c.in-Ok.ensures.left) ∙ c.requires.covered

pub returns-in-Ok-clause-cut : goal.returns-in-Ok-clause-cut
returns-in-Ok-clause-cut g c =
    let held = g.H.Histories.held in
    cuts_settled c.cut_settled.result (slot_of held c.args.self.now) (slot_of held c.clear.new.self) (slot_of held c.cut_settled.new.self) c.args.middle.now c.in-Ok.ensures.left c.cut_settled.ensures.cut

pub returns-in-Ok-clause-counted : goal.returns-in-Ok-clause-counted
returns-in-Ok-clause-counted g c = stored_later c.cut_settled.result _ _ _ c.in-Ok.ensures.counted c.cut_settled.ensures.counted

pub returns-in-Err-clause-cut : goal.returns-in-Err-clause-cut
returns-in-Err-clause-cut g c = c.in-Err.ensures.left
