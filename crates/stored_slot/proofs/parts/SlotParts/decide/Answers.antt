use Rattle.std.proofs.Common.{◌∙◌, refl, sym}
use Rattle.std.specs.Arc.{arc_value}
use Rattle.stamp_model.specs.SeenContainers.{routed}
use Rattle.stored_slot.specs.declared.deciding.WeighedDecision.{WeighedDecision}
use Rattle.stored_slot.proofs.DecisionLemmas.{covers_same, decided_if}
use Rattle.stored_slot.proofs.parts.SlotParts.decide.Goals as goal

pub returns : goal.returns
returns g c =
    let p = c.args.self.now in
    decided_if (arc_value p.pairs) (g.H.Histories.held p.histories) p.stored c.args.request.now c.args.moment c.in-Some.rows.now c.requires.before.replays c.in-Some.ensures.1 c.kept.ensures.stored
    c.decide_on_rows.ensures.fits.ask (sym (covers_same p.stored.range (routed c.args.request.now)) ∙ c.requires.covered) (λ (d : WeighedDecision). d.decision) p.stored.range.to refl c.decide_on_rows.result c.decide_on_rows.ensures.decided c.decide_on_rows.ensures.sent
