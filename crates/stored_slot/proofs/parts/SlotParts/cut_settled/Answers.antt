use Rattle.std.proofs.Common.{refl, subst, sym}
use Rattle.std.specs.Arc.{arc_value}
use Rattle.slot_state.specs.Pairs.{Pairs}
use Rattle.stored_slot.specs.Meanings.{AreReplays}
use Rattle.stored_slot.proofs.HalfLemmas.{cut_kept, cut_seen}
use Rattle.stored_slot.proofs.ServeLemmas.{kept_parts}
use Rattle.stored_slot.proofs.parts.SlotParts.cut_settled.Goals as goal

pub cut_with-requires-clause-before : goal.cut_with-requires-clause-before
cut_with-requires-clause-before g c =
    let held = g.H.Histories.held in
    subst (λ (p : Pairs). AreReplays p (held c.args.self.now.histories) c.args.self.now.stored) (sym c.in-Ok.ensures.pairs) c.requires.before.replays

pub returns-in-Ok-clause-after : goal.returns-in-Ok-clause-after
returns-in-Ok-clause-after g c =
    let p = c.args.self.now in
    cut_kept (arc_value c.in-Ok.halves.pairs) (arc_value p.pairs) p.doubt c.in-Ok.ensures.pairs c.requires.before.none (g.H.Histories.held c.cut_with.new.histories) c.cut_with.new.stored c.cut_with.ensures.after

pub returns-in-Ok-clause-cut : goal.returns-in-Ok-clause-cut
returns-in-Ok-clause-cut g c =
    let held = g.H.Histories.held in
    let p = c.args.self.now in
    cut_seen (arc_value c.in-Ok.halves.pairs) (arc_value p.pairs) p.doubt c.in-Ok.ensures.pairs c.requires.before.none c.cut_with.result (held p.histories) (held c.cut_with.new.histories) p.stored c.cut_with.new.stored
    c.args.middle.now c.cut_with.ensures.cut

pub returns-in-Err-clause-after : goal.returns-in-Err-clause-after
returns-in-Err-clause-after g c = kept_parts g.H.Histories.held c.args.self.now c.requires.before

pub returns-in-Err-clause-cut : goal.returns-in-Err-clause-cut
returns-in-Err-clause-cut g c = refl
