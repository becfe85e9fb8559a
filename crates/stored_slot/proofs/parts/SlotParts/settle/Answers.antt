use Rattle.std.proofs.Common.{◌≡◌, None, Some, Ok, Err, refl, rules}
use Rattle.std.specs.Arc.{arc_value}
use Rattle.stored_slot.proofs.MeaningLemmas.{doubt_kept, doubt_settled, doubt_stays, own_doubted, sure_settled, sure_stays}
use Rattle.stored_slot.proofs.parts.SlotParts.settle.Goals as goal

pub settle_entry-requires : goal.settle_entry-requires
settle_entry-requires g c =
    let held = g.H.Histories.held in
    let is : c.args.self.now.doubt ≡ Some c.in-Some.entry = search rules in
    record { doubt = own_doubted (arc_value c.args.self.now.pairs) (held c.args.self.now.histories) c.args.self.now.stored c.args.self.now.stored c.args.self.now.doubt c.args.self.now.doubt c.requires.before c.in-Some.entry is }

pub returns-in-None-clause-after : goal.returns-in-None-clause-after
returns-in-None-clause-after g c =
    let held = g.H.Histories.held in
    let is : c.args.self.now.doubt ≡ None = search rules in
    sure_stays (arc_value c.args.self.now.pairs) (held c.args.self.now.histories) c.args.self.now.stored c.args.self.now.stored c.args.self.now.doubt c.take.new.self c.requires.before is c.take.ensures.after

pub returns-in-None-clause-settled : goal.returns-in-None-clause-settled
returns-in-None-clause-settled g c =
    let held = g.H.Histories.held in
    let is : c.args.self.now.doubt ≡ None = search rules in
    sure_settled (arc_value c.args.self.now.pairs) (held c.args.self.now.histories) c.args.self.now.stored c.args.self.now.stored c.args.self.now.doubt c.take.new.self c.requires.before is c.take.ensures.after

pub returns-in-Ok-clause-after : goal.returns-in-Ok-clause-after
returns-in-Ok-clause-after g c =
    let held = g.H.Histories.held in
    let is : c.args.self.now.doubt ≡ Some c.in-Some.entry = search rules in
    doubt_kept (arc_value c.args.self.now.pairs) (held c.args.self.now.histories) c.args.self.now.stored c.settle_entry.new.stored c.args.self.now.doubt c.take.new.self c.requires.before c.in-Some.entry is (held c.settle_entry.new.histories)
    (Ok c.in-Ok._ended) c.in-Ok.ensures.entries c.in-Ok.ensures.settled c.settle_entry.ensures.data c.take.ensures.after

pub returns-in-Ok-clause-settled : goal.returns-in-Ok-clause-settled
returns-in-Ok-clause-settled g c =
    let held = g.H.Histories.held in
    let is : c.args.self.now.doubt ≡ Some c.in-Some.entry = search rules in
    doubt_settled (arc_value c.args.self.now.pairs) (held c.args.self.now.histories) c.args.self.now.stored c.settle_entry.new.stored c.args.self.now.doubt c.take.new.self c.requires.before c.in-Some.entry is (held c.settle_entry.new.histories)
    c.in-Ok._ended c.in-Ok.ensures.entries c.in-Ok.ensures.settled c.take.ensures.after

pub returns-in-Err-clause-after : goal.returns-in-Err-clause-after
returns-in-Err-clause-after g c =
    let held = g.H.Histories.held in
    let is : c.args.self.now.doubt ≡ Some c.in-Some.entry = search rules in
    doubt_kept (arc_value c.args.self.now.pairs) (held c.args.self.now.histories) c.args.self.now.stored c.settle_entry.new.stored c.args.self.now.doubt (Some c.in-Some.entry) c.requires.before c.in-Some.entry is (held c.settle_entry.new.histories)
    (Err c.in-Err.fault) c.in-Err.ensures.entries c.in-Err.ensures.settled c.settle_entry.ensures.data refl

pub returns-in-Err-clause-settled : goal.returns-in-Err-clause-settled
returns-in-Err-clause-settled g c =
    let held = g.H.Histories.held in
    let is : c.args.self.now.doubt ≡ Some c.in-Some.entry = search rules in
    doubt_stays (arc_value c.args.self.now.pairs) (held c.args.self.now.histories) c.args.self.now.stored c.settle_entry.new.stored c.args.self.now.doubt (Some c.in-Some.entry) c.requires.before c.in-Some.entry is (held c.settle_entry.new.histories)
    c.in-Err.fault c.in-Err.ensures.entries c.in-Err.ensures.settled refl
